use Rattle.std.proofs.Common.{rules, refl}
use Rattle.std.proofs.lemmas.Result.{err_from_is_err_and}
use Rattle.h3_streams.specs.Counted.{source_of}
use Rattle.h3_lines.proofs.Listed.{list_read, list_refused}
use Rattle.h3_lines.specs.Reads.{source_use}
use Rattle.h3_lines.proofs.taking.take_list.Goals as goal

pub returns-clause-taken : goal.returns-clause-taken
returns-clause-taken g c =
    let input = source_use g.R.Source.left g.R.Source.has_failed c.args.input.now (source_of c.drive-read.new.reader) in
    let all = rw (c.new-reader.ensures.source, c.new-reader.ensures.limit) at c.in_ok-read.ensures.ok in
    let sound = rw c.new-reader.ensures.source at c.in_ok-read.ensures.sound in
    let read =
    list_read (λ v. (g.F.CellOf.says v.function, v.number))
    (λ v cells w. g.V.CellJob.taken v.job cells w.job) _ _ input c.args.limit _ all sound in
    search (rules, read, c.drive-read.ensures.same)

pub returns-in_err-read-clause-refused : goal.returns-in_err-read-clause-refused
returns-in_err-read-clause-refused g c =
    let p = err_from_is_err_and c.from_residual.result c.from_residual.ensures.1 in
    let input = source_use g.R.Source.left g.R.Source.has_failed c.args.input.now (source_of c.drive-read.new.reader) in
    let stops = rw (c.new-reader.ensures.source, c.new-reader.ensures.limit) at c.in_err-read.ensures.err in
    let refused =
    list_refused (λ v. (g.F.CellOf.says v.function, v.number))
    (λ v cells w. g.V.CellJob.taken v.job cells w.job) _ _ _ input c.args.limit _ refl stops in
    rw (p.1, p.2) (search (rules, refused, c.drive-read.ensures.same))
