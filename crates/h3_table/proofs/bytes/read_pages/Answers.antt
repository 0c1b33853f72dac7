use Rattle.std.proofs.Common.{◌≡◌, ◌<◌, ◌∙◌, true, refl, inl, inr, arith, rules}
use Rattle.std.proofs.lemmas.Result.{err_from_is_err_and}
use Rattle.h3_directions.specs.declared.error.TableError.TheVariants as fault
use Rattle.h3_table.proofs.ByteLaws.{reads_more, reads_some, reads_stopped}
use Rattle.h3_table.proofs.bytes.read_pages.Goals as goal

pub returns-in_default-clause-refused : goal.returns-in_default-clause-refused
returns-in_default-clause-refused g c =
    let (bytes, held, why) =
    reads_stopped c.loop-count.invariant.reads (g.R.Source.has_failed c.read.new.self.source.now ≡ true)
    c.in_default.ensures.err in
    (bytes, held, inr (refl, why))

pub loop-count-preserved : goal.loop-count-preserved
loop-count-preserved g c =
    let some : 0 < c.in-Ok.count = omega (arith, c.if-count-eq0.false) in
    record {
      reads =
          reads_more c.loop-count.invariant.reads _ c.read.new.self.reads_left c.read.new.page c.in-Ok.count _
          c.in-Ok.ensures.bytes some c.in-Ok.ensures.bound
          (c.read.auto.page ∙ c.loop-count.auto.page) c.in-Ok.ensures.counted (search rules);
      kept = c.in-Ok.ensures.ok ∙ c.loop-count.invariant.kept;
      same = search rules;
    }

pub returns-in_err-map_err-clause-refused : goal.returns-in_err-map_err-clause-refused
returns-in_err-map_err-clause-refused g c =
    let p = err_from_is_err_and c.from_residual.result c.from_residual.ensures.1 in
    let (bytes, held) = reads_some c.loop-count.invariant.reads in
    let memory : c.in_err-map_err.field-0.0 ≡ fault.Memory = search rules in
    rw (p.1, p.2) (bytes, held, inl memory)
