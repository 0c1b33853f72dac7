use Rattle.std.proofs.Common.{rules, take, ap}
use Rattle.h3_streams.specs.Counted.{source_of}
use Rattle.h3_lines.proofs.EndsEach.{ends_each}
use Rattle.h3_lines.proofs.each.answer_lines.Goals as goal

pub returns-clause-ends : goal.returns-clause-ends
returns-clause-ends g c =
    let after = source_of c.drive-ending.new.reader in
    let ends =
    ends_each g.W.Sink.taken g.W.Sink.has_failed (λ v. g.A.Answering.answer_of v.function.now) (λ v. v.held.number)
    (λ v. take v.held.end v.held.block) (λ v. v.held.out.now) _ _ _
    (λ v w ls t. t.0) (λ v w ls t. ap (λ f. g.A.Answering.answer_of f.now) t.1) (λ v w ls e r. r.0)
    (λ v is. ap (λ n. take n v.held.block) is)
    c.args.answers.now c.drive-ending.new.job (g.R.Source.left c.args.input.now) (g.R.Source.left after)
    (g.R.Source.has_failed c.args.input.now) (g.R.Source.has_failed after) c.drive-ending.result c.requires.first
    (ap (λ n. take n c.args.answers.now.held.block) c.requires.empty)
    (rw (c.new-reader.ensures.source, c.new-reader.ensures.limit) at c.drive-ending.ensures.ok)
    c.drive-ending.ensures.settled (rw c.new-reader.ensures.source at c.drive-ending.ensures.sound)
    (rw (c.new-reader.ensures.source, c.new-reader.ensures.limit) at c.drive-ending.ensures.err) in
    search (rules, ends, c.drive-ending.ensures.same)
