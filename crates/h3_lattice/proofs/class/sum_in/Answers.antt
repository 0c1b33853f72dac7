use Rattle.h3_lattice.proofs.EntryLaws.{entry_sum}
use Rattle.h3_lattice.proofs.class.sum_in.Goals as goal

pub returns-clause-sum : goal.returns-clause-sum
returns-clause-sum c = λ class d is. rw is (entry_sum class c.args.digit d c.requires.digit)
