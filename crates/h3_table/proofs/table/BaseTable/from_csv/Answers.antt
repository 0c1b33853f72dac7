use Rattle.std.proofs.Common.{refl}
use Rattle.std.proofs.lemmas.Result.{err_from_is_err_and, IfOk-weaker, IfErr-weaker}
use Rattle.h3_table.specs.BaseTable.{link_of}
use Rattle.h3_table.proofs.TableLaws.{accepts, refuses_links, refuses_missing, refuses_records}
use Rattle.h3_table.proofs.table.BaseTable.from_csv.Goals as goal

pub returns-in_err-slots-clause-refused : goal.returns-in_err-slots-clause-refused
returns-in_err-slots-clause-refused c =
    let p = err_from_is_err_and c.from_residual.result c.from_residual.ensures.1 in
    rw (p.1, p.2) (refuses_records ⊥ _ _ _ refl c.in_err-slots.ensures.refused)

pub returns-in-Some-clause-refused : goal.returns-in-Some-clause-refused
returns-in-Some-clause-refused c =
    refuses_missing ⊥ c.in_ok-slots.slots c.args.file.now _ c.first_fault.result c.in-Some.fault refl
    c.in_ok-slots.ensures.read c.first_fault.ensures c.in-Some.is

pub returns-in-None-clause-accepted : goal.returns-in-None-clause-accepted
returns-in-None-clause-accepted c = IfOk-weaker c.new.result _ _
    (λ table done.
    accepts c.in_ok-slots.slots c.filled.result c.args.file.now _ c.first_fault.result (link_of table) refl
    c.in_ok-slots.ensures.read c.first_fault.ensures c.in-None.is c.filled.ensures.same done.0 done.1)
    c.new.ensures.accepted

pub returns-in-None-clause-refused : goal.returns-in-None-clause-refused
returns-in-None-clause-refused c = IfErr-weaker c.new.result _ _
    (λ e done. refuses_links ⊥ c.in_ok-slots.slots c.filled.result c.args.file.now _ c.first_fault.result e refl
    c.in_ok-slots.ensures.read c.first_fault.ensures c.in-None.is c.filled.ensures.same done) c.new.ensures.refused
