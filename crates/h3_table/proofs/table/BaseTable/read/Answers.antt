use Rattle.std.proofs.Common.{◌∙◌, ℕ, List, rules, refl, ap, sym, subst, inl, inr}
use Rattle.std.proofs.lemmas.Result.{err_from_is_err_and, IfOk-weaker, IfErr-weaker}
use Rattle.h3_table.specs.Fields.{records_of}
use Rattle.h3_table.specs.Table.{RefusesTable, links_of, table_fault}
use Rattle.h3_table.proofs.FaultLaws.{faults_are_first}
use Rattle.h3_table.proofs.FormLaws.{sound_files_are_accepted}
use Rattle.h3_table.proofs.SoundLaws.{checks_mean_sound}
use Rattle.h3_table.proofs.TableLaws.{refuses_more, stops}
use Rattle.h3_table.proofs.table.BaseTable.read.Goals as goal

pub returns-in_err-text-clause-refused : goal.returns-in_err-text-clause-refused
returns-in_err-text-clause-refused g c =
    let p = err_from_is_err_and c.from_residual.result c.from_residual.ensures.1 in
    let (bytes, left, why) = c.in_err-text.ensures.refused in
    rw (p.1, p.2) (
      bytes,
      left,
      stops _ _ _ why,
      λ read memory.
          elim why [ inl out_of_memory ↦ absurd (memory out_of_memory) | inr failed ↦ absurd (read failed.0) ],
    )

pub returns-clause-accepted : goal.returns-clause-accepted
returns-clause-accepted g c = IfOk-weaker c.from_csv.result _ _
    (λ table done. (
      c.in_ok-text.text.items,
      c.in_ok-text.ensures.bytes.0,
      search rules,
      ap (λ (t : List ℕ). table_fault (records_of t)) (sym c.as_slice.ensures.value) ∙ done.0,
      done.1 ∙ ap (λ (t : List ℕ). links_of (records_of t)) c.as_slice.ensures.value,
    )) c.from_csv.ensures.accepted

pub returns-clause-refused : goal.returns-clause-refused
returns-clause-refused g c = IfErr-weaker c.from_csv.result _ _
    (λ e done. (
      c.in_ok-text.text.items,
      c.in_ok-text.ensures.bytes.0,
      refuses_more _ _ e
          (subst (λ (t : List ℕ). RefusesTable ⊥ (table_fault (records_of t)) e) c.as_slice.ensures.value done),
      λ read memory. c.in_ok-text.ensures.bytes.1,
    )) c.from_csv.ensures.refused

pub returns-in_err-text-clause-exact : goal.returns-in_err-text-clause-exact
returns-in_err-text-clause-exact g c = sound_files_are_accepted

pub returns-clause-exact : goal.returns-clause-exact
returns-clause-exact g c = sound_files_are_accepted

pub returns-in_err-text-clause-checks : goal.returns-in_err-text-clause-checks
returns-in_err-text-clause-checks g c = checks_mean_sound

pub returns-clause-checks : goal.returns-clause-checks
returns-clause-checks g c = checks_mean_sound

pub returns-in_err-text-clause-first : goal.returns-in_err-text-clause-first
returns-in_err-text-clause-first g c = faults_are_first

pub returns-clause-first : goal.returns-clause-first
returns-clause-first g c = faults_are_first

pub returns-in_err-text-clause-whole : goal.returns-in_err-text-clause-whole
returns-in_err-text-clause-whole g c = λ read memory bytes known.
    let p = err_from_is_err_and c.from_residual.result c.from_residual.ensures.1 in
    elim c.in_err-text.ensures.refused.2 [
      | inl out_of_memory ↦ absurd (memory (rw (p.1, p.2, out_of_memory) refl))
      | inr failed ↦ absurd (read (rw (p.1, p.2, failed.0) refl))
    ]
