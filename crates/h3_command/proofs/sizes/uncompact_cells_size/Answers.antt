use Rattle.std.proofs.Common.{w32, to_z, of_z, ◌∙◌, ℤ, ap, ◌≡◌, ℕ, [], Option, Some, None, refl, rules, subst, inl}
use Rattle.std.specs.Prelude.{IfSome}
use Rattle.std.proofs.KnownBytes.{Keeps-refl}
use Rattle.std.proofs.lemmas.Int.{to_z-of_z}
use Rattle.std.proofs.lemmas.Result.{err_from_is_err_and}
use Rattle.h3_lines.specs.Answer.{number_line, printed}
use Rattle.h3_lines.specs.Reads.{source_use}
use Rattle.h3_lines.specs.Write.{sink_use}
use Rattle.h3_functions.specs.Sets.{uncompact_cells_size}
use Rattle.h3_lines.specs.List.{itself}
use Rattle.h3_command.specs.Rows.{list_form}
use Rattle.h3_command.specs.Sizes.{IsSizeOf}
use Rattle.h3_command.proofs.ListedCells.{numbered_ends, numbered_unanswered}
use Rattle.h3_command.proofs.sizes.uncompact_cells_size.Goals as goal

started : (resolution : Option ℕ) (r : ℕ) (P : ℕ → Type 0) → IfSome resolution (λ s. r ≡ s) → P r → IfSome resolution P
started None r P is known = tt
started (Some s) r P is known = subst P is known

pub returns-in_err-size : goal.returns-in_err-size
returns-in_err-size g c =
    let p = err_from_is_err_and c.from_residual.result c.from_residual.ensures.1 in
    let input = source_use g.R.Source.left g.R.Source.has_failed c.args.input.now c.take_listed.new.input in
    let out = sink_use g.W.Sink.taken g.W.Sink.has_failed c.args.out.now c.args.out.now in
    rw (p.1, p.2) (numbered_unanswered itself (list_form c.args.rows.now)
    (λ cells. printed number_line (uncompact_cells_size c.args.res cells)) input _ out c.in_err-size.ensures.refused
    (Keeps-refl _, refl))

pub returns : goal.returns
returns g c =
    let (cells, gives, taken) = c.in_ok-size.ensures.taken in
    let res = c.args.res in
    let size = c.in_ok-size.size in
    let r = c.nothing_taken.result.res in
    let first : IsSizeOf r [] c.nothing_taken.result.finer c.nothing_taken.result.total =
    record { is_finer = c.nothing_taken.ensures.finer; is_total = λ _. c.nothing_taken.ensures.total } in
    let read : ℤ = to_z w32 (of_z w32 res) in
    let same : read ≡ res = to_z-of_z w32 res (search rules) in
    let told : c.judged.result ≡ uncompact_cells_size res cells =
    c.judged.ensures cells
    (started _ r (λ s. IsSizeOf s cells size.finer size.total) c.nothing_taken.ensures.res (taken.1 [] first))
    ∙ ap (λ (x : ℤ). uncompact_cells_size x cells) same in
    let out = sink_use g.W.Sink.taken g.W.Sink.has_failed c.args.out.now c.write_result.new.out in
    let input = source_use g.R.Source.left g.R.Source.has_failed c.args.input.now c.take_listed.new.input in
    numbered_ends itself (list_form c.args.rows.now)
    (λ cells. printed number_line (uncompact_cells_size res cells)) cells input _ out gives
    (inl (rw told at c.write_result.ensures))
