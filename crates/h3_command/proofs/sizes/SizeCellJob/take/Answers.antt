use Rattle.std.proofs.Common.{w32, to_z, of_z, ◌≡◌, ◌≤◌, ◌+◌, ◌∷◌, ◌++◌, ◌∙◌, [], ℕ, ℤ, pos, Bool, true, false, List, Option, Some, None, length, ap, arith, refl, rules, sym}
use Rattle.std.specs.Prelude.{◌||◌, nat_lt, unsigned_abs, if◌then◌else◌}
use Rattle.std.specs.List.{list_any}
use Rattle.std.proofs.lemmas.Grind.{common_steps, flat_map-append}
use Rattle.std.proofs.lemmas.Int.{to_z-of_z}
use Rattle.h3_index.specs.Cell.{Address, resolution}
use Rattle.h3_index.specs.Count.{number_below, resolution_of}
use Rattle.h3_index.specs.Descendants.{descendants}
use Rattle.h3_index.specs.declared.error.H3Error.{H3Error}
use Rattle.h3_index.specs.declared.error.H3Error.TheVariants.{ResDomain}
use Rattle.h3_tree.specs.Refusals.{descent_refusal}
use Rattle.h3_set.specs.Uncompaction.{uncompacted}
use Rattle.h3_command.specs.Sizes.{IsSizeOf}
use Rattle.h3_command.proofs.sizes.SizeCellJob.take.Goals as goal

-- ---- which cells are refused

is_resolution : (r : ℕ) → r ≤ 15 → resolution_of (pos r) ≡ Some r
unfolding number_below
is_resolution r few = let below : nat_lt r 16 ≡ true =
    first_of (search rules, grind (arith, common_steps)) in rw below refl

refusal : (m r : ℕ) → r ≤ 15 → descent_refusal m (pos r) ≡ (if nat_lt r m then Some ResDomain else None)
refusal m r few = rw (is_resolution r few) refl

none_false : (k : Bool) → (let none : Option H3Error = None in none) ≡ (if k then Some ResDomain else None) → k ≡ false
none_false false e = refl
none_false true e = cc e

some_true : (k : Bool) (error : H3Error) → Some error ≡ (if k then Some ResDomain else None) → k ≡ true
some_true true error e = refl
some_true false error e = cc e

-- ---- one cell more

or_false : (k : Bool) → (k || false) ≡ k
or_false true = refl
or_false false = refl

or_true : (k : Bool) → (k || true) ≡ true
or_true true = refl
or_true false = refl

any_more : (p : Address → Bool) (before : List Address) (c : Address)
    → list_any p (before ++ c ∷ []) ≡ (list_any p before || p c)
any_more p [] c = or_false (p c)
any_more p (b ∷ before) c = let rest = any_more p before c in grind (arith, common_steps, rest)

sum_more : (r : ℕ) (before : List Address) (c : Address)
    → length (uncompacted (before ++ c ∷ []) r) ≡ length (uncompacted before r) + length (descendants c r)
sum_more r before c = let parts = flat_map-append (λ x. descendants x r) before (c ∷ []) in
    grind (arith, common_steps, parts)

adds : (r : ℕ) (before : List Address) (c : Address) (finer : Bool) (total size : ℕ) → IsSizeOf r before finer total
    → nat_lt r (resolution c) ≡ false
    → size ≡ length (descendants c r) → IsSizeOf r (before ++ c ∷ []) finer (total + size)
adds r before c finer total size h not_finer is =
    let p = λ (x : Address). nat_lt r (resolution x) in
    record {
      is_finer =
          h.is_finer
          ∙ sym (any_more p before c ∙ ap (λ k. list_any p before || k) not_finer ∙ or_false (list_any p before));
      is_total = λ none. rw (h.is_total none, is) (sym (sum_more r before c));
    }

refuses : (r : ℕ) (before : List Address) (c : Address) (finer : Bool) (total : ℕ) → IsSizeOf r before finer total
    → nat_lt r (resolution c) ≡ true
    → IsSizeOf r (before ++ c ∷ []) true total
refuses r before c finer total h is_finer =
    let p = λ (x : Address). nat_lt r (resolution x) in
    record {
      is_finer = sym (any_more p before c ∙ ap (λ k. list_any p before || k) is_finer ∙ or_true (list_any p before));
      is_total = λ e. cc e;
    }

pub returns-in-Ok-clause-ok : goal.returns-in-Ok-clause-ok
returns-in-Ok-clause-ok c =
    let r = c.args.self.now.res in
    let cell = c.args.cell in
    let z : ℤ = to_z w32 (of_z w32 c.from.result) in
    let same : z ≡ pos r = to_z-of_z w32 c.from.result (search rules) ∙ c.from.ensures in
    let not_finer =
    none_false _ (c.in-Ok.ensures.refused ∙ ap (descent_refusal (resolution cell)) same
    ∙ refusal (resolution cell) r c.args.self.now.at_most_fifteen) in
    let size : c.from-in-Ok.result ≡ length (descendants cell r) =
    c.from-in-Ok.ensures ∙ c.in-Ok.ensures.count
    ∙ ap (λ (x : ℤ). length (descendants cell (unsigned_abs x))) same in
    (refl, λ before h. adds r before cell _ _ _ h not_finer size)

pub returns-in-Err-clause-ok : goal.returns-in-Err-clause-ok
returns-in-Err-clause-ok c =
    let r = c.args.self.now.res in
    let cell = c.args.cell in
    let z : ℤ = to_z w32 (of_z w32 c.from.result) in
    let same : z ≡ pos r = to_z-of_z w32 c.from.result (search rules) ∙ c.from.ensures in
    let finer =
    some_true _ _ (c.in-Err.ensures.refused ∙ ap (descent_refusal (resolution cell)) same
    ∙ refusal (resolution cell) r c.args.self.now.at_most_fifteen) in
    (refl, λ before h. refuses r before cell _ _ h finer)
