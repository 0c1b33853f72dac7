-- What is made of the cells of a list and those of a file, by their regions.
use Rattle.std.proofs.Common.{◌≡◌, suc, ◌≤◌, ◌↔◌, List, [], ◌∷◌, All, arith, ap, ◌∙◌}
use Rattle.std.proofs.Math.Path.{fun_ext}
use Rattle.h3_index.specs.Cell.{Address, IsCell}
use Rattle.h3_set.specs.Compacted.{compacted}
use Rattle.h3_set.specs.Coverage.{finest, is_covered, IsCovered}
use Rattle.h3_functions.specs.Inspection.{for_value}
use Rattle.h3_command.specs.Required.{cell_given}
use Rattle.h3_regions.specs.Algebra.{difference, intersection}
use Rattle.h3_regions.specs.Laws.{CoveragesDecideDifferences, CoveragesDecideIntersections}
use Rattle.h3_regions.specs.Zones.{by_number, zone_of}
use Rattle.h3_lines.specs.Answer.{count_line, printed, truth_line, written, zone_line}
use Rattle.h3_command.specs.Combination.{region_answer}
use Rattle.h3_command.specs.Files.{counts_answer, zone_answer, zone_counts}
use Rattle.std.specs.Prelude.{Result, Ok, Err, IfOk, None, not, count_by, ◌++◌}
use Rattle.std.specs.List.{flat_map}
use Rattle.h3_regions.specs.Counting.{count_outside}

-- no valid cell is finer than resolution 15
pub fine : (cells : List Address) → All IsCell cells → finest cells ≤ 15
fine [] valid = omega arith
fine (c ∷ cells) valid =
    let own : IsCell c = valid 0 c (omega arith) in
    let rest : finest cells ≤ 15 = fine cells (λ k d lt. valid (suc k) d (omega (arith, lt))) in
    omega (arith, own.coarse, rest)

-- two lists cover the same at resolution 15
abbrev pub CoverAlike : List Address → List Address → Type 0
CoverAlike a b = (x : Address) → IsCovered a 15 x ↔ IsCovered b 15 x

pub shared_compacts : CoveragesDecideIntersections → (a b first second list copy : List Address) → All IsCell a
    → All IsCell b → All IsCell list → CoverAlike first a → CoverAlike second b
    → ((x : Address) → IsCovered list 15 x ↔ (IsCovered first 15 x × IsCovered second 15 x)) → copy ≡ list
    → compacted copy ≡ intersection a b
shared_compacts law a b first second list copy va vb vl alike_a alike_b covers is =
    ap compacted is
    ∙ law a b list va vb vl (λ x. (
      (λ h. let w = (covers x).0 h in ((alike_a x).0 w.0, (alike_b x).0 w.1)),
      (λ (p, q). (covers x).1 ((alike_a x).1 p, (alike_b x).1 q)),
    ))

pub left_compacts : CoveragesDecideDifferences → (a b first second list : List Address) → All IsCell a → All IsCell b
    → All IsCell list → CoverAlike first a → CoverAlike second b
    → ((x : Address) → IsCovered list 15 x ↔ (IsCovered first 15 x × (¬ IsCovered second 15 x)))
    → compacted list ≡ difference a b
left_compacts law a b first second list va vb vl alike_a alike_b covers =
    law a b list va vb vl (λ x. (
      (λ h. let w = (covers x).0 h in ((alike_a x).0 w.0, (λ q. w.1 ((alike_b x).1 q)))),
      (λ (p, not). (covers x).1 ((alike_a x).1 p, (λ q. not ((alike_b x).0 q)))),
    ))

-- a value of which two facts hold
pub ok_by_both : {T E : Type 0} (r : Result T E) (P Q S : T → Type 0) → ((x : T) → P x → Q x → S x) → IfOk r P
    → IfOk r Q
    → IfOk r S
ok_by_both (Ok x) P Q S both p q = both x p q
ok_by_both (Err e) P Q S both p q = p

-- ---- counts

-- the counts of zones are those of the zones in any order
pub counts_alike : (a b : List Address) → by_number a ≡ by_number b → ((x : Address) → is_covered a x ≡ is_covered b x)
    → counts_answer a ≡ counts_answer b
counts_alike a b ordered same =
    fun_ext (λ cells.
    let outside : count_outside a cells ≡ count_outside b cells =
    ap (λ p. count_by (λ x. not (p x)) cells) (fun_ext same) in
    ap (λ zones. written (flat_map count_line (zone_counts zones cells ++ (None, count_outside a cells) ∷ []))) ordered
    ∙ ap (λ n. written (flat_map count_line (zone_counts (by_number b) cells ++ (None, n) ∷ []))) outside)

-- ---- functions of one index

pub covered_alike : (a b : List Address) → ((x : Address) → is_covered a x ≡ is_covered b x)
    → region_answer a ≡ region_answer b
covered_alike a b same =
    fun_ext (λ index. ap (λ f. printed truth_line (for_value f (cell_given index))) (fun_ext (λ c. ap Ok (same c))))

pub zones_alike : (a b : List Address) → ((x : Address) → zone_of a x ≡ zone_of b x) → zone_answer a ≡ zone_answer b
zones_alike a b same =
    fun_ext (λ index. ap (λ f. printed zone_line (for_value f (cell_given index))) (fun_ext (λ c. ap Ok (same c))))
