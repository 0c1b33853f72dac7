-- The edges that leave a cell, as an iterator yields them: at most six.
use Rattle.std.proofs.Common.{◌≡◌, ℕ, suc, ◌+◌, ◌≤◌, Bool, true, false, List, [], ◌∷◌, length, filter, map, None, Some, Result, Ok, Err, sym, ap, ◌∙◌, refl, subst, arith}
use Rattle.std.proofs.lemmas.Iterator.{YieldsList}
use Rattle.std.proofs.lemmas.Iterator.Consumers.{YieldsList-end, YieldsList-turn}
use Rattle.std.specs.Iterator.{Yields, YieldsFirst}
use Rattle.h3_index.specs.Cell.{Address}
use Rattle.h3_index.specs.Edge.{DirectedEdge, directed_edge, has_edge}
use Rattle.h3_index.specs.declared.error.H3Error.{H3Error}
use Rattle.h3_directions.specs.Direction.{digit_of, directions}
use Rattle.h3_grid.specs.DirectedEdges.{edges_from}
use Rattle.h3_grid.specs.Iter.{edges_left}
use Rattle.h3_grid.specs.declared.iter.Edges.{Edges}
use Rattle.h3_functions.specs.Edges.{origin_to_directed_edges}
use Rattle.h3_functions.specs.Inspection.{cell_from, for_value}
use Rattle.h3_functions.specs.Items.{Lists}
use Rattle.h3_lines.specs.ItemLaws.{map_same}

map_length : {A B : Type 0} (f : A → B) (xs : List A) → length (map f xs) ≡ length xs
map_length f [] = refl
map_length f (x ∷ xs) = ap suc (map_length f xs)

one_more : (p : ℕ → Bool) (x : ℕ) (xs : List ℕ) (b : Bool) → p x ≡ b → length (filter p xs) ≤ length xs
    → length (filter p (x ∷ xs)) ≤ length xs + 1
one_more p x xs true is h = rw is (omega (arith, h))
one_more p x xs false is h = rw is (omega (arith, h))

filter_shorter : (p : ℕ → Bool) (xs : List ℕ) → length (filter p xs) ≤ length xs
filter_shorter p [] = omega arith
filter_shorter p (x ∷ xs) = let more : length (filter p (x ∷ xs)) ≤ length xs + 1 =
    one_more p x xs (p x) refl (filter_shorter p xs) in omega (arith, more)

six : (c : Address) → length (edges_from c) ≤ 6
unfolding edges_from
six c =
    let few : length (filter (has_edge c) (map digit_of directions)) ≤ 6 =
    filter_shorter (has_edge c) (map digit_of directions) in
    omega (arith, few, map_length (directed_edge c) (filter (has_edge c) (map digit_of directions)))

six_of : (found : Result Address H3Error) (all : List DirectedEdge) → for_value (λ c. Ok (edges_from c)) found ≡ Ok all
    → length all ≤ 6
six_of (Ok c) all is = let same : edges_from c ≡ all = cc is in subst (λ l. length l ≤ 6) same (six c)
six_of (Err e) all is = absurd (cc is)

listed : {s : Edges} (found : Result (List DirectedEdge) H3Error) → Lists (YieldsFirst edges_left) (Ok s) found
    → (all : List DirectedEdge) × (found ≡ Ok all) × YieldsList (YieldsFirst edges_left) (λ x. x) s all
listed (Ok all) e = (all, refl, record { runs = e })
listed (Err d) never = absurd never

pub at_most_six : {s : Edges} (index : ℕ) → Lists (YieldsFirst edges_left) (Ok s) (origin_to_directed_edges index)
    → (from : Edges) → from ≡ s → (xs : List DirectedEdge) (t : Edges) → Yields (YieldsFirst edges_left) from xs t
    → (u : Edges) (x : DirectedEdge) → YieldsFirst edges_left t (Some x) u → length xs + 1 ≤ 6
at_most_six index e from begins xs t y u x st =
    let (all, is, e1) = listed (origin_to_directed_edges index) e in
    let e2 : YieldsList (YieldsFirst edges_left) (λ x. x) from all =
    subst (λ z. YieldsList (YieldsFirst edges_left) (λ x. x) z all) (sym begins) e1 in
    let (less, here) = YieldsList-turn e2 xs t y (Some x) u x refl st in
    let few : length all ≤ 6 = six_of (cell_from index) all is in
    omega (arith, less, few)

pub all_edges : {s : Edges} (index : ℕ) → Lists (YieldsFirst edges_left) (Ok s) (origin_to_directed_edges index)
    → (from : Edges) → from ≡ s → (xs : List DirectedEdge) (t : Edges) → Yields (YieldsFirst edges_left) from xs t
    → (u : Edges) → YieldsFirst edges_left t None u → (origin_to_directed_edges index ≡ Ok xs) × (length xs ≤ 6)
all_edges index e from begins xs t y u st =
    let (all, is, e1) = listed (origin_to_directed_edges index) e in
    let e2 : YieldsList (YieldsFirst edges_left) (λ x. x) from all =
    subst (λ z. YieldsList (YieldsFirst edges_left) (λ x. x) z all) (sym begins) e1 in
    let same : xs ≡ all = sym (map_same xs) ∙ (YieldsList-end e2 xs t y None u refl st).0 in
    let few : length all ≤ 6 = six_of (cell_from index) all is in
    (is ∙ ap Ok (sym same), subst (λ l. length l ≤ 6) (sym same) few)
