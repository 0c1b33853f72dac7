-- Directed edges: those of a cell, those between two cells, and where they lead.
use Rattle.std.specs.Cmp.Derive.{both_true}
use Rattle.std.specs.List.{range_with_len}
use Rattle.std.specs.Result.{result_err}
use Rattle.std.proofs.Common.{ℕ, zero, suc, ◌≡◌, ◌≢◌, ◌<◌, ◌≤◌, ◌+◌, ◌-◌, ◌==◌, nat_lt, List, [], ◌∷◌, map, MatchOption, AllPairs, Contains, Bool, true, false, not, ◌&&◌, if◌then◌else◌, Some, None, Result, Ok, Err, IfOk, IfErr, refl, arith, sym, ap, ◌∙◌, subst, rules}
use Rattle.std.proofs.lemmas.Bool.{false≢true}
use Rattle.std.proofs.lemmas.Bool.Decides.{nat_tests}
use Rattle.h3_index.specs.Cell.{Address, IsCell, is_pentagon, is_pentagon_base}
use Rattle.h3_index.specs.Edge.{DirectedEdge, IsEdge, direction_refusal, directed_edge, has_edge}
use Rattle.h3_index.specs.declared.error.H3Error.{H3Error}
use Rattle.h3_index.specs.declared.error.H3Error.TheVariants.{DirEdgeInvalid, NotNeighbors, Pentagon}
use Rattle.h3_directions.specs.declared.direction.Direction.{Direction}
use Rattle.h3_directions.specs.declared.direction.Direction.TheVariants.{K, J, JK, I, IK, IJ}
use Rattle.h3_directions.specs.Direction.{digit_of, direction_of}
use Rattle.h3_table.specs.Links.{Links}
use Rattle.h3_grid.specs.DirectedEdges.{IsDestination, IsEdgeBetween, ListsEdges, edge_between, edge_destination, edge_refusal, edges_from}
use Rattle.h3_grid.specs.Neighbors.{AreNeighbors, DirectionsAreFound, direction_to, neighbor}
use Rattle.h3_grid.proofs.ListLaws.{from_map, in_map}
use Rattle.h3_grid.proofs.NeighborLaws.{from_hexagon}

-- ---- digits of directions

small_digit : (d : Direction) → digit_of d < 7
small_digit K = omega arith
small_digit J = omega arith
small_digit JK = omega arith
small_digit I = omega arith
small_digit IK = omega arith
small_digit IJ = omega arith

some_digit : (d : Direction) → 0 < digit_of d
some_digit K = omega arith
some_digit J = omega arith
some_digit JK = omega arith
some_digit I = omega arith
some_digit IK = omega arith
some_digit IJ = omega arith

direction_of-digit : (d : Direction) → direction_of (digit_of d) ≡ Some d
direction_of-digit K = refl
direction_of-digit J = refl
direction_of-digit JK = refl
direction_of-digit I = refl
direction_of-digit IK = refl
direction_of-digit IJ = refl

one_direction : (d e : Direction) → digit_of d ≡ digit_of e → d ≡ e
one_direction d e h =
    let same : Some d ≡ Some e = sym (direction_of-digit d) ∙ ap direction_of h ∙ direction_of-digit e in
    cc

-- ---- which directions a cell has edges in

not_deleted : (p : Bool) (d : ℕ) → (p ≡ true → d ≢ 1) → not (p && d == 1) ≡ true
not_deleted false d h = refl
not_deleted true d h = let other = h refl in let test : (d == 1) ≡ false = grind (arith, nat_tests) in rw test refl

has_edge-true : (c : Address) (d : ℕ) → 0 < d → d < 7 → (is_pentagon c ≡ true → d ≢ 1) → has_edge c d ≡ true
has_edge-true c d some small left =
    let some_test : nat_lt 0 d ≡ true = grind (arith, nat_tests) in
    let small_test : nat_lt d 7 ≡ true = grind (arith, nat_tests) in
    both_true (both_true some_test small_test) (not_deleted (is_pentagon c) d left)

not_pentagon : (c : Address) → is_pentagon_base c.base ≡ false → is_pentagon c ≡ true → ⊥
not_pentagon c h e = false≢true (sym (by_test h) ∙ e)
  where
    by_test : is_pentagon_base c.base ≡ false → is_pentagon c ≡ false
    by_test h = rw h refl

refused_test : (b : Bool) (e : H3Error) → Some e ≡ (if b then None else Some DirEdgeInvalid) → b ≡ false
refused_test true e h = let no : Some e ≡ None = h in cc
refused_test false e h = refl

-- no edge is left where the next direction is refused
pub past_end : (c : Address) (d : ℕ) (e : H3Error) → 0 < d → d ≤ 7 → (is_pentagon c ≡ true → d ≢ 1)
    → Some e ≡ direction_refusal c d → d ≡ 7
past_end c d e some most left h = by_test (nat_lt d 7) refl
  where
    by_test : (b : Bool) → nat_lt d 7 ≡ b → d ≡ 7
    by_test true t =
        let small : d < 7 = grind (arith, nat_tests) in
        absurd (false≢true (sym (refused_test (has_edge c d) e h) ∙ has_edge-true c d some small left))
    by_test false t = let large : 7 ≤ d = grind (arith, nat_tests) in omega (arith, most, large)

-- ---- the edges from a direction on

pub ended : (c : Address) (d : ℕ) → d ≡ 7 → map (directed_edge c) (range_with_len d (7 - d)) ≡ []
ended c d h = rw h refl

pub next_edge : (c : Address) (d : ℕ) (e : DirectedEdge) → d < 7 → e ≡ directed_edge c d
    → map (directed_edge c) (range_with_len d (7 - d))
    ≡ e ∷ map (directed_edge c) (range_with_len (d + 1) (7 - (d + 1)))
next_edge c d e h is =
    let more : 7 - d ≡ suc (6 - d) = omega arith in
    let fewer : 7 - (d + 1) ≡ 6 - d = omega arith in
    rw (more, fewer, is) refl

-- ---- the list of the edges of a cell

-- the directions of the edges of a hexagon, and of a pentagon
abbrev edge_directions : Bool → List ℕ
edge_directions false = 1 ∷ 2 ∷ 3 ∷ 4 ∷ 5 ∷ 6 ∷ []
edge_directions true = 2 ∷ 3 ∷ 4 ∷ 5 ∷ 6 ∷ []

directions_are : (c : Address) (b : Bool) → is_pentagon c ≡ b → edges_from c ≡ map (directed_edge c) (edge_directions b)
unfolding edges_from
directions_are c true h = rw h refl
directions_are c false h = rw h refl

pub from_two : (c : Address) → is_pentagon c ≡ true → map (directed_edge c) (range_with_len 2 5) ≡ edges_from c
from_two c h = sym (directions_are c true h)

pub from_one : (c : Address) → is_pentagon c ≡ false → map (directed_edge c) (range_with_len 1 6) ≡ edges_from c
from_one c h = sym (directions_are c false h)

record IsDirection (p : Bool) (d : ℕ) : Type 0 where
  some : 0 < d
  small : d < 7
  left : p ≡ true → d ≢ 1

in_list : (p : Bool) (d : ℕ) → Contains (edge_directions p) d → IsDirection p d
in_list true d (zero, lt, e) =
    record { some = omega (arith, e); small = omega (arith, e); left = λ _ one. omega (arith, e, one) }
in_list true d (suc zero, lt, e) =
    record { some = omega (arith, e); small = omega (arith, e); left = λ _ one. omega (arith, e, one) }
in_list true d (suc (suc zero), lt, e) =
    record { some = omega (arith, e); small = omega (arith, e); left = λ _ one. omega (arith, e, one) }
in_list true d (suc (suc (suc zero)), lt, e) =
    record { some = omega (arith, e); small = omega (arith, e); left = λ _ one. omega (arith, e, one) }
in_list true d (suc (suc (suc (suc zero))), lt, e) =
    record { some = omega (arith, e); small = omega (arith, e); left = λ _ one. omega (arith, e, one) }
in_list true d (suc (suc (suc (suc (suc k)))), lt, e) = absurd (omega (arith, lt))
in_list false d (zero, lt, e) =
    record { some = omega (arith, e); small = omega (arith, e); left = λ no. absurd (false≢true no) }
in_list false d (suc zero, lt, e) =
    record { some = omega (arith, e); small = omega (arith, e); left = λ no. absurd (false≢true no) }
in_list false d (suc (suc zero), lt, e) =
    record { some = omega (arith, e); small = omega (arith, e); left = λ no. absurd (false≢true no) }
in_list false d (suc (suc (suc zero)), lt, e) =
    record { some = omega (arith, e); small = omega (arith, e); left = λ no. absurd (false≢true no) }
in_list false d (suc (suc (suc (suc zero))), lt, e) =
    record { some = omega (arith, e); small = omega (arith, e); left = λ no. absurd (false≢true no) }
in_list false d (suc (suc (suc (suc (suc zero)))), lt, e) =
    record { some = omega (arith, e); small = omega (arith, e); left = λ no. absurd (false≢true no) }
in_list false d (suc (suc (suc (suc (suc (suc k))))), lt, e) = absurd (omega (arith, lt))

to_list : (p : Bool) (d : ℕ) → IsDirection p d → Contains (edge_directions p) d
to_list p zero h = absurd (omega (arith, h.some))
to_list false (suc zero) h = (0, omega arith, refl)
to_list false (suc (suc zero)) h = (1, omega arith, refl)
to_list false (suc (suc (suc zero))) h = (2, omega arith, refl)
to_list false (suc (suc (suc (suc zero)))) h = (3, omega arith, refl)
to_list false (suc (suc (suc (suc (suc zero))))) h = (4, omega arith, refl)
to_list false (suc (suc (suc (suc (suc (suc zero)))))) h = (5, omega arith, refl)
to_list true (suc zero) h = absurd (h.left refl refl)
to_list true (suc (suc zero)) h = (0, omega arith, refl)
to_list true (suc (suc (suc zero))) h = (1, omega arith, refl)
to_list true (suc (suc (suc (suc zero)))) h = (2, omega arith, refl)
to_list true (suc (suc (suc (suc (suc zero))))) h = (3, omega arith, refl)
to_list true (suc (suc (suc (suc (suc (suc zero)))))) h = (4, omega arith, refl)
to_list p (suc (suc (suc (suc (suc (suc (suc n))))))) h = absurd (omega (arith, h.small))

rising : (c : Address) (p : Bool)
    → AllPairs (λ (a : DirectedEdge) b. a.direction < b.direction) (map (directed_edge c) (edge_directions p))
rising c true = search rules
rising c false = search rules

pub listed : (c : Address) → IsCell c → ListsEdges c (edges_from c)
listed c v = record {
  each = λ e. (to e, from e);
  ascending = subst (AllPairs (λ a b. a.direction < b.direction)) (sym is) (rising c (is_pentagon c));
}
  where
    is : edges_from c ≡ map (directed_edge c) (edge_directions (is_pentagon c))
    is = directions_are c (is_pentagon c) refl

    to : (e : DirectedEdge) → Contains (edges_from c) e → IsEdge e × (e.origin ≡ c)
    to e m =
        let at = from_map (directed_edge c) (edge_directions (is_pentagon c)) e (subst (λ l. Contains l e) is m) in
        let d = in_list (is_pentagon c) at.0 at.1 in
        let valid : IsEdge (directed_edge c at.0) =
        record { origin_cell = v; some_direction = d.some; direction_small = d.small; not_deleted = d.left } in
        (subst IsEdge at.2 valid, sym (ap (λ (x : DirectedEdge). x.origin) at.2))

    from : (e : DirectedEdge) → IsEdge e × (e.origin ≡ c) → Contains (edges_from c) e
    from e (h, of) =
        let left : is_pentagon c ≡ true → e.direction ≢ 1 =
        subst (λ a. is_pentagon a ≡ true → e.direction ≢ 1) of h.not_deleted in
        let d : IsDirection (is_pentagon c) e.direction =
        record { some = h.some_direction; small = h.direction_small; left = left } in
        let same : directed_edge c e.direction ≡ e = λ i. directed_edge (sym of i) e.direction in
        subst (λ l. Contains l e) (sym is)
        (subst (Contains (map (directed_edge c) (edge_directions (is_pentagon c)))) same (in_map (directed_edge c)
        (edge_directions (is_pentagon c)) e.direction (to_list (is_pentagon c) e.direction d)))

-- ---- which pairs of cells are refused

-- the error of a pair that is refused, and of one that is not
abbrev pub Refused : Links → Address → Address → Result DirectedEdge H3Error → Type 0
Refused link x y r =
    MatchOption (edge_refusal x y) (IfErr r (λ e. (e ≡ NotNeighbors) × (AreNeighbors link x y → ⊥))) (λ e. r ≡ Err e)

pub edge-refused : (link : Links) (x y : Address) (e : H3Error) → Some e ≡ edge_refusal x y
    → Err e ≡ edge_between link x y
unfolding edge_between
edge-refused link x y e h = rw (← h) refl

pub edge-none : (link : Links) (x y : Address) → None ≡ edge_refusal x y → None ≡ direction_to link x y
    → Err NotNeighbors ≡ edge_between link x y
unfolding edge_between
edge-none link x y h none = rw (← h, ← none) refl

-- ---- the edge that is made

-- the cell is in a hexagon base cell, so that it has an edge in the direction
record IsMade (c : Address) (d : Direction) (r : Result DirectedEdge H3Error) : Type 0 where
  is : r ≡ Ok (directed_edge c (digit_of d))
  valid : IsEdge (directed_edge c (digit_of d))

made : (c : Address) (d : Direction) (r : Result DirectedEdge H3Error) → is_pentagon_base c.base ≡ false
    → IfOk r (λ e. (e ≡ directed_edge c (digit_of d)) × IsEdge e) → result_err r ≡ direction_refusal c (digit_of d)
    → IsMade c d r
made c d (Ok e) hex h k = record { is = ap (λ x. Ok x) h.0; valid = subst IsEdge h.0 h.1 }
made c d (Err e) hex h k =
    absurd (false≢true (sym (refused_test (has_edge c (digit_of d)) e k)
    ∙ has_edge-true c (digit_of d) (some_digit d) (small_digit d) (λ p. absurd (not_pentagon c hex p))))

pub record IsFound (link : Links) (x y : Address) (r : Result DirectedEdge H3Error) : Type 0 where
  pub is : r ≡ edge_between link x y
  pub leads : IfOk r (IsEdgeBetween link x y)
  pub refused : Refused link x y r

found_by : (link : Links) (x y : Address) (d : Direction) (r : Result DirectedEdge H3Error) → neighbor link x d ≡ Some y
    → edge_refusal x y ≡ None → Some d ≡ direction_to link x y → IsMade x d r → IsFound link x y r
unfolding edge_between
found_by link x y d r leads h some m =
    let between : IsEdgeBetween link x y (directed_edge x (digit_of d)) =
    record { valid = m.valid; leaves = refl; leads = record { direction = d; digit_is = refl; leads = leads } } in
    record {
      is = m.is ∙ (rw (h, ← some) refl);
      leads = rw m.is between;
      refused = rw (h, m.is) tt;
    }

pub edge_found : (link : Links) (x y : Address) (d : Direction) (n : ℕ) (r : Result DirectedEdge H3Error)
    → DirectionsAreFound link → IsCell x → IsCell y → None ≡ edge_refusal x y → Some d ≡ direction_to link x y
    → n ≡ digit_of d → IfOk r (λ e. (e ≡ directed_edge x n) × IsEdge e) → result_err r ≡ direction_refusal x n
    → IsFound link x y r
edge_found link x y d n r found v u h some is ok refused =
    let leads = (found x y d v u).0 (sym some) in
    let hexagon = (from_hexagon link x y d v leads).hexagon.1 in
    found_by link x y d r leads (sym h) some (made x d r hexagon
    (subst (λ k. IfOk r (λ e. (e ≡ directed_edge x k) × IsEdge e)) is ok)
    (subst (λ k. result_err r ≡ direction_refusal x k) is refused))

-- ---- where an edge leads

pub record LeadsTo (link : Links) (e : DirectedEdge) (y : Address) : Type 0 where
  pub is : Ok y ≡ edge_destination link e
  pub leads : IsDestination link e y

pub leads_to : (link : Links) (e : DirectedEdge) (d : Direction) (y : Address) → digit_of d ≡ e.direction
    → neighbor link e.origin d ≡ Some y → LeadsTo link e y
unfolding edge_destination
leads_to link e d y digit n = record {
  is = rw (← digit, direction_of-digit d, n) refl;
  leads = record { direction = d; digit_is = sym digit; leads = n };
}

pub record LeadsNowhere (link : Links) (e : DirectedEdge) : Type 0 where
  pub is : Err Pentagon ≡ edge_destination link e
  pub none : (y : Address) → IsDestination link e y → ⊥

pub leads_nowhere : (link : Links) (e : DirectedEdge) (d : Direction) → digit_of d ≡ e.direction
    → neighbor link e.origin d ≡ None → LeadsNowhere link e
unfolding edge_destination
leads_nowhere link e d digit n = record {
  is = rw (← digit, direction_of-digit d, n) refl;
  none = λ y h. (let one : h.direction ≡ d = one_direction h.direction d (sym h.digit_is ∙ sym digit) in
      some_none y (sym h.leads ∙ ap (neighbor link e.origin) one ∙ n));
}
  where
    some_none : (y : Address) → Some y ≡ None → ⊥
    some_none y e = cc
