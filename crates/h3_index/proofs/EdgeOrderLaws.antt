-- Numbers of edges are ordered by direction, then as the cells that they leave.
use Rattle.std.specs.Ordering.{nat_cmp}
use Rattle.std.proofs.Common.{ℕ, ◌≡◌, ◌+◌, ◌-◌, ◌*◌, ◌/◌, ◌^◌, ◌<◌, refl, arith, ◌∙◌, ap}
use Rattle.h3_index.specs.Cell.{Address, IsCell, number_of}
use Rattle.h3_index.specs.Edge.{DirectedEdge, IsEdge, edge_number}
use Rattle.h3_index.specs.Laws.{EdgeNumbersFollowFields}
use Rattle.h3_index.proofs.CellLaws.{mode-number_of}
use Rattle.h3_index.proofs.OrderLaws.{above_first, fields_order, shifted}

-- a cell's number without its mode
abbrev rest_of : Address → ℕ
rest_of c = number_of c - 2 ^ 59

split : (n d : ℕ) → n / 2 ^ 56 ≡ 8 → n + 2 ^ 59 + d * 2 ^ 56 ≡ (16 + d) * 2 ^ 56 + (n - 2 ^ 59)
split n d h = omega (arith, h)

small : (n : ℕ) → n / 2 ^ 56 ≡ 8 → n - 2 ^ 59 < 2 ^ 56
small n h = omega (arith, h)

whole : (n : ℕ) → n / 2 ^ 56 ≡ 8 → 2 ^ 59 + (n - 2 ^ 59) ≡ n
whole n h = omega (arith, h)

edge_number_is : (e : DirectedEdge) → IsEdge e → edge_number e ≡ (16 + e.direction) * 2 ^ 56 + rest_of e.origin
unfolding edge_number
edge_number_is e h = split (number_of e.origin) e.direction (mode-number_of e.origin h.origin_cell)

rests_order : (a b : Address) → IsCell a → IsCell b
    → nat_cmp (rest_of a) (rest_of b) ≡ nat_cmp (number_of a) (number_of b)
rests_order a b p q =
    shifted (2 ^ 59) (rest_of a) (rest_of b)
    ∙ ap (λ n. nat_cmp n (2 ^ 59 + rest_of b)) (whole (number_of a) (mode-number_of a p))
    ∙ ap (nat_cmp (number_of a)) (whole (number_of b) (mode-number_of b q))

pub edges_order : EdgeNumbersFollowFields
edges_order a b p q =
    rw (
      edge_number_is a p,
      edge_number_is b q,
      ← above_first (2 ^ 56) (16 + a.direction) (16 + b.direction) (rest_of a.origin) (rest_of b.origin)
          (small (number_of a.origin) (mode-number_of a.origin p.origin_cell))
          (small (number_of b.origin) (mode-number_of b.origin q.origin_cell)),
      ← shifted 16 a.direction b.direction,
      rests_order a.origin b.origin p.origin_cell q.origin_cell,
      fields_order a.origin b.origin p.origin_cell q.origin_cell,
    )
    refl
