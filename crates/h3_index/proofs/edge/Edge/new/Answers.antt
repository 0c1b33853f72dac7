use Rattle.std.proofs.Common.{◌≡◌, ◌≢◌, ◌/◌, ◌^◌, ℕ, bit_and, refl, sym, ◌∙◌}
use Rattle.std.proofs.lemmas.Nat.{and_mask}
use Rattle.h3_index.specs.Edge.{DirectedEdge, IsEdge, edge_number}
use Rattle.h3_index.proofs.EdgeLaws.{Stands, bits_of, edge_in-none, made_accepted, made_read, made_refused}
use Rattle.h3_index.proofs.edge.Edge.new.Goals as goal

-- a number of another mode
other_mode : (m : ℕ) → (m / 2 ^ 59 ≡ 2 → ⊥) → (e : DirectedEdge) → IsEdge e → edge_number e ≢ m
other_mode m h e valid is = h (bits_of e m valid is).mode

pub returns-then-raw-ne2-clause-read : goal.returns-then-raw-ne2-clause-read
returns-then-raw-ne2-clause-read c = sym (edge_in-none c.args.raw (other_mode c.args.raw c.if-raw-ne2.true))

pub returns-then-raw-ne2-clause-refused : goal.returns-then-raw-ne2-clause-refused
returns-then-raw-ne2-clause-refused c = (refl, other_mode c.args.raw c.if-raw-ne2.true)

-- a number whose lower bits are no cell's
no_origin : (c : goal.In-Err) → (e : DirectedEdge) → IsEdge e → edge_number e ≢ c.args.raw
no_origin c e valid is =
    c.in-Err.ensures.refused.1 e.origin valid.origin_cell
    (sym (bits_of e c.args.raw valid is).origin ∙ sym c.origin_number.ensures)

pub returns-in-Err-clause-read : goal.returns-in-Err-clause-read
returns-in-Err-clause-read c = sym (edge_in-none c.args.raw (no_origin c))

pub returns-in-Err-clause-refused : goal.returns-in-Err-clause-refused
returns-in-Err-clause-refused c = (refl, no_origin c)

stands : (c : goal.After-from_parts) → Stands c.in-Ok.origin (bit_and (c.args.raw / 2 ^ 56) 7) c.args.raw
stands c = record {
  origin = c.in-Ok.ensures.accepted.1 ∙ c.origin_number.ensures;
  mode = c.if-raw-ne2.false;
  direction = and_mask (c.args.raw / 2 ^ 56) 3;
}

pub returns-in-Ok-clause-read : goal.returns-in-Ok-clause-read
returns-in-Ok-clause-read c =
    made_read _ _ _ c.from_parts.result c.in-Ok.ensures.accepted.0 (stands c) c.from_parts.ensures.made
    c.from_parts.ensures.refused

pub returns-in-Ok-clause-accepted : goal.returns-in-Ok-clause-accepted
returns-in-Ok-clause-accepted c = made_accepted _ _ _ c.from_parts.result (stands c) c.from_parts.ensures.made

pub returns-in-Ok-clause-refused : goal.returns-in-Ok-clause-refused
returns-in-Ok-clause-refused c =
    made_refused _ _ _ c.from_parts.result c.in-Ok.ensures.accepted.0 (stands c) c.from_parts.ensures.refused
