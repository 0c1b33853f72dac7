-- The definitions at worked values, by computation.
use Rattle.std.specs.Prelude.{◌≡◌, [], ◌∷◌, map, true, false, Some, None, codes, refl}
use Rattle.h3_index.specs.Cell.{Address, is_pentagon, number_of}
use Rattle.h3_index.specs.CellNumber.{address_in, cell_in}
use Rattle.h3_index.specs.Count.{base_cell, pentagons}
use Rattle.h3_index.specs.Descendants.{ancestor_at}
use Rattle.h3_index.specs.Edge.{directed_edge, edge_number}
use Rattle.h3_index.specs.EdgeNumber.{directed_edge_in, edge_in}
use Rattle.h3_index.specs.Moves.{with_base, with_digit}
use Rattle.h3_index.specs.Siblings.{has_raised, last_digit, raised}
use Rattle.h3_index.specs.Text.{parsed_index, text_of}

-- ---- cells

-- resolution 5, base cell 20, digits 0 6 4 3 4
abbrev hexagon : Address
hexagon = record { base = 20; digits = 0 ∷ 6 ∷ 4 ∷ 3 ∷ 4 ∷ [] }

hexagon_number : number_of hexagon ≡ 0x85283473fffffff
unfolding number_of
hexagon_number = refl

hexagon_read : cell_in 0x85283473fffffff ≡ Some hexagon
unfolding cell_in address_in number_of
hexagon_read = refl

hexagon_cut : number_of (ancestor_at hexagon 4) ≡ 0x8428347ffffffff
unfolding number_of
hexagon_cut = refl

-- the digit of resolution 5 is 4, that of resolution 1 is 0
hexagon_digits : map (λ c. number_of c) (with_digit hexagon 5 3 ∷ with_digit hexagon 5 0 ∷ with_digit hexagon 1 6 ∷ [])
    ≡ 0x8528346ffffffff ∷ 0x85283463fffffff ∷ 0x8529b473fffffff ∷ []
unfolding number_of
hexagon_digits = refl

hexagon_bases : map (λ c. number_of c) (with_base hexagon 0 ∷ with_base hexagon 121 ∷ [])
    ≡ 0x85003473fffffff ∷ 0x85f23473fffffff ∷ []
unfolding number_of
hexagon_bases = refl

hexagon_raised : number_of (raised hexagon) ≡ 0x85283477fffffff
unfolding number_of
hexagon_raised = refl

last_digits_read : map (λ c. last_digit c) (hexagon ∷ ancestor_at hexagon 2 ∷ ancestor_at hexagon 0 ∷ [])
    ≡ 4 ∷ 6 ∷ 7 ∷ []
last_digits_read = refl

-- after the digits 4 and 6, at resolution 0, at a pentagon, and beside one
raised_tests : map (λ c. has_raised c) (hexagon ∷ ancestor_at hexagon 2 ∷ ancestor_at hexagon 0
    ∷ record { base = 4; digits = 0 ∷ 0 ∷ [] } ∷ record { base = 4; digits = 0 ∷ 2 ∷ [] } ∷ [])
    ≡ true ∷ false ∷ false ∷ false ∷ true ∷ []
raised_tests = refl

first_and_last_base_cells : map (λ b. number_of (base_cell b)) (0 ∷ 121 ∷ [])
    ≡ 0x8001fffffffffff ∷ 0x80f3fffffffffff ∷ []
unfolding number_of
first_and_last_base_cells = refl

pentagons_of_resolution_0 : map (λ c. number_of c) (pentagons 0)
    ≡ 0x8009fffffffffff ∷ 0x801dfffffffffff ∷ 0x8031fffffffffff ∷ 0x804dfffffffffff ∷ 0x8063fffffffffff
    ∷ 0x8075fffffffffff ∷ 0x807ffffffffffff ∷ 0x8091fffffffffff ∷ 0x80a7fffffffffff ∷ 0x80c3fffffffffff
    ∷ 0x80d7fffffffffff ∷ 0x80ebfffffffffff ∷ []
unfolding number_of pentagons
pentagons_of_resolution_0 = refl

pentagon_tests : map (λ c. is_pentagon c) (base_cell 4 ∷ record { base = 4; digits = 0 ∷ 0 ∷ [] }
    ∷ record { base = 4; digits = 0 ∷ 2 ∷ [] } ∷ base_cell 5 ∷ [])
    ≡ true ∷ true ∷ false ∷ false ∷ []
pentagon_tests = refl

-- a deleted subsequence, base cell 122, a 7 within the resolution, the reserved bit, an edge, and 0
no_cells : map (λ m. cell_in m)
    (0x81087ffffffffff ∷ 0x80f5fffffffffff ∷ 0x8109fffffffffff ∷ 0x885283473fffffff ∷ 0x115283473fffffff ∷ 0 ∷ [])
    ≡ None ∷ None ∷ None ∷ None ∷ None ∷ None ∷ []
unfolding cell_in address_in number_of
no_cells = refl

-- ---- edges

edge : edge_number (directed_edge hexagon 1) ≡ 0x115283473fffffff
unfolding edge_number number_of
edge = refl

edge_read : edge_in 0x115283473fffffff ≡ Some (directed_edge hexagon 1)
unfolding edge_in directed_edge_in edge_number address_in number_of
edge_read = refl

-- those of a pentagon
edges_of_a_pentagon : map (λ d. edge_number (directed_edge (base_cell 4) d)) (2 ∷ 3 ∷ 4 ∷ 5 ∷ 6 ∷ [])
    ≡ 0x12009fffffffffff ∷ 0x13009fffffffffff ∷ 0x14009fffffffffff ∷ 0x15009fffffffffff ∷ 0x16009fffffffffff ∷ []
unfolding edge_number number_of
edges_of_a_pentagon = refl

-- direction 1 at a pentagon, the directions 0 and 7, the reserved bit, mode 3, mode 1 with a direction, a cell, an
-- origin in a deleted subsequence, and 0
no_edges : map (λ m. edge_in m) (0x11009fffffffffff ∷ 0x105283473fffffff ∷ 0x175283473fffffff ∷ 0x915283473fffffff
    ∷ 0x195283473fffffff ∷ 0x095283473fffffff ∷ 0x85283473fffffff ∷ 0x121087ffffffffff ∷ 0 ∷ [])
    ≡ None ∷ None ∷ None ∷ None ∷ None ∷ None ∷ None ∷ None ∷ None ∷ []
unfolding edge_in directed_edge_in edge_number address_in number_of
no_edges = refl

-- ---- texts

texts : map text_of (0 ∷ 0x85283473fffffff ∷ 0xffff_ffff_ffff_ffff ∷ [])
    ≡ codes "0" ∷ codes "85283473fffffff" ∷ codes "ffffffffffffffff" ∷ []
unfolding text_of
texts = refl

parsed : map parsed_index
    (codes "85283473fffffff" ∷ codes "0X85283473FFFFFFF" ∷ codes " 0x0 " ∷ codes "ffffffffffffffff" ∷ [])
    ≡ Some 0x85283473fffffff ∷ Some 0x85283473fffffff ∷ Some 0 ∷ Some 0xffff_ffff_ffff_ffff ∷ []
unfolding parsed_index
parsed = refl

-- no digits, a letter that is no digit, a second prefix, a blank within, 17 and 18 digits
not_parsed : map parsed_index (codes "" ∷ codes "0x" ∷ codes "xyz" ∷ codes "0x0x1" ∷ codes "1 2"
    ∷ codes "00000000000000000" ∷ codes "00085283473fffffff" ∷ [])
    ≡ None ∷ None ∷ None ∷ None ∷ None ∷ None ∷ None ∷ []
unfolding parsed_index
not_parsed = refl
