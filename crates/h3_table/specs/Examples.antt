-- The definitions of tables at worked values, by computation.
use Rattle.std.specs.Prelude.{◌≡◌, ℕ, List, [], ◌∷◌, map, Some, None, codes, refl}
use Rattle.h3_directions.specs.declared.direction.Direction.TheVariants.{K, I, IJ}
use Rattle.h3_directions.specs.declared.error.TableError.TheVariants.{Corner, Form, Range, Repeated}
use Rattle.h3_table.specs.declared.vectors.TestTable.TheVariants.{Plain, Skew, Twisted}
use Rattle.h3_table.specs.declared.format.Format.TheVariants as format
use Rattle.h3_directions.specs.Direction.{digit_of, directions, turned}
use Rattle.h3_table.specs.Fields.{Record, all_numbers, number_from, number_in, same_fields}
use Rattle.h3_table.specs.FormatOne.{header_one}
use Rattle.h3_table.specs.FormatTwo.{header_two}
use Rattle.h3_table.specs.Links.{is_hexagon_base}
use Rattle.h3_table.specs.Checks.{fault_of_links, from_base, in_directions}
use Rattle.h3_table.specs.Records.{fault_of_records, first_fault, first_link}
use Rattle.h3_table.specs.Vectors.{test_link}

-- ---- table files

numbers : map number_in (codes "0" ∷ codes "007" ∷ codes "121" ∷ codes "" ∷ codes "0121" ∷ codes "+1" ∷ [])
    ≡ Some 0 ∷ Some 7 ∷ Some 121 ∷ None ∷ None ∷ None ∷ []
unfolding number_from
numbers = refl

abbrev fields : List ℕ → List ℕ → List ℕ → List ℕ → Record
fields base dir to rot = base ∷ dir ∷ to ∷ rot ∷ []

faults : map (λ body. fault_of_records (header_one ∷ body))
    (
    []
    ∷ (fields (codes "4") (codes "1") (codes "0") (codes "0") ∷ [])
    ∷ (fields (codes "0001") (codes "1") (codes "110") (codes "0") ∷ [])
    ∷ (fields (codes "0") (codes "1") (codes "110") (codes "6") ∷ [])
    ∷ (fields (codes "0") (codes "1") (codes "110") (codes "0")
    ∷ fields (codes "0") (codes "1") (codes "111") (codes "0") ∷ [])
    ∷ []
    )
    ≡ None ∷ Some (Range 2) ∷ Some (Form 2) ∷ Some (Range 2) ∷ Some (Repeated 3) ∷ []
unfolding number_from all_numbers same_fields first_fault first_link is_hexagon_base
faults = refl

no_header : fault_of_records [] ≡ Some (Form 1)
no_header = refl

-- the record of the base cell 0 of a test table in format 2, with this base cell, neighbor in the direction K and
-- number of turns in the direction IJ in their places
abbrev base_record : List ℕ → List ℕ → List ℕ → Record
base_record base k last =
    base ∷ k ∷ codes "11" ∷ codes "121" ∷ codes "1" ∷ codes "111" ∷ codes "12" ∷ codes "0" ∷ codes "0" ∷ codes "0"
    ∷ codes "0" ∷ codes "0" ∷ last ∷ []

abbrev plain_base : Record
plain_base = base_record (codes "0") (codes "110") (codes "0")

base_links : map (λ d. first_link format.Two 0 (digit_of d) (plain_base ∷ [])) directions
    ≡ map (λ d. Some (test_link Plain 0 d)) directions
unfolding number_from all_numbers first_link
base_links = refl

-- the record of the base cell 30 of another, in which digits are turned
abbrev twisted_base : Record
twisted_base =
    codes "30" ∷ codes "18" ∷ codes "41" ∷ codes "29" ∷ codes "31" ∷ codes "19" ∷ codes "42"
    ∷ codes "0" ∷ codes "5" ∷ codes "5" ∷ codes "1" ∷ codes "1" ∷ codes "0" ∷ []

turned_links : map (λ d. first_link format.Two 30 (digit_of d) (twisted_base ∷ [])) directions
    ≡ map (λ d. Some (test_link Twisted 30 d)) directions
unfolding number_from all_numbers first_link
turned_links = refl

base_faults : map (λ body. fault_of_records (header_two ∷ body))
    (
    []
    ∷ (plain_base ∷ [])
    ∷ (fields (codes "0") (codes "1") (codes "110") (codes "0") ∷ [])
    ∷ (base_record (codes "4") (codes "110") (codes "0") ∷ [])
    ∷ (base_record (codes "122") (codes "110") (codes "0") ∷ [])
    ∷ (base_record (codes "0") (codes "122") (codes "0") ∷ [])
    ∷ (base_record (codes "0") (codes "110") (codes "6") ∷ [])
    ∷ (plain_base ∷ base_record (codes "0") (codes "109") (codes "0") ∷ [])
    ∷ []
    )
    ≡ None ∷ None ∷ Some (Form 2) ∷ Some (Range 2) ∷ Some (Range 2) ∷ Some (Range 2) ∷ Some (Range 2)
    ∷ Some (Repeated 3) ∷ []
unfolding number_from all_numbers same_fields first_fault first_link is_hexagon_base
base_faults = refl

-- a first record that is no header
other_headers : map fault_of_records ((plain_base ∷ []) ∷ ((codes "base" ∷ codes "k" ∷ []) ∷ []) ∷ [])
    ≡ Some (Form 1) ∷ Some (Form 1) ∷ []
unfolding same_fields first_fault
other_headers = refl

-- a record of format 2 under the header of format 1 is malformed
other_records : fault_of_records (header_one ∷ plain_base ∷ []) ≡ Some (Form 2)
unfolding same_fields first_fault
other_records = refl

-- ---- tables for tests

plain_links : map (test_link Plain 0) directions ≡ (110, 0) ∷ (11, 0) ∷ (121, 0) ∷ (1, 0) ∷ (111, 0) ∷ (12, 0) ∷ []
plain_links = refl

twisted_links : test_link Twisted 30 I ∷ test_link Twisted 31 K ∷ [] ≡ (31, 1) ∷ (30, 5) ∷ []
twisted_links = refl

plain_is_sound : fault_of_links (test_link Plain) ≡ None
unfolding from_base in_directions is_hexagon_base
plain_is_sound = refl

twisted_is_sound : fault_of_links (test_link Twisted) ≡ None
unfolding from_base in_directions is_hexagon_base
twisted_is_sound = refl

skew_is_not : fault_of_links (test_link Skew) ≡ Some (Corner 0 K)
unfolding from_base in_directions is_hexagon_base
skew_is_not = refl
