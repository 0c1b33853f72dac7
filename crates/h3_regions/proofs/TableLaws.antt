-- The tables of first places, and the search by them.
use Rattle.std.specs.List.{AllWithin}
use Rattle.std.proofs.Common.{ℕ, ◌≡◌, ◌+◌, ◌-◌, ◌/◌, ◌^◌, ◌<◌, ◌≤◌, List, [], length, arith, ◌∙◌, ap, inl, inr, get_or}
use Rattle.std.proofs.lemmas.Bool.{cases_lt}
use Rattle.std.proofs.lemmas.Nat.{div-add-mod', le-div, pow_pos}
use Rattle.h3_index.specs.Cell.{Address}
use Rattle.h3_tree.specs.PostOrder.{post_order_key as key}
use Rattle.h3_regions.specs.FirstPlaces.{slot_of, IsFirstInSlot, IsFirstPlaces}
use Rattle.h3_regions.specs.Zones.{AreBelow, AreNotBelow, IsZones}
use Rattle.h3_regions.proofs.ListLaws.{any_default}
use Rattle.h3_regions.proofs.SearchLaws.{keys_rise}

-- slots rise with the keys
rises : (lowest shift a b : ℕ) → a ≤ b → slot_of lowest shift a ≤ slot_of lowest shift b
rises lowest shift a b le =
    let d = div-add-mod' (a - lowest) (2 ^ shift) in
    le-div ((a - lowest) / 2 ^ shift) (b - lowest) (2 ^ shift) (pow_pos shift) (omega (arith, d, le))

-- the entries of the first k slots are written
pub record IsFilling (cells : List Address) (lowest shift : ℕ) (firsts : List ℕ) (size place k : ℕ) : Type 0 where
  pub size_is : length firsts ≡ size
  pub each : (t d : ℕ) → t < k → IsFirstInSlot cells lowest shift t (get_or firsts t d)
  pub within : place ≤ length cells
  pub before : AllWithin (λ c. slot_of lowest shift (key c) < k) cells 0 place

module _ (cells : List Address) (region : IsZones cells) (lowest shift : ℕ) where
  -- where the cell at a place is the first that is not of a slot before t
  pub first_there : (t i : ℕ) (a : Address) → i < length cells → a ≡ get_or cells i a
      → AllWithin (λ c. slot_of lowest shift (key c) < t) cells 0 i → t ≤ slot_of lowest shift (key a)
      → IsFirstInSlot cells lowest shift t i
  first_there t i a lt is before le = record {
    within = omega (arith, lt);
    before = before;
    after = λ j d from lj.
        let h = keys_rise cells region i j d from lj in
        let same = ap key (is ∙ any_default cells i a d lt) in
        let up = rises lowest shift (key a) (key (get_or cells j d)) (omega (arith, h, same)) in
        omega (arith, le, up);
  }

  module _ (firsts : List ℕ) (table : IsFirstPlaces cells lowest shift firsts) where
    pub below_by_table : (t k d : ℕ) → t < length firsts → t ≤ slot_of lowest shift k
        → AreBelow cells k (get_or firsts t d)
    below_by_table t k d lt le j e from lj =
        let h = (table t d lt).before j e from lj in
        elim (cases_lt (key (get_or cells j e)) k) [
          | inl less ↦ less
          | inr not ↦ let up = rises lowest shift k (key (get_or cells j e)) not in absurd (omega (arith, h, le, up))
        ]

    pub not_below_by_table : (t k d : ℕ) → t < length firsts → slot_of lowest shift k < t
        → AreNotBelow cells k (get_or firsts t d)
    not_below_by_table t k d lt less j e from lj =
        let h = (table t d lt).after j e from lj in
        elim (cases_lt (key (get_or cells j e)) k) [
          | inl low ↦
              let up = rises lowest shift (key (get_or cells j e)) k (omega (arith, low)) in
              absurd (omega (arith, h, less, up))
          | inr not ↦ not
        ]

    pub entries_rise : (t d e : ℕ) → t + 1 < length firsts → get_or firsts t d ≤ get_or firsts (t + 1) e
    entries_rise t d e lt =
        let f = table t d (omega (arith, lt)) in
        let g = table (t + 1) e lt in
        let x : Address = record { base = 0; digits = [] } in
        elim (cases_lt (get_or firsts (t + 1) e) (get_or firsts t d)) [
          | inl less ↦
              let low = f.before (get_or firsts (t + 1) e) x (omega arith) less in
              let high = g.after (get_or firsts (t + 1) e) x (omega arith) (omega (arith, less, f.within)) in
              absurd (omega (arith, low, high))
          | inr not ↦ not
        ]
