-- Tables of first places, which make the search for a zone short.
use Rattle.std.specs.Prelude.{ℕ, ◌≡◌, ◌+◌, ◌-◌, ◌/◌, ◌^◌, ◌<◌, ◌≤◌, ◌↔◌, List, drop, length, slice_index_or, take}
use Rattle.std.specs.List.{AllWithin}
use Rattle.h3_index.specs.Cell.{Address}
use Rattle.h3_tree.specs.PostOrder.{post_order_key}
use Rattle.h3_regions.specs.Zones.{IsZones}

-- slot_of lowest shift k: the slot of a key, where the keys from the lowest on are divided into slots of 2 ^ shift keys
-- each, and those below it are of the first slot
abbrev pub slot_of : ℕ → ℕ → ℕ → ℕ
slot_of lowest shift k = (k - lowest) / 2 ^ shift

-- IsFirstInSlot cells lowest shift t i: i is the place of the first cell whose slot is t or more, or the end where
-- there is none
pub record IsFirstInSlot (cells : List Address) (lowest shift t i : ℕ) : Type 0 where
  pub within : i ≤ length cells
  pub before : AllWithin (λ c. slot_of lowest shift (post_order_key c) < t) cells 0 i
  pub after : AllWithin (λ c. t ≤ slot_of lowest shift (post_order_key c)) cells i (length cells)

-- IsFirstPlaces cells lowest shift firsts: a table that has at each slot its first place
abbrev pub IsFirstPlaces : List Address → ℕ → ℕ → List ℕ → Type 0
IsFirstPlaces cells lowest shift firsts =
    (t d : ℕ) → t < length firsts → IsFirstInSlot cells lowest shift t (slice_index_or firsts t d)

-- zones with such a table
pub record IsIndexed (cells : List Address) (lowest shift : ℕ) (firsts : List ℕ) : Type 0 where
  pub zones : IsZones cells
  pub small : shift < 64
  pub table : IsFirstPlaces cells lowest shift firsts

-- IsShift span most s: the least number of bits by which a span of keys has to be shifted to be at most `most`
pub record IsShift (span most s : ℕ) : Type 0 where
  pub small : s < 64
  pub fits : span / 2 ^ s ≤ most
  pub least : (t : ℕ) → t < s → most < span / 2 ^ t

-- IsDivision cells room lowest shift slots: how a table of zones with so much room divides their keys: from the first
-- zone's on, into as many slots as there are up to that of the last zone, and one more, each as small as there is room
-- for them. With no zones, with 2 ^ 32 or more, or with room for fewer than two there is no slot
pub record IsDivision (cells : List Address) (room lowest shift slots : ℕ) : Type 0 where
  pub some : 0 < slots ↔ ((0 < length cells) × (length cells < 2 ^ 32) × (1 < room))
  pub lowest_is : 0 < slots → (d : Address) → lowest ≡ post_order_key (slice_index_or cells 0 d)
  pub shift_is : 0 < slots → (d : Address)
      → IsShift (post_order_key (slice_index_or cells (length cells - 1) d) - lowest) (room - 2) shift
  pub slots_is : 0 < slots → (d : Address)
      → slots ≡ slot_of lowest shift (post_order_key (slice_index_or cells (length cells - 1) d)) + 2

-- IsTableOf cells old new: the table of zones was written over what was there: in each slot of the division by the room
-- that there is, the first place of the slot. All after the slots is as it was
pub record IsTableOf (cells : List Address) (old new : List ℕ) : Type 0 where
  pub lowest : ℕ
  pub shift : ℕ
  pub slots : ℕ
  pub division : IsDivision cells (length old) lowest shift slots
  pub firsts : IsFirstPlaces cells lowest shift (take slots new)
  pub rest : drop slots new ≡ drop slots old
