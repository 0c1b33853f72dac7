-- Which error of a table file is the first.
--
-- The definitions of `Records`, `Checks` and `Table` compute it. Here it is said once more, as what holds of the file.
use Rattle.std.specs.Prelude.{◌≡◌, ◌≢◌, ◌⊎◌, ◌↔◌, ℕ, ◌+◌, ◌-◌, ◌%◌, ◌<◌, List, [], None, Some, take, slice_get}
use Rattle.h3_directions.specs.declared.direction.Direction.{Direction}
use Rattle.h3_directions.specs.declared.error.TableError.{TableError}
use Rattle.h3_directions.specs.declared.error.TableError.TheVariants as fault
use Rattle.h3_directions.specs.Direction.{digit_of, opposite, turned, turned_once}
use Rattle.h3_table.specs.Fields.{Record}
use Rattle.h3_table.specs.Links.{IsHexagonBase, Links}
use Rattle.h3_table.specs.Records.{body_of, fault_of, format_of, first_link}
use Rattle.h3_table.specs.Table.{IsOfForm, links_of, table_fault}

-- ---- records

-- a record has this fault, and none of those before it is faulty
pub record IsFirstFaulty (records : List Record) (e : TableError) : Type 0 where
  pub index : ℕ
  pub faulty_record : Record
  pub there : slice_get records index ≡ Some faulty_record
  pub faulty : fault_of (take index records) faulty_record ≡ Some e
  pub earlier : (i : ℕ) (r : Record) → i < index → slice_get records i ≡ Some r → fault_of (take i records) r ≡ None

-- there are records, and none of them is faulty
pub record AreGood (records : List Record) : Type 0 where
  pub some : records ≢ []
  pub each : (i : ℕ) (r : Record) → slice_get records i ≡ Some r → fault_of (take i records) r ≡ None

-- no record has the link of some hexagon base cell and direction
pub record IsMissing (records : List Record) : Type 0 where
  pub base : ℕ
  pub direction : Direction
  pub hexagon : IsHexagonBase base
  pub none : first_link (format_of records) base (digit_of direction) (body_of records) ≡ None

-- ---- checks

-- the neighbor of b in the direction d is another base cell, and that of no other direction
pub record LeadsApart (link : Links) (b : ℕ) (d : Direction) : Type 0 where
  pub away : (link b d).0 ≢ b
  pub apart : (e : Direction) → (link b d).0 ≡ (link b e).0 → d ≡ e

-- if the neighbor is a hexagon base cell, the link back from it undoes the link
abbrev pub IsReversed : Links → ℕ → Direction → Type 0
IsReversed link b d =
    IsHexagonBase (link b d).0 → link (link b d).0 (turned (link b d).1 (opposite d)) ≡ (b, (6 - (link b d).1) % 6)

-- if this neighbor and that in the direction turned once are hexagon base cells, the links between the three agree
abbrev pub IsClosed : Links → ℕ → Direction → Type 0
IsClosed link b d =
    IsHexagonBase (link b d).0 → IsHexagonBase (link b (turned_once d)).0
    → link (link b d).0 (turned (link b d).1 (turned 2 d))
    ≡ ((link b (turned_once d)).0, ((link b (turned_once d)).1 + 6 - (link b d).1) % 6)

abbrev pub HoldsEverywhere : (ℕ → Direction → Type 0) → Type 0
HoldsEverywhere Check = (b : ℕ) (d : Direction) → IsHexagonBase b → Check b d

-- by base cell, and then in the order of the digits
abbrev pub IsEarlier : ℕ → Direction → ℕ → Direction → Type 0
IsEarlier a e b d = (a < b) ⊎ ((a ≡ b) × (digit_of e < digit_of d))

-- a check fails at a hexagon base cell and a direction, and nowhere before
pub record FailsFirst (Check : ℕ → Direction → Type 0) (b : ℕ) (d : Direction) : Type 0 where
  pub hexagon : IsHexagonBase b
  pub fails : Check b d → ⊥
  pub earlier : (a : ℕ) (e : Direction) → IsHexagonBase a → IsEarlier a e b d → Check a e

-- ---- the first of all

abbrev pub IsFirstFault : List Record → TableError → Type 0
IsFirstFault records fault.Read = ⊥
IsFirstFault records fault.Memory = ⊥
IsFirstFault records (fault.Form row) = ((records ≡ []) × (row ≡ 1)) ⊎ IsFirstFaulty records (fault.Form row)
IsFirstFault records (fault.Range row) = IsFirstFaulty records (fault.Range row)
IsFirstFault records (fault.Repeated row) = IsFirstFaulty records (fault.Repeated row)
IsFirstFault records fault.Missing = AreGood records × IsMissing records
IsFirstFault records (fault.Neighbours b) =
    IsOfForm records × ((d : Direction) × FailsFirst (LeadsApart (links_of records)) b d)
IsFirstFault records (fault.Reversal b d) =
    IsOfForm records × HoldsEverywhere (LeadsApart (links_of records)) × FailsFirst (IsReversed (links_of records)) b d
IsFirstFault records (fault.Corner b d) =
    IsOfForm records × HoldsEverywhere (LeadsApart (links_of records)) × HoldsEverywhere (IsReversed (links_of records))
    × FailsFirst (IsClosed (links_of records)) b d

-- FaultsAreFirst: which error of a file is the first, case by case: an error is the file's exactly where it applies and
-- none before it does
abbrev pub FaultsAreFirst : Type 0
FaultsAreFirst = (records : List Record) (e : TableError) → (table_fault records ≡ Some e) ↔ IsFirstFault records e
