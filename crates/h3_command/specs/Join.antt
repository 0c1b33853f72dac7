-- The join of cells with a table of zones with names, in terms of the table's own rows.
use Rattle.std.specs.Prelude.{◌≡◌, ◌≢◌, ℕ, ◌<◌, Bool, List, [], ◌∷◌, AllPairs, Contains, None, length}
use Rattle.h3_index.specs.Cell.{Address, resolution}
use Rattle.h3_index.specs.Descendants.{IsAncestor}
use Rattle.h3_regions.specs.Refusals.{areas_refusal}
use Rattle.h3_rows.specs.Areas.{NamedCell, area_cells, area_names, cells_among, name_text}
use Rattle.h3_rows.specs.Named.{Entry}
use Rattle.h3_command.specs.Areas.{names_at}

-- names_for quotes none entries x: what is written for a cell of the list: the names of its areas, or `none`
abbrev pub names_for : Bool → List ℕ → List Entry → Address → List (List ℕ)
names_for quotes none entries x = names_at none (area_names quotes entries) (area_cells quotes entries) x

-- IsNameOf quotes entries c name: the name is that of an area of the table, and has the same text as the name of this
-- row
pub record IsNameOf (quotes : Bool) (entries : List Entry) (c : NamedCell) (name : List ℕ) : Type 0 where
  pub named : Contains (area_names quotes entries) name
  pub same : name_text quotes name ≡ name_text quotes c.1

-- Covers entries x c: the table has a row with this cell and name, and the cell is x or an ancestor of it
pub record Covers (entries : List Entry) (x : Address) (c : NamedCell) : Type 0 where
  pub row : Contains (cells_among entries) c
  pub above : IsAncestor c.0 x

-- CellsGetTheirNames: a cell gets the name of every row whose cell is that cell or an ancestor of it
abbrev pub CellsGetTheirNames : Type 0
CellsGetTheirNames = (quotes : Bool) (none : List ℕ) (entries : List Entry) (x : Address) (c : NamedCell)
    → resolution x < 16 → Covers entries x c
    → (name : List ℕ) × Contains (names_for quotes none entries x) name × IsNameOf quotes entries c name

-- NamesAreOfRows: if there is such a row, each name that the cell gets is that of one
abbrev pub NamesAreOfRows : Type 0
NamesAreOfRows = (quotes : Bool) (none : List ℕ) (entries : List Entry) (x : Address) (b : NamedCell) (name : List ℕ)
    → resolution x < 16 → Covers entries x b → Contains (names_for quotes none entries x) name
    → (c : NamedCell) × Covers entries x c × IsNameOf quotes entries c name

-- NamesDiffer: and no two of them have one text: the cell gets each name once
abbrev pub NamesDiffer : Type 0
NamesDiffer = (quotes : Bool) (none : List ℕ) (entries : List Entry) (x : Address)
    → resolution x < 16 → AllPairs (λ a b. name_text quotes a ≢ name_text quotes b) (names_for quotes none entries x)

-- OneNameEach: if no two areas of a table overlap, a cell gets one name, or what is written for none
abbrev pub OneNameEach : Type 0
OneNameEach = (quotes : Bool) (none : List ℕ) (entries : List Entry) (x : Address)
    → areas_refusal (area_cells quotes entries) ≡ None → resolution x < 16
    → length (names_for quotes none entries x) ≡ 1

-- OthersGetNone: a cell gets what is written for none, and nothing else, if no row of the table has that cell or an
-- ancestor of it
abbrev pub OthersGetNone : Type 0
OthersGetNone = (quotes : Bool) (none : List ℕ) (entries : List Entry) (x : Address) → resolution x < 16
    → ((c : NamedCell) → ¬ Covers entries x c) → names_for quotes none entries x ≡ none ∷ []
