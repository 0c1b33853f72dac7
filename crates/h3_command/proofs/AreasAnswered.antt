-- How the names of areas answer a list, and that each is one line.
use Rattle.std.proofs.Common.{◌≡◌, ℕ, ◌<◌, ◌==◌, Bool, true, false, ◌&&◌, if◌then◌else◌, nat_lt, List, [], ◌∷◌, ◌++◌, All, IsPermutation, Option, None, Some, Result, option_map, unwrap_or, codes, string_bytes, append-nil, get_or, sym, ap, ◌∙◌, refl, subst, inl}
use Rattle.std.proofs.Math.Path.{fun_ext}
use Rattle.std.proofs.lemmas.Bool.{ltb-true}
use Rattle.std.proofs.lemmas.List.Folds.{flat_map-map}
use Rattle.std.proofs.lemmas.Option.{same_Some}
use Rattle.std.specs.Prelude.{ok_or, not}
use Rattle.std.specs.List.{flat_map, list_all}
use Rattle.h3_index.specs.Cell.{Address, is_pentagon_base, leading, number_of, resolution}
use Rattle.h3_index.specs.CellNumber.{address_in, cell_in, is_cell}
use Rattle.h3_index.specs.declared.error.H3Error.TheVariants.{CellInvalid}
use Rattle.h3_lines.specs.Answer.{printed, written}
use Rattle.h3_lines.specs.EachTexts.{lines_or}
use Rattle.h3_lines.specs.Pieces.{Uncut}
use Rattle.h3_lines.specs.Reads.{SourceUse}
use Rattle.h3_lines.specs.Write.{SinkUse}
use Rattle.h3_lines.specs.declared.run_error.RunError.{RunError}
use Rattle.h3_regions.specs.AreaLaws.{AlikeAreas, AreasInAnyOrder, ClashesAreFound}
use Rattle.h3_regions.specs.Areas.{AreAlike, AreApart, areas_of}
use Rattle.h3_regions.specs.Refusals.{areas_refusal}
use Rattle.h3_requests.specs.declared.rows.AreaOptions.{AreaOptions}
use Rattle.h3_requests.specs.declared.rows.RowOptions.{RowOptions}
use Rattle.h3_rows.specs.Areas.{NamesAreFields, area_cells, area_names, names_in}
use Rattle.h3_rows.specs.Named.{Entry, names_table}
use Rattle.h3_rows.specs.declared.areas.AreaTable.{AreaTable}
use Rattle.h3_command.specs.AreaTable.{EndsWithAreas, HoldsAreas, ReadsAreas}
use Rattle.h3_command.specs.Areas.{area_answer, name_answer, name_lines, names_or, overlap_error}
use Rattle.h3_command.specs.Rows.{area_form, text_form, title_or_zone}
use Rattle.h3_command.specs.Run.{EndsLines}
use Rattle.h3_command.proofs.Joining.{apart_judged, not_refused}
use Rattle.h3_command.proofs.NewColumns.{no_quote_separates, plain_lines}

-- ---- areas that are alike

both : (x y : Bool) → (x && y) ≡ true → (x ≡ true) × (y ≡ true)
both true y h = (refl, h)
both false y h = absurd (cc)

fine_cell : (c : Address) → is_cell c ≡ true → resolution c < 16
fine_cell c is =
    let (more, end) =
    both (nat_lt c.base 122 && nat_lt (resolution c) 16 && list_all (λ d. nat_lt d 7) c.digits)
    (not (is_pentagon_base c.base && leading c.digits == 1)) is in
    let (first, digits) =
    both (nat_lt c.base 122 && nat_lt (resolution c) 16) (list_all (λ d. nat_lt d 7) c.digits) more in
    ltb-true (resolution c) 16 (both (nat_lt c.base 122) (nat_lt (resolution c) 16) first).1

-- the cell with a number is a cell
read_cell_is_fine : (m : ℕ) (c : Address) → cell_in m ≡ Some c → resolution c < 16
unfolding cell_in
read_cell_is_fine m c is =
    let a = address_in m in
    let either : (t : Bool) → (is_cell a && number_of a == m) ≡ t → (if t then Some a else None) ≡ Some c
    → resolution c < 16 =
    λ t. elim t as (λ t. (is_cell a && number_of a == m) ≡ t → (if t then Some a else None) ≡ Some c
    → resolution c < 16) [
      | true ↦
          λ yes same. subst (λ x. resolution x < 16) (same_Some a c same)
          (fine_cell a (both (is_cell a) (number_of a == m) yes).0)
      | false ↦ λ no never. absurd (cc)
    ] in
    either (is_cell a && number_of a == m) refl is

-- each cell lies in the same areas by the one list of pairs as by the other, in the same order
abbrev AreListedAlike : List (Address × ℕ) → List (Address × ℕ) → Type 0
AreListedAlike areas others = (x : Address) → resolution x < 16 → areas_of areas x ≡ areas_of others x

names_alike_at : (none : List ℕ) (names : List (List ℕ)) (areas others : List (Address × ℕ))
    → AreListedAlike areas others
    → (index : Option ℕ) → name_answer none names areas index ≡ name_answer none names others index
names_alike_at none names areas others alike None = refl
names_alike_at none names areas others alike (Some m) =
    let either : (o : Option Address) → cell_in m ≡ o → printed (name_lines none names areas) (ok_or o CellInvalid)
    ≡ printed (name_lines none names others) (ok_or o CellInvalid) =
    λ o. elim o as (λ o. cell_in m ≡ o → printed (name_lines none names areas) (ok_or o CellInvalid)
    ≡ printed (name_lines none names others) (ok_or o CellInvalid)) [
      | None ↦ λ is. refl
      | Some c ↦
          λ is. ap (λ list. written (flat_map (λ name. name ++ 10 ∷ []) (names_or none names list)))
          (alike c (read_cell_is_fine m c is))
    ] in
    either (cell_in m) refl

names_alike : (none : List ℕ) (names : List (List ℕ)) (areas others : List (Address × ℕ)) → AreListedAlike areas others
    → name_answer none names areas ≡ name_answer none names others
names_alike none names areas others alike = fun_ext (names_alike_at none names areas others alike)

-- ---- how the list is answered

ends_named : (options : AreaOptions) (rows : Option RowOptions) (entries : List Entry) (table : AreaTable)
    (areas : List (Address × ℕ)) (column : List ℕ)
    (input : SourceUse) (ending : Result (Unit {0}) RunError) (out : SinkUse)
    → HoldsAreas options.table.rows.quotes entries table → AreListedAlike areas table.cells.items
    → column ≡ unwrap_or (option_map (λ t. t.items) table.title) (codes "zone")
    → EndsLines (text_form rows table.names.quotes column) (name_answer (string_bytes options.none)
    (names_in table.names.bytes.items table.names.spans.items) areas) input ending out
    → EndsLines (area_form rows options.table.rows.quotes entries)
    (area_answer options.table.rows.quotes (string_bytes options.none) entries) input ending out
ends_named options rows entries table areas column input ending out holds alike titled ends =
    let none = string_bytes options.none in
    let names = names_in table.names.bytes.items table.names.spans.items in
    let quotes = options.table.rows.quotes in
    let same = names_alike none names areas table.cells.items alike in
    let about : name_answer none names areas ≡ area_answer quotes none entries =
    same ∙ ap (name_answer none names) holds.cells
    ∙ ap (λ l. name_answer none l (area_cells quotes entries)) holds.named in
    let title : column ≡ title_or_zone entries = titled ∙ ap (λ t. unwrap_or t (codes "zone")) holds.title in
    let answered = subst (λ a. EndsLines (text_form rows table.names.quotes column) a input ending out) about ends in
    let named =
    subst (λ t. EndsLines (text_form rows table.names.quotes t)
    (area_answer quotes none entries) input ending out) title answered in
    subst (λ q. EndsLines (text_form rows q (title_or_zone entries))
    (area_answer quotes none entries) input ending out) holds.counts named

pub ends_apart : AlikeAreas → ClashesAreFound
    → (overlapping : Bool) (options : AreaOptions) (rows : Option RowOptions) (entries : List Entry) (table : AreaTable)
    (areas : List (Address × ℕ)) (column : List ℕ)
    (input : SourceUse) (ending : Result (Unit {0}) RunError) (out : SinkUse)
    → HoldsAreas options.table.rows.quotes entries table → areas_refusal table.cells.items ≡ None
    → AreAlike areas table.cells.items → AreApart areas
    → column ≡ unwrap_or (option_map (λ t. t.items) table.title) (codes "zone")
    → EndsLines (text_form rows table.names.quotes column) (name_answer (string_bytes options.none)
    (names_in table.names.bytes.items table.names.spans.items) areas) input ending out
    → EndsWithAreas overlapping options rows entries input ending out
ends_apart law clashes overlapping options rows entries table areas column input ending out holds free alike apart
    titled ends =
    let listed : AreListedAlike areas table.cells.items =
    law.listed areas table.cells.items alike apart (not_refused clashes table.cells.items free) in
    inl (
      ap (overlap_error overlapping) (sym holds.cells) ∙ apart_judged overlapping table.cells.items free,
      ends_named options rows entries table areas column input ending out holds listed titled ends,
    )

pub ends_overlapping : AreasInAnyOrder
    → (options : AreaOptions) (rows : Option RowOptions) (entries : List Entry) (table : AreaTable)
    (areas : List (Address × ℕ)) (column : List ℕ)
    (input : SourceUse) (ending : Result (Unit {0}) RunError) (out : SinkUse)
    → HoldsAreas options.table.rows.quotes entries table
    → IsPermutation table.cells.items areas → column ≡ unwrap_or (option_map (λ t. t.items) table.title) (codes "zone")
    → EndsLines (text_form rows table.names.quotes column) (name_answer (string_bytes options.none)
    (names_in table.names.bytes.items table.names.spans.items) areas) input ending out
    → EndsWithAreas true options rows entries input ending out
ends_overlapping law options rows entries table areas column input ending out holds same titled ends =
    let listed : AreListedAlike areas table.cells.items =
    λ x fine. sym (law.listed table.cells.items areas same x fine) in
    inl (refl, ends_named options rows entries table areas column input ending out holds listed titled ends)

-- ---- the texts of names

-- a line with each name is a line with the text of each number
pub numbers_named : (none : List ℕ) (names : List (List ℕ)) (numbers : List ℕ)
    → flat_map (λ name. name ++ 10 ∷ []) (names_or none names numbers) ≡ lines_or none (λ n. get_or names n []) numbers
numbers_named none names [] = append-nil (none ++ 10 ∷ [])
numbers_named none names (n ∷ ns) = flat_map-map (λ name. name ++ 10 ∷ []) (λ k. get_or names k []) (n ∷ ns)

-- ---- one line for each name

pub name_lines_uncut : NamesAreFields
    → (options : AreaOptions) (bytes : List ℕ) (file : SourceUse) (entries : List Entry) (table : AreaTable)
    → ReadsAreas (names_table options.table) bytes file entries
    → HoldsAreas options.table.rows.quotes entries table
    → All (λ name. Uncut 10 table.names.quotes false name false)
    (names_in table.names.bytes.items table.names.spans.items)
name_lines_uncut law options bytes file entries table reads holds =
    let quotes = options.table.rows.quotes in
    let separator = options.table.rows.separator in
    let each =
    law (names_table options.table) bytes entries
    (no_quote_separates separator options.table.rows.separates) reads.is in
    let uncut : All (λ name. Uncut 10 quotes false name false) (area_names quotes entries) =
    λ k d short. (let own = each k d short in record { uncut = own.on_line; inside_is = own.closed }) in
    subst (λ q. All (λ name. Uncut 10 q false name false) (names_in table.names.bytes.items table.names.spans.items))
    (sym holds.counts)
    (subst (λ l. All (λ name. Uncut 10 quotes false name false) l) (sym holds.named) uncut)

pub none_line_uncut : (options : AreaOptions) (entries : List Entry) (table : AreaTable)
    → HoldsAreas options.table.rows.quotes entries table
    → Uncut 10 table.names.quotes false (string_bytes options.none) false
none_line_uncut options entries table holds =
    let own =
    plain_lines options.table.rows.separator options.table.rows.quotes (string_bytes options.none) options.plain in
    subst (λ q. Uncut 10 q false (string_bytes options.none) false) (sym holds.counts)
    (record { uncut = own.in_line; inside_is = own.closed })
