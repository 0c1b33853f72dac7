-- The areas of the indexes of a column, one index more at a time.
use Rattle.std.proofs.Common.{◌≡◌, ℕ, zero, suc, ◌+◌, ◌-◌, ◌<◌, ◌≤◌, List, [], ◌∷◌, ◌++◌, length, map, take, drop, zip, slice_set, slice_index_or, nat_le, append_assoc, append-nil, take-append-drop, true, false, Bool, ok_or, Result, Ok, Err, Option, None, Some, IsPermutation, unwrap_or, if◌then◌else◌, refl, ap, sym, ◌∙◌, subst, arith}
use Rattle.std.proofs.lemmas.Bool.{and_parts, le-leb, leb-false, leb-true, lt-leb, lt-ltb, ltb-true}
use Rattle.std.proofs.lemmas.Option.{none-some}
use Rattle.std.proofs.lemmas.List.{length-append, length-take}
use Rattle.std.specs.Int.{from_bool}
use Rattle.std.specs.Prelude.{nat_lt, ◌&&◌, ◌==◌, slice_index, slice_range}
use Rattle.std.specs.Result.{result_unwrap_or}
use Rattle.h3_index.specs.Cell.{Address, number_of, resolution}
use Rattle.h3_index.specs.CellNumber.{address_in, cell_in, is_cell}
use Rattle.h3_index.specs.declared.error.H3Error.{H3Error}
use Rattle.h3_index.specs.declared.error.H3Error.TheVariants.{CellInvalid}
use Rattle.h3_functions.specs.Inspection.{cell_from, for_value}
use Rattle.h3_regions.specs.AreaLaws.{AreasInAnyOrder}
use Rattle.h3_regions.specs.Areas.{areas_of}
use Rattle.h3_c.specs.Column.{first_code, first_place}
use Rattle.h3_c.specs.Lists.{laid_over}
use Rattle.h3_c.specs.Overlapping.{AreasStandAtStarts, all_areas, area_counts, cell_to_areas, if_areas, if_slots}
use Rattle.h3_c.specs.Sets.{cells_in}
use Rattle.h3_c.specs.Starts.{fitting, sizes_of, starts_from}
use Rattle.h3_c.specs.Zones.{judged}
use Rattle.h3_c.proofs.Laid.{laid_over-full, laid_over-snoc}
use Rattle.h3_c.proofs.StartLaws.{drop-front, sizes-split, start-first, take-front, total}

-- ---- numbers after others

take-next : (ns : List ℕ) (i : ℕ) → i < length ns → take (suc i) ns ≡ take i ns ++ slice_index_or ns i 0 ∷ []
take-next [] i lt = absurd (omega (arith, lt))
take-next (n ∷ ns) zero lt = refl
take-next (n ∷ ns) (suc i) lt = ap (λ l. n ∷ l) (take-next ns i (omega (arith, lt)))

pub after-next : (before ns first out : List ℕ) (place i : ℕ) → length before ≡ place → i < length ns
    → place + i < length first
    → out ≡ laid_over (before ++ take i ns) first
    → slice_set out (place + i) (slice_index_or ns i 0) ≡ laid_over (before ++ take (i + 1) ns) first
after-next before ns first out place i long lt room put =
    let up : i + 1 ≡ suc i = omega arith in
    let n = slice_index_or ns i 0 in
    let here : length (before ++ take i ns) ≡ place + i =
    omega (arith, length-append before (take i ns), length-take i ns, long, lt) in
    ap (λ l. slice_set l (place + i) n) put
    ∙ ap (λ m. slice_set (laid_over (before ++ take i ns) first) m n) (sym here)
    ∙ sym (laid_over-snoc (before ++ take i ns) first n (omega (arith, here, room)))
    ∙ ap (λ l. laid_over l first) (append_assoc before (take i ns) (n ∷ []))
    ∙ ap (λ l. laid_over (before ++ l) first) (sym (take-next ns i lt) ∙ ap (λ k. take k ns) (sym up))

pub after-full : (before ns first : List ℕ) (place i : ℕ) → length before ≡ place → i ≤ length ns
    → length first ≤ place + i
    → laid_over (before ++ take i ns) first ≡ laid_over (before ++ ns) first
after-full before ns first place i long lt full =
    sym (ap (λ l. laid_over (before ++ l) first) (sym (take-append-drop i ns))
    ∙ ap (λ l. laid_over l first) (sym (append_assoc before (take i ns) (drop i ns)))
    ∙ laid_over-full (before ++ take i ns) (drop i ns) first
    (omega (arith, length-append before (take i ns), length-take i ns, long, lt, full)))

-- ---- how many have room

same_test : (a b c d : ℕ) → (a ≤ b → c ≤ d) → (b < a → d < c) → nat_le a b ≡ nat_le c d
same_test a b c d up down = by_test (nat_le a b) refl
  where
    by_test : (t : Bool) → nat_le a b ≡ t → nat_le a b ≡ nat_le c d
    by_test true is = is ∙ sym (le-leb c d (up (leb-true a b is)))
    by_test false is = is ∙ sym (lt-leb c d (down (leb-false a b is)))

pub fitting-next : (ns : List ℕ) (n room : ℕ)
    → fitting room (ns ++ n ∷ []) ≡ fitting room ns + from_bool (nat_le (total ns + n) room)
unfolding total fitting
fitting-next [] n room =
    let same : 0 + n ≡ n = omega arith in
    by_test (nat_le n room) ∙ ap (λ k. 0 + from_bool (nat_le k room)) (sym same)
  where
    by_test : (b : Bool) → (if b then 1 else 0) ≡ 0 + from_bool b
    by_test true = refl
    by_test false = refl
fitting-next (m ∷ ns) n room = by_test (nat_le m room) refl (fitting-next ns n (room - m))
  where
    by_test : (b : Bool) → nat_le m room ≡ b
        → fitting (room - m) (ns ++ n ∷ []) ≡ fitting (room - m) ns + from_bool (nat_le (total ns + n) (room - m))
        → (if b then suc (fitting (room - m) (ns ++ n ∷ [])) else 0)
        ≡ (if b then suc (fitting (room - m) ns) else 0) + from_bool (nat_le (m + total ns + n) room)
    by_test true is deeper =
        let fits : m ≤ room = leb-true m room is in
        let same =
        same_test (total ns + n) (room - m) (m + total ns + n) room (λ h. omega (arith, h, fits))
        (λ h. omega (arith, h, fits)) in
        let rest = deeper ∙ ap (λ b. fitting (room - m) ns + from_bool b) same in
        omega (arith, rest)
    by_test false is deeper =
        let none : nat_le (m + total ns + n) room ≡ false =
        lt-leb (m + total ns + n) room (omega (arith, leb-false m room is)) in
        rw none refl

-- those from one on that has no room
pub fitting-past : (ns more : List ℕ) (n room : ℕ) → room < total ns + n
    → fitting room (ns ++ n ∷ more) ≡ fitting room ns
unfolding total fitting
fitting-past [] more n room full =
    let here : nat_le n room ≡ false = lt-leb n room (omega (arith, full)) in
    rw here refl
fitting-past (m ∷ ns) more n room full =
    by_test (nat_le m room) refl (λ fits. fitting-past ns more n (room - m) (omega (arith, fits, full)))
  where
    by_test : (b : Bool) → nat_le m room ≡ b → (m ≤ room → fitting (room - m) (ns ++ n ∷ more) ≡ fitting (room - m) ns)
        → (if b then suc (fitting (room - m) (ns ++ n ∷ more)) else 0) ≡ (if b then suc (fitting (room - m) ns) else 0)
    by_test true is deeper = ap suc (deeper (leb-true m room is))
    by_test false is deeper = refl

-- where those of one index more end beyond the room
pub all_fitting : (f : ℕ → Result ℕ H3Error) (hs : List ℕ) (i end size room : ℕ) → i < length hs
    → end ≡ total (sizes_of (map f (take i hs)))
    → size ≡ result_unwrap_or (f (slice_index_or hs i 0)) 0 → room < end + size
    → fitting room (sizes_of (map f (take i hs))) ≡ fitting room (sizes_of (map f hs))
all_fitting f hs i end size room lt is own full =
    sym (ap (fitting room) (sizes-split f hs i lt)
    ∙ fitting-past (sizes_of (map f (take i hs))) (sizes_of (map f (drop (suc i) hs)))
    (result_unwrap_or (f (slice_index_or hs i 0)) 0) room (omega (arith, is, own, full)))

-- ---- the areas of each index

one_count : (areas : List (Address × ℕ)) (r : Result Address H3Error)
    → length (result_unwrap_or (for_value (λ c. Ok (areas_of areas c)) r) [])
    ≡ result_unwrap_or (for_value (λ c. Ok (length (areas_of areas c))) r) 0
one_count areas (Ok c) = refl
one_count areas (Err e) = refl

pub length-areas : (areas : List (Address × ℕ)) (h : ℕ)
    → length (cell_to_areas areas h)
    ≡ result_unwrap_or (for_value (λ c. Ok (length (areas_of areas c))) (cell_from h)) 0
length-areas areas h = one_count areas (cell_from h)

pub counted : (areas : List (Address × ℕ)) (h n : ℕ) (found : List ℕ) → n ≤ length found
    → take n found ≡ cell_to_areas areas h → n ≡ length (cell_to_areas areas h)
counted areas h n found few are =
    let long : length (take n found) ≡ n = omega (arith, length-take n found, few) in
    sym long ∙ ap length are

pub length-all_areas : (areas : List (Address × ℕ)) (hs : List ℕ)
    → length (all_areas areas hs) ≡ total (sizes_of (area_counts areas hs))
unfolding total
length-all_areas areas [] = refl
length-all_areas areas (h ∷ hs) =
    length-append (cell_to_areas areas h) (all_areas areas hs)
    ∙ ap (λ n. n + length (all_areas areas hs)) (length-areas areas h)
    ∙ ap (λ n. result_unwrap_or (for_value (λ c. Ok (length (areas_of areas c))) (cell_from h)) 0 + n)
    (length-all_areas areas hs)

areas-one : (areas : List (Address × ℕ)) (hs : List ℕ) (i : ℕ) → i < length hs
    → all_areas areas (take (suc i) hs) ≡ all_areas areas (take i hs) ++ cell_to_areas areas (slice_index_or hs i 0)
areas-one areas [] i room = absurd (omega (arith, room))
areas-one areas (h ∷ hs) zero room = append-nil (cell_to_areas areas h)
areas-one areas (h ∷ hs) (suc i) room =
    ap (λ l. cell_to_areas areas h ++ l) (areas-one areas hs i (omega (arith, room)))
    ∙ sym (append_assoc (cell_to_areas areas h) (all_areas areas (take i hs))
    (cell_to_areas areas (slice_index_or hs i 0)))

pub areas-next : (areas : List (Address × ℕ)) (hs : List ℕ) (i : ℕ) → i < length hs
    → all_areas areas (take (i + 1) hs) ≡ all_areas areas (take i hs) ++ cell_to_areas areas (slice_index_or hs i 0)
areas-next areas hs i room =
    let next : i + 1 ≡ suc i = omega arith in
    ap (λ n. all_areas areas (take n hs)) next ∙ areas-one areas hs i room

pub areas-split : (areas : List (Address × ℕ)) (hs : List ℕ) (i : ℕ) → i < length hs
    → all_areas areas hs
    ≡ (all_areas areas (take i hs) ++ cell_to_areas areas (slice_index_or hs i 0))
    ++ all_areas areas (drop (suc i) hs)
areas-split areas [] i room = absurd (omega (arith, room))
areas-split areas (h ∷ hs) zero room = refl
areas-split areas (h ∷ hs) (suc i) room =
    let own = cell_to_areas areas h in
    let here = cell_to_areas areas (slice_index_or hs i 0) in
    ap (λ l. own ++ l) (areas-split areas hs i (omega (arith, room)))
    ∙ sym (append_assoc own (all_areas areas (take i hs) ++ here) (all_areas areas (drop (suc i) hs)))
    ∙ ap (λ l. l ++ all_areas areas (drop (suc i) hs)) (sym (append_assoc own (all_areas areas (take i hs)) here))

-- where those of one index more end beyond the room
pub areas-full : (areas : List (Address × ℕ)) (hs : List ℕ) (old : List ℕ) (i end size : ℕ) → i < length hs
    → end ≡ total (sizes_of (area_counts areas (take i hs)))
    → size ≡ length (cell_to_areas areas (slice_index_or hs i 0)) → length old ≤ end + size
    → laid_over (all_areas areas (take i hs) ++ cell_to_areas areas (slice_index_or hs i 0)) old
    ≡ laid_over (all_areas areas hs) old
areas-full areas hs old i end size room is own full =
    let before = all_areas areas (take i hs) in
    let here = cell_to_areas areas (slice_index_or hs i 0) in
    sym (ap (λ l. laid_over l old) (areas-split areas hs i room)
    ∙ laid_over-full (before ++ here) (all_areas areas (drop (suc i) hs)) old
    (omega (arith, length-append before here, length-all_areas areas (take i hs), is, own, full)))

-- ---- the errors are those of indexes that are no cells'

one_code : (areas : List (Address × ℕ)) (r : Result Address H3Error) (counts : List (Result ℕ H3Error))
    (cells : List (Result Address H3Error))
    → first_code counts ≡ first_code cells
    → first_code (for_value (λ c. Ok (length (areas_of areas c))) r ∷ counts) ≡ first_code (r ∷ cells)
unfolding first_code
one_code areas (Ok c) counts cells same = same
one_code areas (Err e) counts cells same = refl

pub same_code : (areas : List (Address × ℕ)) (hs : List ℕ) → first_code (area_counts areas hs) ≡ first_code (judged hs)
unfolding first_code
same_code areas [] = refl
same_code areas (h ∷ hs) = one_code areas (cell_from h) (area_counts areas hs) (judged hs) (same_code areas hs)

one_place : (areas : List (Address × ℕ)) (r : Result Address H3Error) (counts : List (Result ℕ H3Error))
    (cells : List (Result Address H3Error))
    → first_place counts ≡ first_place cells
    → first_place (for_value (λ c. Ok (length (areas_of areas c))) r ∷ counts) ≡ first_place (r ∷ cells)
unfolding first_place
one_place areas (Ok c) counts cells same = ap suc same
one_place areas (Err e) counts cells same = refl

pub same_place : (areas : List (Address × ℕ)) (hs : List ℕ)
    → first_place (area_counts areas hs) ≡ first_place (judged hs)
unfolding first_place
same_place areas [] = refl
same_place areas (h ∷ hs) = one_place areas (cell_from h) (area_counts areas hs) (judged hs) (same_place areas hs)

-- ---- in any order of the pairs

small_cell : (h : ℕ) (c : Address) → cell_in h ≡ Some c → resolution c < 16
unfolding cell_in
small_cell h c is = by_test (is_cell (address_in h) && number_of (address_in h) == h) refl is
  where
    by_test : (b : Bool) → (is_cell (address_in h) && number_of (address_in h) == h) ≡ b
        → (if b then Some (address_in h) else None) ≡ Some c → resolution c < 16
    by_test true t is-2 =
        let same : address_in h ≡ c = ap (λ o. unwrap_or o c) is-2 in
        let valid = and_parts _ _ (and_parts (is_cell (address_in h)) (number_of (address_in h) == h) t).0 in
        let numbers = and_parts _ _ valid.0 in
        let sizes = and_parts (nat_lt (address_in h).base 122) (nat_lt (resolution (address_in h)) 16) numbers.0 in
        subst (λ d. resolution d < 16) same (ltb-true (resolution (address_in h)) 16 sizes.1)
    by_test false t is-2 = absurd (none-some c is-2)

module _ (any : AreasInAnyOrder) (areas others : List (Address × ℕ)) (same : IsPermutation areas others) where
  one_areas : (o : Option Address) → ((c : Address) → o ≡ Some c → resolution c < 16)
      → for_value (λ c. Ok (areas_of areas c)) (ok_or o CellInvalid)
      ≡ for_value (λ c. Ok (areas_of others c)) (ok_or o CellInvalid)
  one_areas None small = refl
  one_areas (Some c) small = ap Ok (any.listed areas others same c (small c refl))

  one_number : (o : Option Address) → ((c : Address) → o ≡ Some c → resolution c < 16)
      → for_value (λ c. Ok (length (areas_of areas c))) (ok_or o CellInvalid)
      ≡ for_value (λ c. Ok (length (areas_of others c))) (ok_or o CellInvalid)
  one_number None small = refl
  one_number (Some c) small = ap (λ l. Ok (length l)) (any.listed areas others same c (small c refl))

  pub all_same : (hs : List ℕ) → all_areas areas hs ≡ all_areas others hs
  all_same [] = refl
  all_same (h ∷ hs) =
      ap (λ r. result_unwrap_or r [] ++ all_areas areas hs) (one_areas (cell_in h) (small_cell h))
      ∙ ap (λ l. cell_to_areas others h ++ l) (all_same hs)

  pub counts_same : (hs : List ℕ) → area_counts areas hs ≡ area_counts others hs
  counts_same [] = refl
  counts_same (h ∷ hs) =
      ap (λ r. r ∷ area_counts areas hs) (one_number (cell_in h) (small_cell h))
      ∙ ap (λ l. for_value (λ c. Ok (length (areas_of others c))) (cell_from h) ∷ l) (counts_same hs)

-- ---- what comes where there is room, and each index given is a cell's

module _ (given numbers hs : List ℕ) (room : ℕ) (cells : List Address) (enough : length given ≤ length numbers)
    (slots : length hs < room) (read : cells_in given ≡ Some cells) where
  pub comes : {A : Type 0} (f : List (Address × ℕ) → A) (other stands : A)
      → if_slots given numbers hs room (if_areas given numbers f other) stands ≡ f (zip cells numbers)
  comes f other stands = rw (le-leb (length given) (length numbers) enough, lt-ltb (length hs) room slots, read) refl

-- ---- the areas stand where they begin

-- those after a list that ends where the first begin
between : (areas : List (Address × ℕ)) (hs before : List ℕ) (place i : ℕ) → length before ≡ place → i < length hs
    → slice_range (before ++ all_areas areas hs) (slice_index (starts_from place (sizes_of (area_counts areas hs))) i)
    (slice_index (starts_from place (sizes_of (area_counts areas hs))) (suc i))
    ≡ cell_to_areas areas (slice_index hs i)
unfolding starts_from
between areas [] before place i long room = absurd (omega (arith, room))
between areas (h ∷ hs) before place zero long room =
    let own = cell_to_areas areas h in
    let size = result_unwrap_or (for_value (λ c. Ok (length (areas_of areas c))) (cell_from h)) 0 in
    let next : slice_index (starts_from (place + size) (sizes_of (area_counts areas hs))) 0 ≡ place + size =
    start-first (place + size) (sizes_of (area_counts areas hs)) in
    let many : place + size - place ≡ length own = omega (arith, length-areas areas h) in
    ap (λ n. take (n - place) (drop place (before ++ (own ++ all_areas areas hs)))) next
    ∙ ap (λ n. take n (drop place (before ++ (own ++ all_areas areas hs)))) many
    ∙ ap (λ n. take (length own) (drop n (before ++ (own ++ all_areas areas hs)))) (sym long)
    ∙ ap (λ l. take (length own) l) (drop-front before (own ++ all_areas areas hs))
    ∙ take-front own (all_areas areas hs)
between areas (h ∷ hs) before place (suc i) long room =
    let own = cell_to_areas areas h in
    let size = result_unwrap_or (for_value (λ c. Ok (length (areas_of areas c))) (cell_from h)) 0 in
    let starts = starts_from (place + size) (sizes_of (area_counts areas hs)) in
    let on : length (before ++ own) ≡ place + size =
    omega (arith, length-append before own, long, length-areas areas h) in
    ap (λ l. slice_range l (slice_index starts i) (slice_index starts (suc i)))
    (sym (append_assoc before own (all_areas areas hs)))
    ∙ between areas hs (before ++ own) (place + size) i on (omega (arith, room))

pub areas_stand : AreasStandAtStarts
areas_stand areas hs i room =
    let next : i + 1 ≡ suc i = omega arith in
    let starts = starts_from 0 (sizes_of (area_counts areas hs)) in
    ap (λ n. slice_range (all_areas areas hs) (slice_index starts i) (slice_index starts n)) next
    ∙ between areas hs [] 0 i refl room
