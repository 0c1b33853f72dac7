-- Whether a cell has a zone, by the list and by the zone that is found; and indexes that are judged and counted one by
-- one.
use Rattle.std.proofs.Common.{ℕ, zero, suc, ◌≡◌, ◌≢◌, ◌+◌, ◌<◌, ◌≤◌, ◌⊎◌, ◌++◌, List, [], ◌∷◌, length, take, drop, map, nat_le, sum, replicate, slice_index_or, Bool, true, false, is_some, Option, None, Some, unwrap_or, refl, sym, ap, ◌∙◌, inl, inr, arith, rules, All, IsPermutation, take_all}
use Rattle.std.specs.List.{find, list_any}
use Rattle.std.proofs.lemmas.Bool.{le-leb}
use Rattle.std.proofs.lemmas.List.{length-take}
use Rattle.std.proofs.lemmas.List.Sorted.{length_permutation}
use Rattle.h3_index.specs.Cell.{Address, IsCell, number_of}
use Rattle.h3_index.specs.CellNumber.{cell_in}
use Rattle.h3_index.specs.Laws.{NumbersAreRead}
use Rattle.h3_set.specs.Coverage.{is_ancestor, is_covered}
use Rattle.h3_regions.specs.Laws.{NothingCounted}
use Rattle.h3_regions.specs.Counting.{AreCounts, count_in}
use Rattle.h3_regions.specs.Zones.{IsZones, zone_of}
use Rattle.h3_c.specs.Column.{first_code, first_place}
use Rattle.h3_c.specs.Lists.{indexes, laid_over}
use Rattle.h3_c.specs.Sets.{cells_in}
use Rattle.h3_c.specs.Zones.{AreZonesOver, counts_over, judged, others_over}
use Rattle.h3_c.proofs.CellsIn.{cells_in-length, cells_in-none, cells_in-snoc, some-joined}

true_or_not : (b : Bool) → (b ≡ true) ⊎ (b ≡ false)
true_or_not true = inl refl
true_or_not false = inr refl

found_any : (p : Address → Bool) (cells : List Address) → is_some (find p cells) ≡ list_any p cells
found_any p [] = refl
found_any p (c ∷ cells) =
    elim (true_or_not (p c)) [
      | inl pass ↦ rw (pass) refl
      | inr miss ↦ rw (miss) (found_any p cells)
    ]

-- the zones cover exactly the cells that have one
pub has_zone : (zones : List Address) (x : Address) → is_some (zone_of zones x) ≡ is_covered zones x
has_zone zones x = found_any (λ z. is_ancestor z x) zones

-- ---- the cells of a list, or none

none_or : (r : Option (List Address)) → (r ≡ None) ⊎ (r ≢ None)
none_or None = inl refl
none_or (Some cells) = inr (λ e. search (rules, e))

the_cells : (r : Option (List Address)) → r ≢ None → (cells : List Address) × (r ≡ Some cells)
the_cells None some = absurd (some refl)
the_cells (Some cells) some = (cells, refl)

-- ---- judged one by one

-- where the first i are cells', and the next is none's, it is the first that is none's
pub judged-error : (hs : List ℕ) (i : ℕ) → i < length hs → cells_in (take i hs) ≢ None
    → cell_in (slice_index_or hs i 0) ≡ None → (first_code (judged hs) ≡ 5) × (first_place (judged hs) ≡ i)
unfolding cells_in first_code first_place
judged-error [] i room before here = absurd (omega (arith, room))
judged-error (h ∷ hs) zero room before here = rw (here) (refl, refl)
judged-error (h ∷ hs) (suc i) room before here =
    let (c, is, rest) = some-joined (cell_in h) (cells_in (take i hs)) before in
    let later = judged-error hs i (omega (arith, room)) rest here in
    rw (is) (later.0, ap suc later.1)

-- where all are cells'
pub judged-ok : (hs : List ℕ) → cells_in hs ≢ None
    → (first_code (judged hs) ≡ 0) × (first_place (judged hs) ≡ length hs)
unfolding cells_in first_code first_place
judged-ok [] some = (refl, refl)
judged-ok (h ∷ hs) some =
    let (c, is, rest) = some-joined (cell_in h) (cells_in hs) some in
    let later = judged-ok hs rest in
    rw (is) (later.0, ap suc later.1)

-- ---- counted one by one

-- the cells of the first n indexes are counted
pub record IsCounting (zones : List Address) (hs counts : List ℕ) (others n : ℕ) : Type 0 where
  pub cells : List Address
  pub read : cells_in (take n hs) ≡ Some cells
  pub counted : AreCounts zones cells counts others

module _ (zones : List Address) (hs counts : List ℕ) (others i : ℕ) (inv : IsCounting zones hs counts others i) where
  -- they are as many as the indexes
  pub counted-size : i ≤ length hs → sum counts + others ≡ i
  counted-size room =
      omega (arith, inv.counted.all, cells_in-length (take i hs) inv.cells inv.read, length-take i hs, room)

  -- one more
  pub counted-next : (x : Address) (more : List ℕ) (rest : ℕ) → i < length hs → cell_in (slice_index_or hs i 0) ≡ Some x
      → ((cells : List Address) → AreCounts zones cells counts others → AreCounts zones (cells ++ x ∷ []) more rest)
      → IsCounting zones hs more rest (i + 1)
  counted-next x more rest room is next =
      let up : i + 1 ≡ suc i = omega arith in
      record {
        cells = inv.cells ++ x ∷ [];
        read = rw up (cells_in-snoc hs i inv.cells x room inv.read is);
        counted = next inv.cells inv.counted;
      }

  -- all
  pub counted-all : length hs ≤ i → (cells : List Address) → cells_in hs ≡ Some cells
      → AreCounts zones cells counts others
  counted-all end cells read =
      let whole : take i hs ≡ hs = take_all i hs end in
      let same : inv.cells ≡ cells = ap (λ o. unwrap_or o []) (sym inv.read ∙ ap cells_in whole ∙ read) in
      rw (sym same) inv.counted

pub begun : NothingCounted → (zones : List Address) (hs counts : List ℕ) → counts ≡ replicate {A = ℕ} (length zones) 0
    → IsCounting zones hs counts 0 0
unfolding cells_in
begun nothing zones hs counts is = record { cells = []; read = refl; counted = rw is (nothing zones) }

-- no index is none's, where all are cells'
pub none_missing : (hs : List ℕ) (i : ℕ) → cells_in hs ≢ None → i < length hs → cell_in (slice_index_or hs i 0) ≡ None
    → ⊥
none_missing hs i some room here = some (cells_in-none hs i room here)

-- ---- what is written for counts

length-map_of : (f : Address → ℕ) (zones : List Address) → length (map f zones) ≡ length zones
length-map_of f [] = refl
length-map_of f (z ∷ zones) = ap suc (length-map_of f zones)

laid_over-front : (xs old : List ℕ) (n : ℕ) → length xs ≡ n → n ≤ length old → xs ++ drop n old ≡ laid_over xs old
unfolding laid_over
laid_over-front [] old n same room = rw (sym same) refl
laid_over-front (x ∷ xs) [] n same room = absurd (omega (arith, same, room))
laid_over-front (x ∷ xs) (y ∷ old) zero same room = absurd (omega (arith, same))
laid_over-front (x ∷ xs) (y ∷ old) (suc n) same room =
    ap (λ l. x ∷ l) (laid_over-front xs old n (omega (arith, same)) (omega (arith, room)))

take_front : (xs ys : List ℕ) (n : ℕ) → length xs ≡ n → take n (xs ++ ys) ≡ xs
take_front [] ys n same = rw (sym same) refl
take_front (x ∷ xs) ys zero same = absurd (omega (arith, same))
take_front (x ∷ xs) ys (suc n) same = ap (λ l. x ∷ l) (take_front xs ys n (omega (arith, same)))

pub there : (hs : List ℕ) → cells_in hs ≢ None → (cells : List Address) × (cells_in hs ≡ Some cells)
there hs some = the_cells (cells_in hs) some

module _ (zones : List Address) (hs old : List ℕ) (room : length zones ≤ length old) where
  fits : nat_le (length zones) (length old) ≡ true
  fits = le-leb (length zones) (length old) room

  module _ (counts : List ℕ) (others : ℕ) (cells : List Address) (read : cells_in hs ≡ Some cells)
      (are : AreCounts zones cells counts others) where
    size : length counts ≡ length zones
    size = ap length are.each ∙ length-map_of (λ z. count_in z cells) zones

    pub counts_written : counts ++ drop (length zones) old ≡ counts_over zones hs old
    counts_written =
        rw (fits, read) (laid_over-front counts old (length zones) size room ∙ ap (λ l. laid_over l old) are.each)

    pub others_written : (was : ℕ) → others ≡ others_over zones hs (length old) was
    others_written was = rw (fits, read) are.none

    pub adds_up : sum (take (length zones) (counts ++ drop (length zones) old)) + others ≡ length hs
    adds_up =
        rw (take_front counts (drop (length zones) old) (length zones) size) (are.all ∙ cells_in-length hs cells read)

  pub counts_kept : cells_in hs ≡ None → old ≡ counts_over zones hs old
  counts_kept none = rw (fits, none) refl

  pub others_kept : cells_in hs ≡ None → (was : ℕ) → was ≡ others_over zones hs (length old) was
  others_kept none was = rw (fits, none) refl

-- an index of no cell, where one has an error
pub none_there : (hs : List ℕ) → first_code (judged hs) ≢ 0 → cells_in hs ≡ None
none_there hs some = elim (none_or (cells_in hs)) [
  | inl none ↦ none
  | inr all ↦ absurd (some (judged-ok hs all).0)
]

-- ---- what is written for zones

pub read-indexes : NumbersAreRead → (zones : List Address) → All IsCell zones → cells_in (indexes zones) ≡ Some zones
unfolding cells_in
read-indexes reads [] valid = refl
read-indexes reads (z ∷ zones) valid =
    rw (
      reads z (valid 0 z (omega arith)),
      read-indexes reads zones (λ i d lt. valid (suc i) d (omega (arith, lt))),
    ) refl

pub zones_over : NumbersAreRead → (hs old new : List ℕ) (given zones : List Address) → cells_in hs ≡ Some given
    → IsPermutation given zones → IsZones zones → length hs ≤ length old → new ≡ laid_over (indexes zones) old
    → AreZonesOver hs old new
zones_over reads hs old new given zones read same in_order room written =
    let size : length (indexes zones) ≡ length hs =
    length-map_of (λ c. number_of c) zones ∙ length_permutation given zones same ∙ cells_in-length hs given read in
    let front = laid_over-front (indexes zones) old (length hs) size room in
    record {
      given = given;
      zones = zones;
      read = read;
      same = same;
      in_order = in_order;
      written = written;
      read_again =
          rw (written, sym front, take_front (indexes zones) (drop (length hs) old) (length hs) size)
          (read-indexes reads zones in_order.valid);
    }
