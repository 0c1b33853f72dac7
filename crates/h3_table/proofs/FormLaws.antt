-- The files of the form, and those without an error.
use Rattle.std.proofs.Common.{◌≡◌, ◌<◌, ◌≤◌, ◌+◌, ℕ, Bool, true, false, Option, Some, None, ◌⊎◌, List, [], ◌∷◌, ◌++◌, length, refl, arith, sym, ◌∙◌, ap, subst, inl, inr, ◌&&◌, slice_index}
use Rattle.std.specs.Prelude.{if◌then◌else◌, ◌==◌, is_some, unwrap_or, All, bytes_eq, nat_lt}
use Rattle.std.specs.List.{count_by, list_all}
use Rattle.std.proofs.lemmas.List.Elements.{All-cons, All-head, All-nil, All-tail}
use Rattle.std.proofs.lemmas.List.Sums.{sum_by-cons}
use Rattle.std.proofs.lemmas.Slice.Eq.{bytes_eq-Decides}
use Rattle.std.proofs.lemmas.Bool.Decides.{nat_tests}
use Rattle.std.specs.Option.{option_or}
use Rattle.h3_directions.specs.declared.direction.Direction.{Direction}
use Rattle.h3_directions.specs.declared.error.TableError.TheVariants as fault
use Rattle.h3_directions.specs.Direction.{digit_of, directions}
use Rattle.h3_table.specs.declared.format.Format.{Format}
use Rattle.h3_table.specs.declared.format.Format.TheVariants.{One, Two}
use Rattle.h3_table.specs.Fields.{Record, numbers_in, same_fields}
use Rattle.h3_table.specs.Format.{own_digit, header_format, format_after, header, in_range, link_in, width}
use Rattle.h3_table.specs.FormatOne.{header_one}
use Rattle.h3_table.specs.FormatTwo.{header_two, is_link_two, link_at_digit}
use Rattle.h3_table.specs.Links.{IsHexagonBase, IsLink, IsSound, is_hexagon_base}
use Rattle.h3_table.specs.Checks.{at_links, fault_of_links}
use Rattle.h3_table.specs.Records.{body_of, fault_in, fault_of, fault_of_records, first_fault, format_of, record_link, first_link}
use Rattle.h3_table.specs.Table.{IsLinkRecord, IsOfForm, SoundFilesAreAccepted, has_link, links_of, missing_of, table_fault}
use Rattle.h3_table.proofs.ReadingLaws.{format-under}
use Rattle.h3_table.proofs.SlotLaws.{first_place, free-links, free-slot, in_range_one-parts, in_range_one-true, in_range_two-true, first_link-append}
use Rattle.h3_table.proofs.SoundLaws.{and_both, both, checks_mean_sound, direction_below, from_base-none, hexagon_of, is_hexagon_of, no_fault, no_fault_at, nones, nth_direction, true-nat_lt, error_unless-none}

-- ---- fields

same_fields-true : (r t : Record) → same_fields r t ≡ true → r ≡ t
unfolding same_fields
same_fields-true [] [] e = refl
same_fields-true [] (g ∷ gs) e = cc e
same_fields-true (f ∷ fs) [] e = cc e
same_fields-true (f ∷ fs) (g ∷ gs) e =
    let two = and_both (bytes_eq f g) (same_fields fs gs) e in
    let first : f ≡ g = (bytes_eq-Decides f g).0 two.0 in
    let rest : fs ≡ gs = same_fields-true fs gs two.1 in
    cc

-- ---- counts

one_if : Bool → ℕ
one_if true = 1
one_if false = 0

one_if-le : (b : Bool) → one_if b ≤ 1
unfolding one_if
one_if-le true = omega arith
one_if-le false = omega arith

cond_is : (b : Bool) (n : ℕ) → (if b then 1 else 0) + n ≡ one_if b + n
unfolding one_if
cond_is true n = refl
cond_is false n = refl

-- how many records name a base cell and a direction
count : Format → ℕ → ℕ → List Record → ℕ
count format b d body = count_by (has_link format b d) body

count-none : (format : Format) (b d : ℕ) → count format b d [] ≡ 0
unfolding count
count-none format b d = refl

count-cons : (format : Format) (b d : ℕ) (r : Record) (body : List Record)
    → count format b d (r ∷ body) ≡ one_if (has_link format b d r) + count format b d body
unfolding count
count-cons format b d r body =
    sum_by-cons _ r body ∙ cond_is (has_link format b d r) (count_by (has_link format b d) body)

-- there is a link where some record has one for the place
one_or_more : (o p : Option (ℕ × ℕ)) (n : ℕ) → (is_some p ≡ true → 1 ≤ n) → is_some (option_or o p) ≡ true
    → 1 ≤ one_if (is_some o) + n
unfolding one_if
one_or_more None p n h e = let k = h e in omega arith
one_or_more (Some x) p n h e = omega arith

linked-counts : (format : Format) (b d : ℕ) (body : List Record) → is_some (first_link format b d body) ≡ true
    → 1 ≤ count format b d body
unfolding first_link
linked-counts format b d [] e = cc e
linked-counts format b d (r ∷ body) e =
    rw (count-cons format b d r body) (one_or_more (record_link format b d r) (first_link format b d body)
    (count format b d body) (λ k. linked-counts format b d body k) e)

some_of_one : (o p : Option (ℕ × ℕ)) (n : ℕ) → (1 ≤ n → is_some p ≡ true) → 1 ≤ one_if (is_some o) + n
    → is_some (option_or o p) ≡ true
unfolding one_if
some_of_one None p n h e = h (omega arith)
some_of_one (Some x) p n h e = refl

counts-linked : (format : Format) (b d : ℕ) (body : List Record) → 1 ≤ count format b d body
    → is_some (first_link format b d body) ≡ true
unfolding first_link
counts-linked format b d [] e = let none = count-none format b d in absurd (omega arith)
counts-linked format b d (r ∷ body) e =
    some_of_one (record_link format b d r) (first_link format b d body) (count format b d body)
    (λ k. counts-linked format b d body k) (rw (count-cons format b d r body) at e)

-- ---- records without a fault

-- at most one record has a link for a place, where one more without a fault comes after others
more-room : (b d : ℕ) (before : Option (ℕ × ℕ)) (here : Option (ℕ × ℕ)) (n : ℕ) → (is_some here ≡ true → before ≡ None)
    → n + one_if (is_some (option_or before here)) ≤ 1 → one_if (is_some here) + n + one_if (is_some before) ≤ 1
unfolding one_if
more-room b d None None n free h = omega arith
more-room b d None (Some x) n free h = omega arith
more-room b d (Some y) None n free h = omega arith
more-room b d (Some y) (Some x) n free h = cc (free refl)

less-room : (before here : Option (ℕ × ℕ)) (n : ℕ) → one_if (is_some here) + n + one_if (is_some before) ≤ 1
    → n + one_if (is_some (option_or before here)) ≤ 1
unfolding one_if
less-room None None n h = omega arith
less-room None (Some x) n h = omega arith
less-room (Some y) here n h = let k = one_if-le (is_some here) in omega arith

-- the numbers of a record without a fault are in their ranges, and no record before it has a link for its place
record IsFree (format : Format) (before : List Record) (r : Record) : Type 0 where
  pub link : IsLinkRecord format r
  pub free : (b d : ℕ) → has_link format b d r ≡ true → first_link format b d before ≡ None

free_of : (format : Format) (row : ℕ) (before : List Record) (r : Record) (o : Option (List ℕ))
    → numbers_in (width format) r ≡ o
    → fault_in format row (λ b d. first_link format b d before) o ≡ None → IsFree format before r
free_of format row before r None is e = cc e
free_of format row before r (Some ns) is e =
    let two = free-slot format row (λ b d. first_link format b d before) ns e in
    record {
      link = record { numbers = ns; parsed = is; ranges = two.0 };
      free = λ b d named. free-links format b d ns before two.1 (rw is at named);
    }

record IsRest (format : Format) (before rest : List Record) : Type 0 where
  pub each : All (IsLinkRecord format) rest
  pub most : (b d : ℕ) → count format b d rest + one_if (is_some (first_link format b d before)) ≤ 1

rest_of : (front : Record) (before rest : List Record) → first_fault (front ∷ before) rest ≡ None
    → IsRest (format_after front) before rest
unfolding first_fault
rest_of front before [] e =
    let format = format_after front in
    record {
      each = All-nil (IsLinkRecord format);
      most = λ b d.
          let none = count-none format b d in
          let le = one_if-le (is_some (first_link format b d before)) in omega arith;
    }
rest_of front before (r ∷ rest) e =
    let format = format_after front in
    let two = both (fault_of (front ∷ before) r) (first_fault (front ∷ (before ++ r ∷ [])) rest) e in
    let here = free_of format (length before + 2) before r (numbers_in (width format) r) refl two.0 in
    let later = rest_of front (before ++ r ∷ []) rest two.1 in
    record {
      each = All-cons (IsLinkRecord format) r rest here.link later.each;
      most = λ b d. rw (count-cons format b d r rest)
          (more-room b d (first_link format b d before) (record_link format b d r) (count format b d rest)
          (here.free b d) (rw (first_link-append format b d before r) at (later.most b d)));
    }

-- ---- records of the form have no fault

fault_in-none : (format : Format) (row : ℕ) (before : List Record) (r : Record) (k : IsLinkRecord format r)
    → is_some (first_link format (slice_index k.numbers 0) (own_digit format k.numbers) before) ≡ false
    → fault_in format row (λ b d. first_link format b d before) (numbers_in (width format) r) ≡ None
fault_in-none format row before r k e = rw (k.parsed, k.ranges, e) refl

own_link : (format : Format) (ns : List ℕ) → is_some (link_in format (slice_index ns 0) (own_digit format ns) ns) ≡ true
own_link One ns =
    let first : (slice_index ns 0 == slice_index ns 0) ≡ true = grind (arith, nat_tests) in
    let second : (slice_index ns 1 == slice_index ns 1) ≡ true = grind (arith, nat_tests) in
    rw (first, second) refl
own_link Two ns =
    let first : (slice_index ns 0 == slice_index ns 0) ≡ true = grind (arith, nat_tests) in
    rw first refl

names-own : (format : Format) (r : Record) (k : IsLinkRecord format r)
    → has_link format (slice_index k.numbers 0) (own_digit format k.numbers) r ≡ true
names-own format r k = rw k.parsed (own_link format k.numbers)

none_before : (b : Bool) (n m : ℕ) → n ≡ 1 → n + m + one_if b ≤ 1 → b ≡ false
unfolding one_if
none_before true n m e h = absurd (omega arith)
none_before false n m e h = refl

one_if-true : (b : Bool) → b ≡ true → one_if b ≡ 1
unfolding one_if
one_if-true true e = refl
one_if-true false e = cc e

in_range-hexagon : (format : Format) (ns : List ℕ) → in_range format ns ≡ true → IsHexagonBase (slice_index ns 0)
in_range-hexagon One ns h = hexagon_of (slice_index ns 0) (in_range_one-parts ns h).0
in_range-hexagon Two ns h =
    hexagon_of (slice_index ns 0)
    (and_both (is_hexagon_base (slice_index ns 0)) (list_all (is_link_two ns) directions) h).0

AtMostOnce : Format → List Record → List Record → Type 0
AtMostOnce format before rest =
    (b d : ℕ) → IsHexagonBase b → 0 < d → d < 7
    → count format b d rest + one_if (is_some (first_link format b d before)) ≤ 1

first_fault-none : (front : Record) (before rest : List Record) → All (IsLinkRecord (format_after front)) rest
    → AtMostOnce (format_after front) before rest → first_fault (front ∷ before) rest ≡ None
unfolding first_fault AtMostOnce
first_fault-none front before [] each most = refl
first_fault-none front before (r ∷ rest) each most =
    let format = format_after front in
    let k = All-head (IsLinkRecord format) r rest each in
    let base = slice_index k.numbers 0 in
    let digit = own_digit format k.numbers in
    let range = first_place format k.numbers k.ranges in
    let hexagon : IsHexagonBase base = in_range-hexagon format k.numbers k.ranges in
    let room = rw (count-cons format base digit r rest) at (most base digit hexagon range.1 range.2) in
    let none =
    none_before (is_some (first_link format base digit before)) _ (count format base digit rest)
    (one_if-true (has_link format base digit r) (names-own format r k)) room in
    nones (fault_of (front ∷ before) r) (first_fault (front ∷ (before ++ r ∷ [])) rest)
    (fault_in-none format (length before + 2) before r k none)
    (first_fault-none front (before ++ r ∷ []) rest (All-tail (IsLinkRecord format) r rest each)
    (λ b d h low high. rw (first_link-append format b d before r)
    (less-room (first_link format b d before) (record_link format b d r) (count format b d rest)
    (rw (count-cons format b d r rest) at (most b d h low high)))))

-- ---- the links of good records

within_if : (c : Bool) (link : ℕ × ℕ) → (c ≡ true → IsLink link)
    → IsLink (unwrap_or (if c then Some link else None) (0, 0))
within_if true link h = h refl
within_if false link h = (omega arith, omega arith)

numbers-within : (format : Format) (b d : ℕ) (ns : List ℕ) → in_range format ns ≡ true
    → IsLink (unwrap_or (link_in format b d ns) (0, 0))
numbers-within One b d ns e = let range = in_range_one-true ns e in
    within_if ((slice_index ns 0 == b) && (slice_index ns 1 == d)) (slice_index ns 2, slice_index ns 3)
    (λ k. (range.3, range.4))
numbers-within Two b d ns e =
    within_if ((slice_index ns 0 == b) && (nat_lt 0 d && nat_lt d 7)) (link_at_digit d ns) (λ k.
    let digit = and_both (nat_lt 0 d) (nat_lt d 7) (and_both (slice_index ns 0 == b) (nat_lt 0 d && nat_lt d 7) k).1 in
    (in_range_two-true ns e).1 d (true-nat_lt 0 d digit.0) (true-nat_lt d 7 digit.1))

link_within : (format : Format) (b d : ℕ) (r : Record) → IsLinkRecord format r
    → IsLink (unwrap_or (record_link format b d r) (0, 0))
link_within format b d r k = rw k.parsed (numbers-within format b d k.numbers k.ranges)

option_or-within : (o p : Option (ℕ × ℕ)) → IsLink (unwrap_or o (0, 0)) → IsLink (unwrap_or p (0, 0))
    → IsLink (unwrap_or (option_or o p) (0, 0))
option_or-within None p h k = k
option_or-within (Some x) p h k = h

first_link-within : (format : Format) (b d : ℕ) (body : List Record) → All (IsLinkRecord format) body
    → IsLink (unwrap_or (first_link format b d body) (0, 0))
unfolding first_link
first_link-within format b d [] each = (omega arith, omega arith)
first_link-within format b d (r ∷ body) each =
    option_or-within (record_link format b d r) (first_link format b d body)
    (link_within format b d r (All-head (IsLinkRecord format) r body each))
    (first_link-within format b d body (All-tail (IsLinkRecord format) r body each))

-- ---- files

-- a header is that of its format
format_true : (p q : Bool) (format : Format) → (if p then Some One else (if q then Some Two else None)) ≡ Some format
    → ((p ≡ true) × (format ≡ One)) ⊎ ((q ≡ true) × (format ≡ Two))
format_true true q format e = inl (refl, cc e)
format_true false true format e = inr (refl, cc e)
format_true false false format e = cc e

header_of : (front : Record) (format : Format) → header_format front ≡ Some format → front ≡ header format
header_of front format e =
    elim (format_true (same_fields front header_one) (same_fields front header_two) format e) [
      | inl one ↦ rw one.1 (same_fields-true front header_one one.0)
      | inr two ↦ rw two.1 (same_fields-true front header_two two.0)
    ]

header_back : (format : Format) → header_format (header format) ≡ Some format
unfolding same_fields
header_back One = refl
header_back Two = refl

some_format : (o : Option Format) → (if is_some o then None else Some (fault.Form 1)) ≡ None
    → o ≡ Some (unwrap_or o One)
some_format None e = cc e
some_format (Some x) e = refl

one_of : (format : Format) (b d : ℕ) (body : List Record) (more : ℕ) → 1 ≤ count format b d body
    → count format b d body + more ≤ 1 → count_by (has_link format b d) body ≡ 1
unfolding count
one_of format b d body more h k = omega arith

pub form_of : (records : List Record) → fault_of_records records ≡ None → at_links (missing_of records) ≡ None
    → IsOfForm records
unfolding first_fault
form_of [] e full = cc e
form_of (front ∷ body) e full =
    let format = format_after front in
    let two = both (fault_of [] front) (first_fault (front ∷ []) body) e in
    let rest = rest_of front [] body two.1 in
    let same : front ≡ header format = header_of front format (some_format (header_format front) two.0) in
    record {
      format = format;
      front = ap (λ (r : Record). r ∷ body) same;
      each = rest.each;
      once = λ b d h.
          let some =
          no_fault (is_some (first_link format b (digit_of d) body)) fault.Missing
          (no_fault_at (missing_of (front ∷ body)) b d full (is_hexagon_of b h)) in
          let least = linked-counts format b (digit_of d) body some in
          let most = rest.most b (digit_of d) in
          one_of format b (digit_of d) body _ least most;
    }

none_more : (format : Format) (b d n : ℕ) → n ≡ 1 → n + one_if (is_some (first_link format b d [])) ≤ 1
unfolding one_if first_link
none_more format b d n e = omega arith

-- the format of a file of the form
format_is : (records : List Record) (f : IsOfForm records) → format_of records ≡ f.format
format_is records f =
    subst (λ records. format_of records ≡ f.format) (sym f.front)
    (format-under (header f.format) f.format (header_back f.format))

at_most_once : (records : List Record) (f : IsOfForm records) → AtMostOnce f.format [] (body_of records)
unfolding AtMostOnce count
at_most_once records f b d h low high =
    let is = direction_below d low high in
    none_more f.format b d (count_by (has_link f.format b d) (body_of records))
    (rw is at (f.once b (nth_direction d) h))

begin_with_header : (format : Format) (body : List Record) → first_fault (header format ∷ []) body ≡ None
    → first_fault [] (header format ∷ body) ≡ None
unfolding first_fault
begin_with_header format body e =
    nones (fault_of [] (header format)) (first_fault (header format ∷ []) body)
    (let same = header_back format in rw same refl) e

pub no_fault_of : (records : List Record) → IsOfForm records → fault_of_records records ≡ None
no_fault_of records f =
    let under : format_after (header f.format) ≡ f.format =
    format-under (header f.format) f.format (header_back f.format) in
    subst (λ records. fault_of_records records ≡ None) (sym f.front)
    (begin_with_header f.format (body_of records)
    (first_fault-none (header f.format) [] (body_of records) (rw under f.each) (rw under (at_most_once records f))))

some_of : (records : List Record) → IsOfForm records → (b : ℕ) (d : Direction) → IsHexagonBase b
    → is_some (first_link (format_of records) b (digit_of d) (body_of records)) ≡ true
unfolding count
some_of records f b d h =
    let one = f.once b d h in
    let is = format_is records f in
    rw is (counts-linked f.format b (digit_of d) (body_of records) (omega arith))

pub none_missing : (records : List Record) → IsOfForm records → at_links (missing_of records) ≡ None
none_missing records f =
    from_base-none (missing_of records) 0 122
    (λ b d h.
    error_unless-none (is_some (first_link (format_of records) b (digit_of d) (body_of records))) fault.Missing
    (some_of records f b d h))

pub sound_files_are_accepted : SoundFilesAreAccepted
sound_files_are_accepted records = (accepted, refused_not)
  where
    within : IsOfForm records → (b : ℕ) (d : Direction) → IsHexagonBase b → IsLink (links_of records b d)
    within form b d h =
        let is = format_is records form in
        rw is (first_link-within form.format b (digit_of d) (body_of records) form.each)

    accepted : table_fault records ≡ None → IsOfForm records × IsSound (links_of records)
    accepted e =
        let one =
        both (fault_of_records records)
        (option_or (at_links (missing_of records)) (fault_of_links (links_of records))) e in
        let two = both (at_links (missing_of records)) (fault_of_links (links_of records)) one.1 in
        let form = form_of records one.0 two.0 in
        (form, (checks_mean_sound (links_of records) (within form)).0 two.1)

    refused_not : IsOfForm records × IsSound (links_of records) → table_fault records ≡ None
    refused_not h =
        nones (fault_of_records records) (option_or (at_links (missing_of records)) (fault_of_links (links_of records)))
        (no_fault_of records h.0)
        (nones (at_links (missing_of records)) (fault_of_links (links_of records)) (none_missing records h.0)
        ((checks_mean_sound (links_of records) (within h.0)).1 h.1))
