-- The first error of a table file, as the definitions compute it and as it is said.
use Rattle.std.proofs.Common.{◌≡◌, ◌<◌, ◌≤◌, ◌+◌, ◌-◌, ◌⊎◌, ℕ, zero, suc, Bool, true, false, Option, Some, None, List, [], ◌∷◌, ◌++◌, length, get_or, refl, arith, sym, subst, ◌∙◌, ap, append_assoc, append-nil, inl, inr, take, slice_get}
use Rattle.std.specs.Prelude.{if◌then◌else◌, is_some}
use Rattle.std.specs.Option.{option_or}
use Rattle.h3_directions.specs.declared.direction.Direction.{Direction}
use Rattle.h3_directions.specs.declared.direction.Direction.TheVariants.{K}
use Rattle.h3_directions.specs.declared.error.TableError.{TableError}
use Rattle.h3_directions.specs.declared.error.TableError.TheVariants as fault
use Rattle.h3_table.specs.declared.checks.Check.TheVariants as check
use Rattle.h3_directions.specs.Direction.{digit_of, directions}
use Rattle.h3_table.specs.Fields.{Record}
use Rattle.h3_table.specs.First.{AreGood, FailsFirst, FaultsAreFirst, HoldsEverywhere, LeadsApart, IsEarlier, IsClosed, IsFirstFault, IsFirstFaulty, IsMissing, IsReversed}
use Rattle.h3_table.specs.Links.{IsHexagonBase, Links, is_hexagon_base}
use Rattle.h3_table.specs.Checks.{at_links, closes, fault_at, fault_of_links, from_base, in_directions, leads_apart, reverses, error_unless}
use Rattle.h3_table.specs.Records.{body_of, fault_of, fault_of_records, first_fault, format_of, first_link}
use Rattle.h3_table.specs.Table.{IsOfForm, links_of, missing_of, table_fault}
use Rattle.h3_table.proofs.FormLaws.{form_of, no_fault_of, none_missing}
use Rattle.h3_table.proofs.KindLaws.{IsKind, checks-kind, is_kind, kind, missing-kind, records-kind}
use Rattle.h3_table.proofs.SoundLaws.{apart-is, apart-of, closed-is, closed-of, digit_at, digit_of-gt, digit_of-lt, direction-at, from_base-none, hexagon_of, in_each, is_hexagon_of, both, if_none, in_directions-none, no_fault, no_fault_at, reversed-is, reversed-of, error_unless-none}

nat_cases : (b a : ℕ) → b ≤ a → (b ≡ a) ⊎ (b + 1 ≤ a)
nat_cases b a h = grind arith

-- ---- the first of a list of directions

record FirstIn (f : Direction → Option TableError) (ds : List Direction) (x : TableError) : Type 0 where
  index : ℕ
  below : index < length ds
  there : f (get_or ds index K) ≡ Some x
  before : (j : ℕ) → j < index → f (get_or ds j K) ≡ None

in_directions-first : (f : Direction → Option TableError) (ds : List Direction) (x : TableError)
    → in_directions f ds ≡ Some x → FirstIn f ds x
unfolding in_directions
in_directions-first f [] x e = cc e
in_directions-first f (d ∷ ds) x e = by (f d) refl e (in_directions-first f ds x)
  where
    before_more : (i : FirstIn f ds x) → f d ≡ None → (j : ℕ) → j < suc i.index → f (get_or (d ∷ ds) j K) ≡ None
    before_more i none zero h = none
    before_more i none (suc j) h = i.before j (omega arith)

    by : (o : Option TableError) → f d ≡ o → option_or o (in_directions f ds) ≡ Some x
        → (in_directions f ds ≡ Some x → FirstIn f ds x) → FirstIn f (d ∷ ds) x
    by (Some y) is e rest =
        record { index = 0; below = omega arith; there = is ∙ e; before = λ j h. absurd (omega arith) }
    by None is e rest =
        let i = rest e in
        let low : i.index < length ds = i.below in
        record { index = suc i.index; below = omega arith; there = i.there; before = before_more i is }

in_directions-some : (f : Direction → Option TableError) (ds : List Direction) (i : ℕ) (x : TableError) → i < length ds
    → f (get_or ds i K) ≡ Some x
    → ((j : ℕ) → j < i → f (get_or ds j K) ≡ None) → in_directions f ds ≡ Some x
unfolding in_directions
in_directions-some f [] i x h e before = absurd (omega arith)
in_directions-some f (d ∷ ds) zero x h e before = rw e refl
in_directions-some f (d ∷ ds) (suc i) x h e before =
    let first : f d ≡ None = before 0 (omega arith) in
    let rest = in_directions-some f ds i x (omega arith) e (λ j k. before (suc j) (omega arith)) in
    rw (first, rest) refl

-- ---- the first of the base cells

record FirstFrom (f : ℕ → Direction → Option TableError) (b n : ℕ) (x : TableError) : Type 0 where
  base : ℕ
  low : b ≤ base
  high : base < b + n
  hexagon : is_hexagon_base base ≡ true
  here : in_directions (f base) directions ≡ Some x
  before : (a : ℕ) → b ≤ a → a < base → is_hexagon_base a ≡ true → in_directions (f a) directions ≡ None

from_base-first : (f : ℕ → Direction → Option TableError) (b n : ℕ) (x : TableError) → from_base f b n ≡ Some x
    → FirstFrom f b n x
unfolding from_base
from_base-first f b zero x e = cc e
from_base-first f b (suc n) x e =
    by (is_hexagon_base b) refl (in_directions (f b) directions) refl e (from_base-first f (b + 1) n x)
  where
    Rest : Type 0
    Rest = from_base f (b + 1) n ≡ Some x → FirstFrom f (b + 1) n x

    later : FirstFrom f (b + 1) n x → (is_hexagon_base b ≡ true → in_directions (f b) directions ≡ None)
        → FirstFrom f b (suc n) x
    later i none =
        let low : b + 1 ≤ i.base = i.low in
        let high : i.base < b + 1 + n = i.high in
        record {
          base = i.base;
          low = omega arith;
          high = omega arith;
          hexagon = i.hexagon;
          here = i.here;
          before = λ a p q h. none_at (nat_cases b a p) q h;
        }
      where
        none_at : {a : ℕ} → (b ≡ a) ⊎ (b + 1 ≤ a) → a < i.base → is_hexagon_base a ≡ true
            → in_directions (f a) directions ≡ None
        none_at (inl same) q h = subst (λ a. in_directions (f a) directions ≡ None) same (none (rw same h))
        none_at {a} (inr more) q h = i.before a more q h

    by : (h : Bool) → is_hexagon_base b ≡ h → (o : Option TableError) → in_directions (f b) directions ≡ o
        → option_or (if h then o else None) (from_base f (b + 1) n) ≡ Some x → Rest → FirstFrom f b (suc n) x
    by true h (Some y) is e rest = record {
      base = b;
      low = omega arith;
      high = omega arith;
      hexagon = h;
      here = is ∙ e;
      before = λ a p q k. absurd (omega arith);
    }
    by true h None is e rest = later (rest e) (λ k. is)
    by false h o is e rest = later (rest e) (λ k. cc (k, h))

from_base-some : (f : ℕ → Direction → Option TableError) (b n base : ℕ) (x : TableError) → b ≤ base → base < b + n
    → is_hexagon_base base ≡ true
    → in_directions (f base) directions ≡ Some x
    → ((a : ℕ) → b ≤ a → a < base → is_hexagon_base a ≡ true → in_directions (f a) directions ≡ None)
    → from_base f b n ≡ Some x
unfolding from_base
from_base-some f b zero base x low high hexagon here before = absurd (omega arith)
from_base-some f b (suc n) base x low high hexagon here before =
    by (nat_cases b base low) (λ more.
    from_base-some f (b + 1) n base x more (omega arith) hexagon here (λ a p q h. before a (omega arith) q h))
  where
    none_here : b + 1 ≤ base → (if is_hexagon_base b then in_directions (f b) directions else None) ≡ None
    none_here more =
        if_none (is_hexagon_base b) (in_directions (f b) directions) (λ h. before b (omega arith) (omega arith) h)

    by : (b ≡ base) ⊎ (b + 1 ≤ base) → (b + 1 ≤ base → from_base f (b + 1) n ≡ Some x)
        → option_or (if is_hexagon_base b then in_directions (f b) directions else None) (from_base f (b + 1) n)
        ≡ Some x
    by (inl same) rest = rw (same, hexagon, here) refl
    by (inr more) rest = rw (none_here more) (rest more)

-- ---- the first place

record FirstAt (f : ℕ → Direction → Option TableError) (x : TableError) (b : ℕ) (d : Direction) : Type 0 where
  hexagon : IsHexagonBase b
  there : f b d ≡ Some x
  earlier : (a : ℕ) (e : Direction) → IsHexagonBase a → IsEarlier a e b d → f a e ≡ None

found_first : (f : ℕ → Direction → Option TableError) (x : TableError) → at_links f ≡ Some x
    → (b : ℕ) × (d : Direction) × FirstAt f x b d
found_first f x e = (
  base.base,
  get_or directions direction.index K,
  record { hexagon = hexagon_of base.base base.hexagon; there = direction.there; earlier = earlier },
)
  where
    base : FirstFrom f 0 122 x
    base = from_base-first f 0 122 x e

    direction : FirstIn (f base.base) directions x
    direction = in_directions-first (f base.base) directions x base.here

    none_at : (e : Direction) → digit_of e < digit_of (get_or directions direction.index K) → f base.base e ≡ None
    none_at e less =
        let low = digit_of-gt e in
        let below : direction.index < 6 = direction.below in
        let digit = digit_at direction.index below in
        subst (λ e. f base.base e ≡ None) (direction-at e) (direction.before (digit_of e - 1) (omega arith))

    earlier : (a : ℕ) (e : Direction) → IsHexagonBase a → IsEarlier a e base.base (get_or directions direction.index K)
        → f a e ≡ None
    earlier a e h (inl less) = in_each (f a) e (base.before a (omega arith) less (is_hexagon_of a h))
    earlier a e h (inr (same, less)) = subst (λ a. f a e ≡ None) (sym same) (none_at e less)

first_found : (f : ℕ → Direction → Option TableError) (x : TableError) (b : ℕ) (d : Direction) → FirstAt f x b d
    → at_links f ≡ Some x
first_found f x b d p = from_base-some f 0 122 b x (omega arith) small (is_hexagon_of b p.hexagon) here before
  where
    small : b < 122
    small = p.hexagon.0

    before_in : (j : ℕ) → j < digit_of d - 1 → f b (get_or directions j K) ≡ None
    before_in j h =
        let high = digit_of-lt d in
        let digit = digit_at j (omega arith) in
        p.earlier b (get_or directions j K) p.hexagon (inr (refl, omega arith))

    here : in_directions (f b) directions ≡ Some x
    here =
        let low = digit_of-gt d in
        let high = digit_of-lt d in
        in_directions-some (f b) directions (digit_of d - 1) x (omega arith)
        (subst (λ d. f b d ≡ Some x) (sym (direction-at d)) p.there) before_in

    before : (a : ℕ) → 0 ≤ a → a < b → is_hexagon_base a ≡ true → in_directions (f a) directions ≡ None
    before a q less h = in_directions-none (f a) directions (λ e. p.earlier a e (hexagon_of a h) (inl less))

-- ---- records

record FirstAfter (before rest : List Record) (e : TableError) : Type 0 where
  index : ℕ
  found : Record
  there : slice_get rest index ≡ Some found
  faulty : fault_of (before ++ take index rest) found ≡ Some e
  earlier : (i : ℕ) (r : Record) → i < index → slice_get rest i ≡ Some r → fault_of (before ++ take i rest) r ≡ None

-- one more record stands before
shifted : (before rest : List Record) (r s : Record) (i : ℕ) (o : Option TableError)
    → fault_of ((before ++ r ∷ []) ++ take i rest) s ≡ o → fault_of (before ++ take (suc i) (r ∷ rest)) s ≡ o
shifted before rest r s i o e = subst (λ front. fault_of front s ≡ o) (append_assoc before (r ∷ []) (take i rest)) e

shifted_back : (before rest : List Record) (r s : Record) (i : ℕ) (o : Option TableError)
    → fault_of (before ++ take (suc i) (r ∷ rest)) s ≡ o → fault_of ((before ++ r ∷ []) ++ take i rest) s ≡ o
shifted_back before rest r s i o e =
    subst (λ front. fault_of front s ≡ o) (sym (append_assoc before (r ∷ []) (take i rest))) e

at_front : (before : List Record) (r s : Record) (o : Option TableError) → Some r ≡ Some s → fault_of before r ≡ o
    → fault_of (before ++ []) s ≡ o
at_front before r s o same e =
    let is : r ≡ s = cc same in subst (λ front. fault_of front s ≡ o) (sym (append-nil before)) (rw is at e)

first_fault-first : (before rest : List Record) (e : TableError) → first_fault before rest ≡ Some e
    → FirstAfter before rest e
unfolding first_fault
first_fault-first before [] e is = cc is
first_fault-first before (r ∷ rest) e is = by (fault_of before r) refl is (first_fault-first (before ++ r ∷ []) rest e)
  where
    none_before : (i : FirstAfter (before ++ r ∷ []) rest e) → fault_of before r ≡ None → (j : ℕ) (s : Record)
        → j < suc i.index → slice_get (r ∷ rest) j ≡ Some s → fault_of (before ++ take j (r ∷ rest)) s ≡ None
    none_before i none zero s h there = at_front before r s None there none
    none_before i none (suc j) s h there = shifted before rest r s j None (i.earlier j s (omega arith) there)

    by : (o : Option TableError) → fault_of before r ≡ o → option_or o (first_fault (before ++ r ∷ []) rest) ≡ Some e
        → (first_fault (before ++ r ∷ []) rest ≡ Some e → FirstAfter (before ++ r ∷ []) rest e)
        → FirstAfter before (r ∷ rest) e
    by (Some y) here is more = record {
      index = 0;
      found = r;
      there = refl;
      faulty = at_front before r r (Some e) refl (here ∙ is);
      earlier = λ i s h there. absurd (omega arith);
    }
    by None here is more =
        let i = more is in
        record {
          index = suc i.index;
          found = i.found;
          there = i.there;
          faulty = shifted before rest r i.found i.index (Some e) i.faulty;
          earlier = none_before i here;
        }

first_fault-some : (before rest : List Record) (e : TableError) (i : ℕ) (s : Record) → slice_get rest i ≡ Some s
    → fault_of (before ++ take i rest) s ≡ Some e
    → ((j : ℕ) (r : Record) → j < i → slice_get rest j ≡ Some r → fault_of (before ++ take j rest) r ≡ None)
    → first_fault before rest ≡ Some e
unfolding first_fault
first_fault-some before [] e i s there faulty earlier = cc there
first_fault-some before (r ∷ rest) e zero s there faulty earlier =
    let same : r ≡ s = cc there in
    let here : fault_of before r ≡ Some e =
    subst (λ t. fault_of before t ≡ Some e) (sym same)
    (subst (λ front. fault_of front s ≡ Some e) (append-nil before) faulty) in
    rw here refl
first_fault-some before (r ∷ rest) e (suc i) s there faulty earlier =
    let here : fault_of before r ≡ None =
    subst (λ front. fault_of front r ≡ None) (append-nil before) (earlier 0 r (omega arith) refl) in
    let more =
    first_fault-some (before ++ r ∷ []) rest e i s there (shifted_back before rest r s i (Some e) faulty)
    (λ j t h k. shifted_back before rest r t j None (earlier (suc j) t (omega arith) k)) in
    rw here more

first_fault-good : (before rest : List Record) → first_fault before rest ≡ None → (i : ℕ) (s : Record)
    → slice_get rest i ≡ Some s → fault_of (before ++ take i rest) s ≡ None
unfolding first_fault
first_fault-good before [] e i s there = cc there
first_fault-good before (r ∷ rest) e zero s there =
    at_front before r s None there (both (fault_of before r) (first_fault (before ++ r ∷ []) rest) e).0
first_fault-good before (r ∷ rest) e (suc i) s there =
    shifted before rest r s i None (first_fault-good (before ++ r ∷ []) rest
    (both (fault_of before r) (first_fault (before ++ r ∷ []) rest) e).1 i s there)

good_first_fault : (before rest : List Record)
    → ((i : ℕ) (s : Record) → slice_get rest i ≡ Some s → fault_of (before ++ take i rest) s ≡ None)
    → first_fault before rest ≡ None
unfolding first_fault
good_first_fault before [] h = refl
good_first_fault before (r ∷ rest) h =
    let here : fault_of before r ≡ None = subst (λ front. fault_of front r ≡ None) (append-nil before) (h 0 r refl) in
    let more =
    good_first_fault (before ++ r ∷ []) rest (λ i s k. shifted_back before rest r s i None (h (suc i) s k)) in
    rw here more

records-first : (records : List Record) (e : TableError) → fault_of_records records ≡ Some e
    → ((records ≡ []) × (e ≡ fault.Form 1)) ⊎ IsFirstFaulty records e
records-first [] e is = inl (refl, cc is)
records-first (front ∷ body) e is =
    let i = first_fault-first [] (front ∷ body) e is in
    inr (record { index = i.index; faulty_record = i.found; there = i.there; faulty = i.faulty; earlier = i.earlier })

first-records : (records : List Record) (e : TableError) → IsFirstFaulty records e → fault_of_records records ≡ Some e
first-records [] e p = absurd (cc (p.there))
first-records (front ∷ body) e p =
    first_fault-some [] (front ∷ body) e p.index p.faulty_record p.there p.faulty p.earlier

records-good : (records : List Record) → fault_of_records records ≡ None → AreGood records
records-good [] e = cc e
records-good (front ∷ body) e = record { some = λ none. cc none; each = first_fault-good [] (front ∷ body) e }

good-records : (records : List Record) → AreGood records → fault_of_records records ≡ None
good-records [] p = absurd (p.some refl)
good-records (front ∷ body) p = good_first_fault [] (front ∷ body) p.each

-- ---- checks

error_unless-some : (t : Bool) (e x : TableError) → error_unless t e ≡ Some x → (t ≡ false) × (e ≡ x)
error_unless-some true e x h = cc h
error_unless-some false e x h = (refl, cc h)

error_unless-is : (t : Bool) (e : TableError) → t ≡ false → error_unless t e ≡ Some e
error_unless-is t e h = rw h refl

is_false : (t : Bool) → (t ≡ true → ⊥) → t ≡ false
is_false true h = absurd (h refl)
is_false false h = refl

both_ways : (t : Bool) → t ≡ true → t ≡ false → ⊥
both_ways t p q = cc (p, q)

-- a check as a test, and the fact that it tests
record Tests (test : ℕ → Direction → Bool) (Check : ℕ → Direction → Type 0) : Type 0 where
  is : (b : ℕ) (d : Direction) → test b d ≡ true → Check b d
  of : (b : ℕ) (d : Direction) → Check b d → test b d ≡ true

fails_first : {test : ℕ → Direction → Bool} {Check : ℕ → Direction → Type 0} → Tests test Check
    → (found : ℕ → Direction → TableError) (x : TableError) (b : ℕ) (d : Direction)
    → FirstAt (λ b d. error_unless (test b d) (found b d)) x b d → FailsFirst Check b d × (found b d ≡ x)
fails_first {test} {Check} t found x b d p =
    let here = error_unless-some (test b d) (found b d) x p.there in (
      record {
        hexagon = p.hexagon;
        fails = λ h. both_ways (test b d) (t.of b d h) here.0;
        earlier = λ a e h k. t.is a e (no_fault (test a e) (found a e) (p.earlier a e h k));
      },
      here.1,
    )

first_fails : {test : ℕ → Direction → Bool} {Check : ℕ → Direction → Type 0} → Tests test Check
    → (found : ℕ → Direction → TableError) (b : ℕ) (d : Direction)
    → FailsFirst Check b d → at_links (λ b d. error_unless (test b d) (found b d)) ≡ Some (found b d)
first_fails {test} {Check} t found b d p =
    first_found (λ b d. error_unless (test b d) (found b d)) (found b d) b d (record {
      hexagon = p.hexagon;
      there = error_unless-is (test b d) (found b d) (is_false (test b d) (λ k. p.fails (t.is b d k)));
      earlier = λ a e h k. error_unless-none (test a e) (found a e) (t.of a e (p.earlier a e h k));
    })

holds : {test : ℕ → Direction → Bool} {Check : ℕ → Direction → Type 0} → Tests test Check
    → (found : ℕ → Direction → TableError) → at_links (λ b d. error_unless (test b d) (found b d)) ≡ None
    → HoldsEverywhere Check
holds {test} {Check} t found e = λ b d h.
    t.is b d (no_fault (test b d) (found b d)
    (no_fault_at (λ b d. error_unless (test b d) (found b d)) b d e (is_hexagon_of b h)))

none_fails : {test : ℕ → Direction → Bool} {Check : ℕ → Direction → Type 0} → Tests test Check
    → (found : ℕ → Direction → TableError) → HoldsEverywhere Check
    → at_links (λ b d. error_unless (test b d) (found b d)) ≡ None
none_fails {test} {Check} t found h =
    from_base-none (λ b d. error_unless (test b d) (found b d)) 0 122
    (λ b d k. error_unless-none (test b d) (found b d) (t.of b d (h b d k)))

apart_tests : (link : Links) → Tests (leads_apart link) (LeadsApart link)
apart_tests link = record { is = apart-is link; of = apart-of link }

reversed_tests : (link : Links) → Tests (reverses link) (IsReversed link)
reversed_tests link = record { is = reversed-is link; of = reversed-of link }

closed_tests : (link : Links) → Tests (closes link) (IsClosed link)
closed_tests link = record { is = closed-is link; of = closed-of link }

abbrev neighbors_at : ℕ → Direction → TableError
neighbors_at b d = fault.Neighbours b

-- ---- the parts of the judgement, in turn

-- the error is that of the first part, which has its kind, or the first part finds none
peel : (a b : Option TableError) (e : TableError) (k : ℕ) → IsKind k a → option_or a b ≡ Some e
    → ((kind e ≡ k) × (a ≡ Some e)) ⊎ ((a ≡ None) × (b ≡ Some e))
peel None b e k i is = inr (refl, is)
peel (Some x) b e k i is = inl (is_kind k (Some x) e i is, is)

or_some : (a b : Option TableError) (e : TableError) → a ≡ Some e → option_or a b ≡ Some e
or_some a b e is = rw is refl

or_none : (a b : Option TableError) (e : TableError) → a ≡ None → b ≡ Some e → option_or a b ≡ Some e
or_none a b e none is = rw none is

empty_file : (records : List Record) (row : ℕ) → records ≡ [] → row ≡ 1 → table_fault records ≡ Some (fault.Form row)
empty_file records row none one = rw (none, one) refl

no_link : (o : Option (ℕ × ℕ)) → is_some o ≡ false → o ≡ None
no_link None e = refl
no_link (Some x) e = cc e

missing_is : (x : TableError) → kind x ≡ 2 → x ≡ fault.Missing
missing_is fault.Read k = absurd (omega arith)
missing_is fault.Memory k = absurd (omega arith)
missing_is (fault.Form row) k = absurd (omega arith)
missing_is (fault.Range row) k = absurd (omega arith)
missing_is (fault.Repeated row) k = absurd (omega arith)
missing_is fault.Missing k = refl
missing_is (fault.Neighbours b) k = absurd (omega arith)
missing_is (fault.Reversal b d) k = absurd (omega arith)
missing_is (fault.Corner b d) k = absurd (omega arith)

missing-first : (records : List Record) → IsMissing records → at_links (missing_of records) ≡ Some fault.Missing
missing-first records m = by (at_links (missing_of records)) refl (missing-kind records)
  where
    named : is_some (first_link (format_of records) m.base (digit_of m.direction) (body_of records)) ≡ true → ⊥
    named h =
        let none : is_some (first_link (format_of records) m.base (digit_of m.direction) (body_of records)) ≡ false =
        rw m.none refl in
        both_ways (is_some (first_link (format_of records) m.base (digit_of m.direction) (body_of records))) h none

    by : (o : Option TableError) → at_links (missing_of records) ≡ o → IsKind 2 o → o ≡ Some fault.Missing
    by None is k =
        absurd
        (named (no_fault (is_some (first_link (format_of records) m.base (digit_of m.direction) (body_of records)))
        fault.Missing
        (no_fault_at (missing_of records) m.base m.direction is (is_hexagon_of m.base m.hexagon))))
    by (Some x) is k = ap Some (missing_is x k)

first-missing : (records : List Record) (e : TableError) → at_links (missing_of records) ≡ Some e
    → IsMissing records × (fault.Missing ≡ e)
first-missing records e is =
    let (b, d, p) = found_first (missing_of records) e is in
    let here =
    error_unless-some (is_some (first_link (format_of records) b (digit_of d) (body_of records))) fault.Missing e
    p.there in (
      record {
        base = b;
        direction = d;
        hexagon = p.hexagon;
        none = no_link (first_link (format_of records) b (digit_of d) (body_of records)) here.0;
      },
      here.1,
    )

-- an error of a record
record_error : (records : List Record) (e : TableError) → kind e ≡ 1 → fault_of_records records ≡ Some e
    → IsFirstFault records e
record_error records fault.Read k is = absurd (omega arith)
record_error records fault.Memory k is = absurd (omega arith)
record_error records (fault.Form row) k is =
    elim (records-first records (fault.Form row) is) [ inl none ↦ inl (none.0, cc (none.1)) | inr p ↦ inr p ]
record_error records (fault.Range row) k is =
    elim (records-first records (fault.Range row) is) [ inl none ↦ cc (none.1) | inr p ↦ p ]
record_error records (fault.Repeated row) k is =
    elim (records-first records (fault.Repeated row) is) [ inl none ↦ cc (none.1) | inr p ↦ p ]
record_error records fault.Missing k is = absurd (omega arith)
record_error records (fault.Neighbours b) k is = absurd (omega arith)
record_error records (fault.Reversal b d) k is = absurd (omega arith)
record_error records (fault.Corner b d) k is = absurd (omega arith)

-- an error of the checks
check_error : (records : List Record) (e : TableError) → IsOfForm records → fault_of_links (links_of records) ≡ Some e
    → IsFirstFault records e
check_error records e form is =
    elim
    (peel (at_links (fault_at check.Neighbors link))
    (option_or (at_links (fault_at check.Reversal link)) (at_links (fault_at check.Corner link))) e 3
    (checks-kind check.Neighbors link) is) [
      | inl here ↦ neighbors here.1
      | inr rest ↦ (let apart = holds (apart_tests link) neighbors_at rest.0 in
          elim
          (peel (at_links (fault_at check.Reversal link)) (at_links (fault_at check.Corner link)) e 4
          (checks-kind check.Reversal link) rest.1) [
            | inl here ↦ reversal apart here.1
            | inr last ↦ corner apart (holds (reversed_tests link) fault.Reversal last.0) last.1
          ])
    ]
  where
    link : Links
    link = links_of records

    neighbors : at_links (fault_at check.Neighbors link) ≡ Some e → IsFirstFault records e
    neighbors is =
        let (b, d, p) = found_first (fault_at check.Neighbors link) e is in
        let two = fails_first (apart_tests link) neighbors_at e b d p in
        subst (λ e. IsFirstFault records e) two.1 (form, (d, two.0))

    reversal : HoldsEverywhere (LeadsApart link) → at_links (fault_at check.Reversal link) ≡ Some e
        → IsFirstFault records e
    reversal apart is =
        let (b, d, p) = found_first (fault_at check.Reversal link) e is in
        let two = fails_first (reversed_tests link) fault.Reversal e b d p in
        subst (λ e. IsFirstFault records e) two.1 (form, apart, two.0)

    corner : HoldsEverywhere (LeadsApart link) → HoldsEverywhere (IsReversed link)
        → at_links (fault_at check.Corner link) ≡ Some e → IsFirstFault records e
    corner apart reversed is =
        let (b, d, p) = found_first (fault_at check.Corner link) e is in
        let two = fails_first (closed_tests link) fault.Corner e b d p in
        subst (λ e. IsFirstFault records e) two.1 (form, apart, reversed, two.0)

error_is_first : (records : List Record) (e : TableError) → table_fault records ≡ Some e → IsFirstFault records e
error_is_first records e is =
    elim
    (peel (fault_of_records records) (option_or (at_links (missing_of records)) (fault_of_links (links_of records)))
    e 1 (records-kind records) is) [
      | inl here ↦ record_error records e here.0 here.1
      | inr rest ↦ elim
          (peel (at_links (missing_of records)) (fault_of_links (links_of records)) e 2 (missing-kind records) rest.1) [
            | inl here ↦
                (let two = first-missing records e here.1 in
                subst (λ e. IsFirstFault records e) two.1 (records-good records rest.0, two.0))
            | inr last ↦ check_error records e (form_of records rest.0 last.0) last.1
          ]
    ]

after_records : (records : List Record) (e : TableError) → IsOfForm records → fault_of_links (links_of records) ≡ Some e
    → table_fault records ≡ Some e
after_records records e form is =
    or_none (fault_of_records records) _ e (no_fault_of records form)
    (or_none (at_links (missing_of records)) (fault_of_links (links_of records)) e (none_missing records form) is)

first_is_error : (records : List Record) (e : TableError) → IsFirstFault records e → table_fault records ≡ Some e
first_is_error records fault.Read p = absurd p
first_is_error records fault.Memory p = absurd p
first_is_error records (fault.Form row) (inl none) = empty_file records row none.0 none.1
first_is_error records (fault.Form row) (inr p) =
    or_some (fault_of_records records) _ (fault.Form row) (first-records records (fault.Form row) p)
first_is_error records (fault.Range row) p =
    or_some (fault_of_records records) _ (fault.Range row) (first-records records (fault.Range row) p)
first_is_error records (fault.Repeated row) p =
    or_some (fault_of_records records) _ (fault.Repeated row) (first-records records (fault.Repeated row) p)
first_is_error records fault.Missing p =
    or_none (fault_of_records records) _ fault.Missing (good-records records p.0)
    (or_some (at_links (missing_of records)) (fault_of_links (links_of records)) fault.Missing
    (missing-first records p.1))
first_is_error records (fault.Neighbours b) p =
    after_records records (fault.Neighbours b) p.0
    (or_some (at_links (fault_at check.Neighbors (links_of records))) _ (fault.Neighbours b)
    (first_fails (apart_tests (links_of records)) neighbors_at b p.1.0 p.1.1))
first_is_error records (fault.Reversal b d) p =
    after_records records (fault.Reversal b d) p.0
    (or_none (at_links (fault_at check.Neighbors (links_of records))) _ (fault.Reversal b d)
    (none_fails (apart_tests (links_of records)) neighbors_at p.1)
    (or_some (at_links (fault_at check.Reversal (links_of records))) _ (fault.Reversal b d)
    (first_fails (reversed_tests (links_of records)) fault.Reversal b d p.2)))
first_is_error records (fault.Corner b d) p =
    after_records records (fault.Corner b d) p.0
    (or_none (at_links (fault_at check.Neighbors (links_of records))) _ (fault.Corner b d)
    (none_fails (apart_tests (links_of records)) neighbors_at p.1)
    (or_none (at_links (fault_at check.Reversal (links_of records))) _ (fault.Corner b d)
    (none_fails (reversed_tests (links_of records)) fault.Reversal p.2)
    (first_fails (closed_tests (links_of records)) fault.Corner b d p.3)))

pub faults_are_first : FaultsAreFirst
faults_are_first records e = (error_is_first records e, first_is_error records e)
