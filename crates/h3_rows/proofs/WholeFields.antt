-- Whole fields: without quotes, or between two quotes that count; and rows of them.
use Rattle.std.proofs.Common.{◌≡◌, ℕ, zero, suc, ◌+◌, ◌<◌, ◌==◌, Bool, true, false, not, ◌&&◌, ◌||◌, List, [], ◌∷◌, ◌++◌, length, take, drop, get_or, replicate, sym, ap, ◌∙◌, refl, subst, append_assoc, append-nil, arith}
use Rattle.std.proofs.lemmas.List.{take_more}
use Rattle.std.proofs.lemmas.List.Folds.{list_all-append}
use Rattle.std.proofs.lemmas.Bool.Decides.{nat_tests}
use Rattle.std.specs.List.{count_by, list_all}
use Rattle.memchr.specs.Find.{is_byte, is_byte2}
use Rattle.h3_index.specs.Text.{is_blank}
use Rattle.h3_lines.specs.Pieces.{Uncut, inside_after, is_uncut, turned}
use Rattle.h3_lines.specs.PiecesLaws.{and_false, both, inside_after-append, uncut_byte, uncut_none, uncut_then}
use Rattle.h3_rows.specs.Plain.{AreWhole, IsWhole, IsWholeRow, is_byte4, is_one_line, quote_or_feed}
use Rattle.h3_rows.specs.Row.{opens_well, quotes_are_sound, row_body}
use Rattle.h3_rows.proofs.Alike.{alike_first, alike_last}
use Rattle.h3_rows.proofs.Feeds.{quiet, quiet_alike, quiet_sound, two_hold}
use Rattle.h3_rows.proofs.Finding.{same_mark}

pub no_quote : (quotes : Bool) (b : ℕ) → (b == quote_or_feed quotes) ≡ false → (quotes && (b == 34)) ≡ false
no_quote true b h = h
no_quote false b h = refl

none_of_two : (x y more : Bool) → (not (x || y) && more) ≡ true → (x ≡ false) × (y ≡ false) × (more ≡ true)
none_of_two true y more h = absurd (cc)
none_of_two false true more h = absurd (cc)
none_of_two false false more h = (refl, refl, h)

none_of_four : (w x y z more : Bool) → (not (w || (x || y || z)) && more) ≡ true
    → (w ≡ false) × (x ≡ false) × (y ≡ false) × (z ≡ false) × (more ≡ true)
none_of_four true x y z more h = absurd (cc)
none_of_four false true y z more h = absurd (cc)
none_of_four false false true z more h = absurd (cc)
none_of_four false false false true more h = absurd (cc)
none_of_four false false false false more h = (refl, refl, refl, refl, h)

-- bytes without a mark, line ends and quotes that count
abbrev pub are_calm : ℕ → Bool → List ℕ → Bool
are_calm mark quotes bytes = list_all (λ b. not (is_byte4 mark 10 13 (quote_or_feed quotes) b)) bytes

calm_byte : (mark : ℕ) (quotes : Bool) (b : ℕ) (bs : List ℕ) → are_calm mark quotes (b ∷ bs) ≡ true
    → (b == mark ≡ false) × (b == 10 ≡ false) × (b == 13 ≡ false) × (b == quote_or_feed quotes ≡ false)
    × (are_calm mark quotes bs ≡ true)
calm_byte mark quotes b bs h =
    none_of_four (b == mark) (b == 10) (b == 13) (b == quote_or_feed quotes) (are_calm mark quotes bs) h

pub calm_uncut : (mark : ℕ) (quotes : Bool) (bytes : List ℕ) → are_calm mark quotes bytes ≡ true
    → Uncut mark quotes false bytes false
calm_uncut mark quotes [] h = uncut_none mark quotes false
calm_uncut mark quotes (b ∷ bs) h =
    let (m, f, r, q, more) = calm_byte mark quotes b bs h in
    uncut_byte mark quotes false b bs m (no_quote quotes b q) (calm_uncut mark quotes bs more)

pub calm_line : (mark : ℕ) (quotes : Bool) (bytes : List ℕ) → are_calm mark quotes bytes ≡ true
    → is_one_line bytes ≡ true
calm_line mark quotes [] h = refl
calm_line mark quotes (b ∷ bs) h =
    let (m, f, r, q, more) = calm_byte mark quotes b bs h in
    rw (f, r) (calm_line mark quotes bs more)

pub calm_quiet : (mark : ℕ) (bytes : List ℕ) → are_calm mark true bytes ≡ true → quiet bytes ≡ true
calm_quiet mark [] h = refl
calm_quiet mark (b ∷ bs) h =
    let (m, f, r, q, more) = calm_byte mark true b bs h in
    rw q (calm_quiet mark bs more)

-- ---- fields

module _ (separator : ℕ) (quotes : Bool) (quote : (34 == separator) ≡ false) where
  other_mark : (separator == 34) ≡ false
  other_mark = grind (arith, nat_tests)

  -- after a separator outside quotes a field begins
  after_mark : (start after : Bool) (more : List ℕ)
      → opens_well separator start after false (separator ∷ more) ≡ opens_well separator true false false more
  after_mark start after more = rw (other_mark, same_mark separator) refl

  -- outside quotes bytes without quotes change nothing but whether blanks alone are before a place
  calm_goes_on : (start after : Bool) (field more : List ℕ) → are_calm separator true field ≡ true
      → opens_well separator start after false (field ++ separator ∷ more) ≡ opens_well separator true false false more
  calm_goes_on start after [] more h = after_mark start after more
  calm_goes_on start after (b ∷ bs) more h =
      let (m, f, r, q, rest) = calm_byte separator true b bs h in
      rw q (calm_goes_on (true && (b == separator || (start && is_blank b))) false bs more rest)

  calm_opens : (field : List ℕ) → quiet field ≡ true → opens_well separator true false false field ≡ true
  calm_opens field h =
      let (o, a) = two_hold (opens_well separator true false false field) _ (quiet_sound separator field h) in o

  -- a field without quotes
  pub calm_whole : (field : List ℕ) → are_calm separator quotes field ≡ true → IsWhole separator quotes field
  calm_whole field h = record {
    uncut = calm_uncut separator quotes field h;
    on_line = calm_line separator quotes field h;
    goes_on =
        λ counts more. calm_goes_on true false field more (subst (λ q. are_calm separator q field ≡ true) counts h);
    opens =
        λ counts. calm_opens field
        (calm_quiet separator field (subst (λ q. are_calm separator q field ≡ true) counts h));
    alike =
        λ counts. quiet_alike separator field
        (calm_quiet separator field (subst (λ q. are_calm separator q field ≡ true) counts h));
  }

  -- ---- between quotes

  inner_opens : (start after : Bool) (inner more : List ℕ) → are_calm 34 true inner ≡ true
      → opens_well separator start after true (inner ++ 34 ∷ more) ≡ opens_well separator false true false more
  inner_opens start after [] more h = refl
  inner_opens start after (b ∷ bs) more h =
      let (m, f, r, q, rest) = calm_byte 34 true b bs h in
      rw q (inner_opens false false bs more rest)

  inner_uncut : (inner : List ℕ) → are_calm 34 true inner ≡ true → Uncut separator true true inner true
  inner_uncut [] h = uncut_none separator true true
  inner_uncut (b ∷ bs) h =
      let (m, f, r, q, rest) = calm_byte 34 true b bs h in
      let u = inner_uncut bs rest in
      record { uncut = rw (q, and_false (b == separator)) u.uncut; inside_is = rw q u.inside_is }

  closing : Uncut separator true true (34 ∷ []) false
  closing = record { uncut = rw (and_false (34 == separator)) refl; inside_is = refl }

  opening : Uncut separator true false (34 ∷ []) true
  opening = record { uncut = rw quote refl; inside_is = refl }

  abbrev between : List ℕ → List ℕ
  between inner = 34 ∷ (inner ++ 34 ∷ [])

  between_opens : (inner more : List ℕ) → are_calm 34 true inner ≡ true
      → opens_well separator true false false (between inner ++ more) ≡ opens_well separator false true false more
  between_opens inner more h =
      ap (opens_well separator false true true) (append_assoc inner (34 ∷ []) more)
      ∙ inner_opens false true inner more h

  -- a field between two quotes that count
  pub between_whole : (inner : List ℕ) → quotes ≡ true → are_calm 34 true inner ≡ true
      → IsWhole separator quotes (34 ∷ (inner ++ 34 ∷ []))
  between_whole inner counts h = record {
    uncut = subst (λ q. Uncut separator q false (between inner) false) (sym counts)
        (uncut_then separator true (34 ∷ []) (inner ++ 34 ∷ []) opening
        (uncut_then separator true inner (34 ∷ []) (inner_uncut inner h) closing));
    on_line = list_all-append (λ b. not (is_byte2 10 13 b)) inner (34 ∷ []) ∙ rw (calm_line 34 true inner h) refl;
    goes_on = λ counts more. between_opens inner (separator ∷ more) h ∙ after_mark false true more;
    opens =
        λ counts. ap (opens_well separator true false false) (sym (append-nil (between inner)))
        ∙ between_opens inner [] h;
    alike = λ counts. refl;
  }

  -- a quote is at the beginning of bytes, and the next one after some calm bytes
  pub quoted_whole : (bytes : List ℕ) (inner : ℕ) → quotes ≡ true → get_or bytes 0 0 ≡ 34 → inner + 2 < length bytes
      → are_calm 34 quotes (take inner (drop 1 bytes)) ≡ true → get_or bytes (inner + 1) 0 ≡ 34
      → IsWhole separator quotes (take (inner + 2) bytes)
  quoted_whole [] inner counts first within calm last = absurd (omega (arith, within))
  quoted_whole (b ∷ bs) inner counts first within calm last =
      let count : inner + 2 ≡ suc (inner + 1) = omega arith in
      let place : inner + 1 ≡ suc inner = omega arith in
      let more : take (inner + 1) bs ≡ take inner bs ++ get_or bs inner 0 ∷ [] =
      take_more bs inner 0 (omega (arith, within)) in
      let closes : get_or bs inner 0 ≡ 34 = ap (λ n. get_or (b ∷ bs) n 0) (sym place) ∙ last in
      let field : take (inner + 2) (b ∷ bs) ≡ between (take inner bs) =
      ap (λ n. take n (b ∷ bs)) count ∙ rw (first, more, closes) refl in
      subst (IsWhole separator quotes) (sym field)
      (between_whole (take inner bs) counts (subst (λ q. are_calm 34 q (take inner bs) ≡ true) counts calm))

  -- ---- rows

  pub whole_row : (field : List ℕ) → IsWhole separator quotes field → IsWholeRow separator quotes field
  whole_row field w = record {
    on_line = w.on_line;
    outside = w.uncut.inside_is;
    sound =
        λ counts. rw (
          w.opens counts,
          alike_last separator field false (subst (λ q. Uncut separator q false field false) counts w.uncut),
          w.alike counts,
        ) refl;
  }

  -- bytes without line ends, and without quotes if quotes count
  pub calm_row : (bytes : List ℕ) → are_calm 10 quotes bytes ≡ true → IsWholeRow separator quotes bytes
  calm_row bytes h = record {
    on_line = calm_line 10 quotes bytes h;
    outside = (calm_uncut 10 quotes bytes h).inside_is;
    sound =
        λ counts. quiet_sound separator bytes (calm_quiet 10 bytes (subst (λ q. are_calm 10 q bytes ≡ true) counts h));
  }

  pub whole_none : AreWhole separator quotes []
  whole_none = record { on_line = refl; outside = refl; sound = λ counts more m. m }

  lines_append : (xs ys : List ℕ) → is_one_line xs ≡ true → is_one_line ys ≡ true → is_one_line (xs ++ ys) ≡ true
  lines_append xs ys p q = list_all-append (λ b. not (is_byte2 10 13 b)) xs ys ∙ rw (p, q) refl

  outside_append : (xs ys : List ℕ) → inside_after quotes false xs ≡ false → inside_after quotes false ys ≡ false
      → inside_after quotes false (xs ++ ys) ≡ false
  outside_append xs ys p q = inside_after-append separator quotes false xs ys ∙ ap (λ o. inside_after quotes o ys) p ∙ q

  pub whole_append : (xs ys : List ℕ) → AreWhole separator quotes xs → AreWhole separator quotes ys
      → AreWhole separator quotes (xs ++ ys)
  whole_append xs ys p q = record {
    on_line = lines_append xs ys p.on_line q.on_line;
    outside = outside_append xs ys p.outside q.outside;
    sound =
        λ counts more m. ap (quotes_are_sound separator) (append_assoc xs ys more)
        ∙ p.sound counts (ys ++ more) (q.sound counts more m);
  }

  -- a row after whole fields
  pub whole_then : (xs ys : List ℕ) → AreWhole separator quotes xs → IsWholeRow separator quotes ys
      → IsWholeRow separator quotes (xs ++ ys)
  whole_then xs ys p q = record {
    on_line = lines_append xs ys p.on_line q.on_line;
    outside = outside_append xs ys p.outside q.outside;
    sound = λ counts. p.sound counts ys (q.sound counts);
  }

  marked_sound : (field more : List ℕ) → quotes ≡ true → IsWhole separator quotes field
      → quotes_are_sound separator more ≡ true
      → quotes_are_sound separator ((field ++ separator ∷ []) ++ more) ≡ true
  marked_sound field more counts w m =
      let whole : (field ++ separator ∷ []) ++ more ≡ field ++ separator ∷ more =
      append_assoc field (separator ∷ []) more in
      let (opens, alike) = two_hold (opens_well separator true false false more) _ m in
      let begins = subst (λ q. Uncut separator q false field false) counts w.uncut in
      rw (
        whole,
        w.goes_on counts more,
        opens,
        alike_first separator (field ++ separator ∷ more) field more (record { begins = begins; split = refl }),
        w.alike counts,
        alike,
      ) refl

  -- a field and its separator
  pub whole_marked : (feed : (10 == separator) ≡ false) (carriage : (13 == separator) ≡ false) (field : List ℕ)
      → IsWhole separator quotes field → AreWhole separator quotes (field ++ separator ∷ [])
  whole_marked feed carriage field w =
      let f : (separator == 10) ≡ false = grind (arith, nat_tests) in
      let r : (separator == 13) ≡ false = grind (arith, nat_tests) in
      record {
        on_line = lines_append field (separator ∷ []) w.on_line (rw (f, r) refl);
        outside = outside_append field (separator ∷ []) w.uncut.inside_is (rw (other_mark, and_false quotes) refl);
        sound = λ counts more m. marked_sound field more counts w m;
      }

-- ---- what is known of a row of whole fields

line_byte : (b : ℕ) (bs : List ℕ) → is_one_line (b ∷ bs) ≡ true
    → (b == 10 ≡ false) × (b == 13 ≡ false) × (is_one_line bs ≡ true)
line_byte b bs h = none_of_two (b == 10) (b == 13) (is_one_line bs) h

-- it has no carriage returns at its end
pub row_bare : (bytes : List ℕ) → is_one_line bytes ≡ true → row_body bytes ≡ bytes
row_bare [] h = refl
row_bare (b ∷ bs) h =
    let (f, r, more) = line_byte b bs h in
    rw r (ap (λ l. b ∷ l) (row_bare bs more))

-- nor any others
returnless : (inside : Bool) (bytes : List ℕ) → is_one_line bytes ≡ true → is_uncut 13 true inside bytes ≡ true
returnless inside [] h = refl
returnless inside (b ∷ bs) h =
    let (f, r, more) = line_byte b bs h in
    rw r (returnless (turned true inside b) bs more)

feedless : (quotes inside : Bool) (bytes : List ℕ) → is_one_line bytes ≡ true → is_uncut 10 quotes inside bytes ≡ true
feedless quotes inside [] h = refl
feedless quotes inside (b ∷ bs) h =
    let (f, r, more) = line_byte b bs h in
    rw f (feedless quotes (turned quotes inside b) bs more)

returns_feeds : (n : ℕ) → count_by (λ b. b == 10) (replicate n 13) ≡ 0
returns_feeds zero = refl
returns_feeds (suc n) = returns_feeds n

no_feed : (b : ℕ) (bytes : List ℕ) → (b == 10) ≡ false → count_by (λ b. b == 10) bytes ≡ 0
    → count_by (λ b. b == 10) (b ∷ bytes) ≡ 0
no_feed b bytes other none = rw other none

-- it and carriage returns after it have no line feed
pub row_feeds : (bytes : List ℕ) (n : ℕ) → is_one_line bytes ≡ true
    → count_by (λ b. b == 10) (bytes ++ replicate n 13) ≡ 0
row_feeds [] n h = returns_feeds n
row_feeds (b ∷ bs) n h =
    let (f, r, more) = line_byte b bs h in
    no_feed b (bs ++ replicate n 13) f (row_feeds bs n more)

returns_uncut : (quotes : Bool) (n : ℕ) → Uncut 10 quotes false (replicate n 13) false
returns_uncut quotes zero = uncut_none 10 quotes false
returns_uncut quotes (suc n) = uncut_byte 10 quotes false 13 (replicate n 13) refl (and_false quotes)
    (returns_uncut quotes n)

pub row_uncut : (separator : ℕ) (quotes : Bool) (bytes : List ℕ) (n : ℕ) → IsWholeRow separator quotes bytes
    → Uncut 10 quotes false (bytes ++ replicate n 13) false
row_uncut separator quotes bytes n w =
    uncut_then 10 quotes bytes (replicate n 13)
    (record { uncut = feedless quotes false bytes w.on_line; inside_is = w.outside }) (returns_uncut quotes n)

pub row_returnless : (quotes : Bool) (bytes : List ℕ) → is_one_line bytes ≡ true
    → (quotes && not (is_uncut 13 true false bytes)) ≡ false
row_returnless true bytes h = rw (returnless false bytes h) refl
row_returnless false bytes h = refl

pub row_sound : (separator : ℕ) (quotes : Bool) (bytes : List ℕ) → IsWholeRow separator quotes bytes
    → (quotes && not (quotes_are_sound separator bytes)) ≡ false
row_sound separator true bytes w = rw (w.sound refl) refl
row_sound separator false bytes w = refl

pub feedless_uncut : (quotes inside : Bool) (bytes : List ℕ) → list_all (λ b. not (is_byte 10 b)) bytes ≡ true
    → is_uncut 10 quotes inside bytes ≡ true
feedless_uncut quotes inside [] h = refl
feedless_uncut quotes inside (b ∷ bs) h =
    let (f, more) = both (b == 10) (list_all (λ b. not (is_byte 10 b)) bs) h in
    rw f (feedless_uncut quotes (turned quotes inside b) bs more)
