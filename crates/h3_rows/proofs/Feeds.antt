-- Line feeds that are counted.
use Rattle.std.proofs.Common.{Bool, false, ◌&&◌, ◌||◌, sym, ◌≡◌, ℕ, ◌<◌, ◌≤◌, ◌==◌, true, not, List, [], ◌∷◌, length, get_or, take_all, if◌then◌else◌, refl, subst, arith}
use Rattle.std.specs.List.{count_by, list_all}
use Rattle.memchr.specs.Find.{is_byte}
use Rattle.h3_index.specs.Text.{is_blank, without_leading_blanks}
use Rattle.h3_lines.specs.Pieces.{Piece, cut, is_uncut, turned, with_first}
use Rattle.h3_lines.specs.PiecesLaws.{and_false, both, first_piece}
use Rattle.h3_rows.specs.Row.{is_read_alike, opens_well, quotes_are_sound}
use Rattle.h3_lines.specs.ScanLaws.{none_below}

none_counted : (bytes : List ℕ) → list_all (λ b. not (is_byte 10 b)) bytes ≡ true → 0 ≡ count_by (λ b. b == 10) bytes
none_counted [] h = refl
none_counted (b ∷ bs) h =
    let (m, more) = both (b == 10) (list_all (λ b. not (is_byte 10 b)) bs) h in
    rw m (none_counted bs more)

pub no_feeds : (bytes : List ℕ) → ((j : ℕ) → 0 ≤ j → j < length bytes → is_byte 10 (get_or bytes j 0) ≡ true → ⊥)
    → 0 ≡ count_by (λ b. b == 10) bytes
no_feeds bytes none =
    none_counted bytes (subst (λ l. list_all (λ b. not (is_byte 10 b)) l ≡ true)
    (take_all (length bytes) bytes (omega arith)) (none_below (is_byte 10) bytes (length bytes) (omega arith) none))

pub two_hold : (x y : Bool) → (x && y) ≡ true → (x ≡ true) × (y ≡ true)
two_hold true y h = (refl, h)
two_hold false y h = absurd (cc)

-- bytes without a quote have none that opens in the wrong place
none_opens : (separator : ℕ) (start after inside : Bool) (bytes : List ℕ)
    → list_all (λ b. not (is_byte 34 b)) bytes ≡ true → opens_well separator start after inside bytes ≡ true
none_opens separator start after inside [] h = refl
none_opens separator start after inside (b ∷ bs) h =
    let (m, more) = both (b == 34) (list_all (λ b. not (is_byte 34 b)) bs) h in
    rw m (none_opens separator (not inside && (b == separator || (start && is_blank b))) false inside bs more)

-- ---- and no field of them has one

abbrev pub quiet : List ℕ → Bool
quiet bytes = list_all (λ b. not (is_byte 34 b)) bytes

not_first : (field : List ℕ) → quiet field ≡ true → (get_or (without_leading_blanks field) 0 0 == 34) ≡ false
not_first [] h = refl
not_first (b ∷ bs) h =
    let (m, more) = both (b == 34) (quiet bs) h in
    let go : (t : Bool) → (get_or (if t then without_leading_blanks bs else b ∷ bs) 0 0 == 34) ≡ false =
    λ t. elim t as (λ t. (get_or (if t then without_leading_blanks bs else b ∷ bs) 0 0 == 34) ≡ false) [
      | true ↦ not_first bs more
      | false ↦ m
    ] in
    go (is_blank b)

pub quiet_alike : (separator : ℕ) (field : List ℕ) → quiet field ≡ true → is_read_alike separator field ≡ true
quiet_alike separator field h = rw (not_first field h, and_false (is_blank (get_or field 0 0))) refl

all_alike : (separator : ℕ) (ps : List Piece) → list_all (λ p. quiet p.0) ps ≡ true
    → list_all (λ p. is_read_alike separator p.0) ps ≡ true
all_alike separator [] h = refl
all_alike separator (p ∷ ps) h =
    let (first, more) = two_hold (quiet p.0) (list_all (λ p. quiet p.0) ps) h in
    rw (quiet_alike separator p.0 first) (all_alike separator ps more)

first_quiet : (b : ℕ) (ps more : List Piece) (p : Piece) → ps ≡ p ∷ more → (b == 34) ≡ false
    → list_all (λ p. quiet p.0) ps ≡ true → list_all (λ p. quiet p.0) (with_first b ps) ≡ true
first_quiet b ps more p is other h = rw is (let all = rw is at h in rw other all)

quiet_fields : (separator : ℕ) (bytes : List ℕ) → quiet bytes ≡ true
    → list_all (λ p. quiet p.0) (cut separator true false bytes) ≡ true
quiet_fields separator [] h = refl
quiet_fields separator (b ∷ bs) h =
    let (m, more) = both (b == 34) (quiet bs) h in
    let rest = quiet_fields separator bs more in
    let (p, ps, first) = first_piece separator true false bs in
    let go : (t : Bool)
    → list_all (λ p. quiet p.0)
    (if t then ([], false) ∷ cut separator true false bs else with_first b (cut separator true false bs))
    ≡ true =
    λ t.
    elim t as
    (λ t.
    list_all (λ p. quiet p.0) (if t then ([], false) ∷ cut separator true false bs
    else with_first b (cut separator true false bs))
    ≡ true)
    [ true ↦ rest | false ↦ first_quiet b (cut separator true false bs) ps p first m rest ] in
    rw m (go ((b == separator) && true))

pub quiet_sound : (separator : ℕ) (bytes : List ℕ) → quiet bytes ≡ true → quotes_are_sound separator bytes ≡ true
quiet_sound separator bytes calm =
    rw (
      none_opens separator true false false bytes calm,
      all_alike separator (cut separator true false bytes) (quiet_fields separator bytes calm),
    ) refl

pub no_quotes : (separator : ℕ) (bytes : List ℕ)
    → ((j : ℕ) → 0 ≤ j → j < length bytes → is_byte 34 (get_or bytes j 0) ≡ true → ⊥)
    → true ≡ quotes_are_sound separator bytes
no_quotes separator bytes none =
    let calm : quiet bytes ≡ true =
    subst (λ l. list_all (λ b. not (is_byte 34 b)) l ≡ true) (take_all (length bytes) bytes (omega arith))
    (none_below (is_byte 34) bytes (length bytes) (omega arith) none) in
    sym (quiet_sound separator bytes calm)

-- ---- carriage returns

no_return : (inside : Bool) (bytes : List ℕ) → list_all (λ b. not (is_byte 13 b)) bytes ≡ true
    → is_uncut 13 true inside bytes ≡ true
no_return inside [] h = refl
no_return inside (b ∷ bs) h =
    let (m, more) = both (b == 13) (list_all (λ b. not (is_byte 13 b)) bs) h in
    rw m (no_return (turned true inside b) bs more)

pub no_returns : (bytes : List ℕ) → ((j : ℕ) → 0 ≤ j → j < length bytes → is_byte 13 (get_or bytes j 0) ≡ true → ⊥)
    → is_uncut 13 true false bytes ≡ true
no_returns bytes none =
    no_return false bytes (subst (λ l. list_all (λ b. not (is_byte 13 b)) l ≡ true)
    (take_all (length bytes) bytes (omega arith)) (none_below (is_byte 13) bytes (length bytes) (omega arith) none))
