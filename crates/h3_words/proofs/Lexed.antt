-- What the words give an option, cut as `clap` cuts them.
use Rattle.std.proofs.Common.{◌≡◌, ◌∙◌, ◌+◌, ◌==◌, ◌&&◌, ◌||◌, ℕ, Bool, cond, true, false, not, suc, refl, ap, ap₂, arith, List, [], ◌∷◌, Option, Some, None, drop, take, true≢false}
use Rattle.std.specs.Prelude.{slice_get, option_and_then}
use Rattle.std.specs.List.{list_any, position_or_len}
use Rattle.std.specs.Option.{option_map_or, option_or}
use Rattle.std.specs.Str.{bytes_eq, chars}
use Rattle.std.proofs.lemmas.Bool.{eqb-true}
use Rattle.std.proofs.lemmas.Bool.Decides.{nat_tests}
use Rattle.clap.specs.Lexer.{has_byte, long_of, long_of_rest, short_of, short_of_rest, strip_byte}
use Rattle.clap.specs.Walk.{Text, attached_value}
use Rattle.h3_words.specs.Given as own
use Rattle.h3_words.specs.Given.{after, by_character, given_by, long_value, short_value, with_true}
use Rattle.h3_words.specs.Options.{is_flag, long_name, short_name}
use Rattle.h3_words.specs.declared.options.CommandOption.{CommandOption}
use Rattle.h3_words.specs.declared.options.CommandOption.TheVariants.{Cell}

-- the option's long name
abbrev pub is_long : CommandOption → Text → Bool
is_long o name = option_map_or (λ s. bytes_eq s name) (long_name o) false

-- the option's short name
abbrev pub is_short : CommandOption → ℕ → Bool
is_short o c = option_map_or (λ s. s == c) (short_name o) false

-- the value beside a long name
abbrev long_by : Option Text → Option (Text × Option Text) → Option (Option Text)
long_by name None = None
long_by name (Some p) = cond (option_map_or (λ s. bytes_eq s p.0) name false) (Some p.1) None

-- the value after a first character
abbrev short_at : Option ℕ → Text → Option ℕ → Option (Option Text)
short_at name flags None = None
short_at name flags (Some c) = cond (option_map_or (λ s. s == c) name false) (Some (attached_value (drop 1 flags))) None

-- the value among the flags of a word
abbrev short_by : Option ℕ → Option Text → Option (Option Text)
short_by name None = None
short_by name (Some flags) = short_at name flags (slice_get (chars flags) 0)

-- the value in a word of these parts
abbrev parts : Option Text → Option ℕ → Option (Text × Option Text) → Option Text → Option (Option Text)
parts long short (Some p) flags = long_by long (Some p)
parts long short None flags = short_by short flags

-- the value that flags of this first character have for the option
abbrev pub by_short : CommandOption → Text → Option ℕ → Option (Option Text)
by_short o = short_at (short_name o)

-- the value that a word of these parts has for the option
abbrev pub named_by : CommandOption → Option (Text × Option Text) → Option Text → Option (Option Text)
named_by o = parts (long_name o) (short_name o)

-- the word names the option: the value in it, if any
abbrev pub spelled : CommandOption → Text → Option (Option Text)
spelled o word = named_by o (long_of word) (short_of word)

-- so it does where a flag has the text `true`
abbrev pub named : CommandOption → Text → Option (Option Text)
named o word = with_true (is_flag o) (spelled o word)

-- the option's value by the first word that names the option
abbrev pub given : CommandOption → List Text → Option Text
given o [] = None
given o (word ∷ rest) = given_by (named o word) rest (given o rest)

-- ---- a long name

same_sym : (a b : ℕ) → (a == b) ≡ (b == a)
same_sym a b = grind (arith, nat_tests)

or_parts : (a b : Bool) → (a || b) ≡ false → (a ≡ false) × (b ≡ false)
or_parts true b e = absurd (true≢false e)
or_parts false b e = (refl, e)

-- the name has no `=`
abbrev LacksEquals : Text → Type 0
LacksEquals name = list_any (λ x. x == 61) name ≡ false

-- the value in what follows two hyphens, cut at `=` at place k
abbrev cut_at : Text → Text → Bool → ℕ → Option (Option Text)
cut_at name text has k = cond (bytes_eq name (take k text)) (Some (cond has (Some (drop (k + 1) text)) None)) None

cut_same : (name text : Text) → LacksEquals name
    → option_and_then long_value (after name text)
    ≡ cut_at name text (has_byte 61 text) (position_or_len (λ x. x == 61) text)
cut_same [] [] lacks = refl
cut_same [] (b ∷ bs) lacks = go (b == 61) (has_byte 61 bs) (position_or_len (λ x. x == 61) bs)
  where
    go : (t has : Bool) (m : ℕ) → cond t (Some (Some bs)) None ≡ cut_at [] (b ∷ bs) (t || has) (cond (not t) (1 + m) 0)
    go true has m = refl
    go false has m = let e : suc m ≡ 1 + m = omega arith in ap (cut_at [] (b ∷ bs) has) e
cut_same (n ∷ ns) [] lacks = refl
cut_same (n ∷ ns) (b ∷ bs) lacks =
    go (b == 61) refl (has_byte 61 bs) (position_or_len (λ x. x == 61) bs) (cut_same ns bs (or_parts _ _ lacks).1)
  where
    later : (u has : Bool) (m : ℕ) → option_and_then long_value (after ns bs) ≡ cut_at ns bs has m
        → option_and_then long_value (cond u (after ns bs) None)
        ≡ cond (u && bytes_eq ns (take m bs)) (Some (cond has (Some (drop (m + 1) bs)) None)) None
    later true has m rest = rest
    later false has m rest = refl

    go : (t : Bool) → (b == 61) ≡ t → (has : Bool) (m : ℕ)
        → option_and_then long_value (after ns bs) ≡ cut_at ns bs has m
        → option_and_then long_value (cond (n == b) (after ns bs) None)
        ≡ cut_at (n ∷ ns) (b ∷ bs) (t || has) (cond (not t) (1 + m) 0)
    go true e has m rest =
        ap (λ u. option_and_then long_value (cond u (after ns bs) None))
        (ap (λ x. n == x) (eqb-true b 61 e) ∙ (or_parts _ _ lacks).0)
    go false e has m rest =
        let one : suc m ≡ 1 + m = omega arith in
        let two : suc (m + 1) ≡ suc m + 1 = omega arith in
        later (n == b) has m rest
        ∙ ap (λ k. cond (n == b && bytes_eq ns (take m bs)) (Some (cond has (Some (drop k (b ∷ bs))) None)) None) two
        ∙ ap (cut_at (n ∷ ns) (b ∷ bs) has) one

-- breaks_long name: the name is empty or has a `=`
abbrev breaks_long : Option Text → Bool
breaks_long None = false
breaks_long (Some []) = true
breaks_long (Some (n ∷ ns)) = list_any (λ x. x == 61) (n ∷ ns)

abbrev PlainLong : Option Text → Type 0
PlainLong name = breaks_long name ≡ false

long_same : (name : Option Text) (word : Text) → PlainLong name → own.by_long name word ≡ long_by name (long_of word)
long_same None word plain = go (long_of word)
  where
    go : (p : Option (Text × Option Text)) → None ≡ long_by None p
    go None = refl
    go (Some p) = refl
long_same (Some []) word plain = absurd (true≢false plain)
long_same (Some (n ∷ ns)) [] plain = refl
long_same (Some (n ∷ ns)) (b ∷ bs) plain =
    ap (λ t. option_and_then long_value (cond t (after (45 ∷ n ∷ ns) bs) None)) (same_sym 45 b) ∙ first bs (b == 45)
  where
    second : (ds : Text) (t : Bool)
        → option_and_then long_value (cond t (after (n ∷ ns) ds) None)
        ≡ long_by (Some (n ∷ ns)) (option_and_then long_of_rest (cond t (Some ds) None))
    second ds false = refl
    second [] true = refl
    second (d ∷ ds) true = cut_same (n ∷ ns) (d ∷ ds) plain

    first : (cs : Text) (t : Bool) → option_and_then long_value (cond t (after (45 ∷ n ∷ ns) cs) None)
        ≡ long_by (Some (n ∷ ns))
        (option_and_then long_of_rest (option_and_then (strip_byte 45) (cond t (Some cs) None)))
    first cs false = refl
    first [] true = refl
    first (d ∷ ds) true =
        ap (λ t. option_and_then long_value (cond t (after (n ∷ ns) ds) None)) (same_sym 45 d) ∙ second ds (d == 45)

-- ---- a short name

value_same : (text : Text) → short_value text ≡ attached_value text
value_same [] = refl
value_same (b ∷ bs) = go (b == 61)
  where
    go : (t : Bool)
        → cond t (Some bs) (Some (b ∷ bs)) ≡ option_map_or (λ v. Some v) (cond t (Some bs) None) (Some (b ∷ bs))
    go true = refl
    go false = refl

-- a short name is no hyphen
abbrev PlainShort : Option ℕ → Type 0
PlainShort name = option_map_or (λ c. c == 45) name false ≡ false

no_hyphen : (c : ℕ) (text : Text) → (c == 45) ≡ false → by_character c (45 ∷ text) ≡ None
unfolding chars
no_hyphen c [] e = ap (λ t. cond t (Some None) None) e
no_hyphen c (b ∷ bs) e = ap (λ t. cond t (Some (short_value (b ∷ bs))) None) e

short_same : (name : Option ℕ) (word : Text) → PlainShort name → own.by_short name word ≡ short_by name (short_of word)
unfolding chars
short_same None word plain = go (short_of word)
  where
    first : (flags : Text) (c : Option ℕ) → None ≡ short_at None flags c
    first flags None = refl
    first flags (Some c) = refl

    go : (flags : Option Text) → None ≡ short_by None flags
    go None = refl
    go (Some flags) = first flags (slice_get (chars flags) 0)
short_same (Some c) [] plain = refl
short_same (Some c) (b ∷ bs) plain =
    ap (λ t. option_and_then (by_character c) (cond t (Some bs) None)) (same_sym 45 b) ∙ go bs (b == 45)
  where
    at_first : (d : ℕ) (ds : Text) (y : Option ℕ)
        → option_map_or (λ first. cond (c == first) (Some (short_value ds)) None) y None ≡ short_at (Some c) (d ∷ ds) y
    at_first d ds None = refl
    at_first d ds (Some y) = ap (λ v. cond (c == y) (Some v) None) (value_same ds)

    flagged : (d : ℕ) (ds : Text) (t : Bool) → (d == 45) ≡ t
        → by_character c (d ∷ ds) ≡ short_by (Some c) (cond t None (Some (d ∷ ds)))
    flagged d ds true e = ap (λ x. by_character c (x ∷ ds)) (eqb-true d 45 e) ∙ no_hyphen c ds plain
    flagged d ds false e = at_first d ds (slice_get (chars (d ∷ ds)) 0)

    go : (cs : Text) (t : Bool)
        → option_and_then (by_character c) (cond t (Some cs) None)
        ≡ short_by (Some c) (option_and_then short_of_rest (cond t (Some cs) None))
    go cs false = refl
    go [] true = refl
    go (d ∷ ds) true = flagged d ds (d == 45) refl

-- ---- both

-- a word with a long name has no flags
no_flags : (word : Text) (p : Text × Option Text) → long_of word ≡ Some p → short_of word ≡ None
no_flags [] p e = refl
no_flags (b ∷ bs) p e = go bs (b == 45) e
  where
    second : (d : ℕ) (ds : Text) (t : Bool) → option_and_then long_of_rest (cond t (Some ds) None) ≡ Some p
        → cond t None (Some (d ∷ ds)) ≡ None
    second d ds true e2 = refl
    second d ds false e2 = cc

    go : (cs : Text) (t : Bool)
        → option_and_then long_of_rest (option_and_then (strip_byte 45) (cond t (Some cs) None)) ≡ Some p
        → option_and_then short_of_rest (cond t (Some cs) None) ≡ None
    go cs false e2 = refl
    go [] true e2 = refl
    go (d ∷ ds) true e2 = second d ds (d == 45) e2

or_none : {X : Type 0} (x : Option X) → option_or x None ≡ x
or_none None = refl
or_none (Some x) = refl

parts_same : (long : Option Text) (short : Option ℕ) (word : Text) → PlainLong long → PlainShort short
    → option_or (own.by_long long word) (own.by_short short word) ≡ parts long short (long_of word) (short_of word)
parts_same long short word plain_long plain_short =
    ap₂ option_or (long_same long word plain_long) (short_same short word plain_short) ∙ go (long_of word) refl
  where
    go : (p : Option (Text × Option Text)) → long_of word ≡ p
        → option_or (long_by long p) (short_by short (short_of word)) ≡ parts long short p (short_of word)
    go None e = refl
    go (Some p) e =
        ap (λ f. option_or (long_by long (Some p)) (short_by short f)) (no_flags word p e)
        ∙ or_none (long_by long (Some p))

plain_long : (o : CommandOption) → PlainLong (long_name o)
plain_long Cell = refl
plain_long o = refl

plain_short : (o : CommandOption) → PlainShort (short_name o)
plain_short Cell = refl
plain_short o = refl

-- what the words give, cut so, is what they give
pub given_same : (o : CommandOption) (words : List Text) → own.given o words ≡ given o words
given_same o [] = refl
given_same o (word ∷ rest) = ap₂ (λ n later. given_by n rest later)
    (ap (with_true (is_flag o)) (parts_same (long_name o) (short_name o) word (plain_long o) (plain_short o)))
    (given_same o rest)
