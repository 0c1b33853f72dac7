-- Plain lines that are taken, alone or several together.
use Rattle.std.specs.Char.{is_digit}
use Rattle.std.specs.List.{list_all}
use Rattle.std.proofs.Common.{◌≡◌, ℕ, ◌+◌, ◌-◌, ◌<◌, ◌≤◌, Bool, false, true, List, [], ◌∷◌, ◌++◌, length, take, drop, get_or, Option, None, Some, Result, Ok, Err, IfOk, IfNone, sym, ap, ◌∙◌, refl, subst, append_assoc, length-append, length-take, arith}
use Rattle.std.proofs.lemmas.List.{take_more, take_rest}
use Rattle.h3_index.specs.Text.{parsed_index}
use Rattle.h3_lines.specs.PiecesLaws.{cut_at_mark, rows_go}
use Rattle.h3_lines.specs.Pieces.{Piece, Uncut, pieces_of, rows_of}
use Rattle.h3_lines.specs.Splitting.{BeginsLines, BeginsPlain, Goes, ParseAll, ParsesAs}
use Rattle.h3_lines.specs.declared.run_error.RunError.{RunError}
use Rattle.h3_lines.proofs.PlainLines.{digits_uncut, returned_uncut}
use Rattle.h3_lines.specs.ScanLaws.{split_at}

-- a line without line feeds and quotes, and a line feed
begins_line : (bytes : List ℕ) (at index : ℕ) → at < length bytes → at ≤ 64 → get_or bytes at 0 ≡ 10
    → ((q : Bool) → Uncut 10 q false (take at bytes) false) → parsed_index (take at bytes) ≡ Some index
    → BeginsPlain bytes index (take (length bytes - (at + 1)) (drop (at + 1) bytes))
begins_line bytes at index within short feed uncut parses =
    record {
      line = take at bytes;
      uncut = uncut;
      split = rw (take_rest bytes (at + 1)) (split_at bytes at 10 within feed);
      parses = record { short = omega (arith, short, length-take at bytes); parses = parses };
    }

-- fifteen digits and a line feed
pub begins_plain : (bytes : List ℕ) (index : ℕ) → 15 < length bytes → get_or bytes 15 0 ≡ 10
    → list_all (λ b. is_digit b 16) (take 15 bytes) ≡ true → parsed_index (take 15 bytes) ≡ Some index
    → BeginsPlain bytes index (take (length bytes - 16) (drop 16 bytes))
begins_plain bytes index within feed digits parses =
    begins_line bytes 15 index within (omega arith) feed (λ q. digits_uncut 16 refl refl q (take 15 bytes) digits)
    parses

-- digits and letters, and a line feed
pub begins_letters : (bytes : List ℕ) (at index : ℕ) → at < length bytes → at ≤ 18 → get_or bytes at 0 ≡ 10
    → list_all (λ b. is_digit b 36) (take at bytes) ≡ true → parsed_index (take at bytes) ≡ Some index
    → BeginsPlain bytes index (take (length bytes - (at + 1)) (drop (at + 1) bytes))
begins_letters bytes at index within short feed letters parses =
    begins_line bytes at index within (omega (arith, short)) feed
    (λ q. digits_uncut 36 refl refl q (take at bytes) letters) parses

-- digits and letters, a carriage return and a line feed
pub begins_returned : (bytes : List ℕ) (at index : ℕ) → at < length bytes → at ≤ 18 → 0 < at → get_or bytes at 0 ≡ 10
    → get_or bytes (at - 1) 0 ≡ 13 → list_all (λ b. is_digit b 36) (take (at - 1) bytes) ≡ true
    → parsed_index (take (at - 1) bytes ++ 13 ∷ []) ≡ Some index
    → BeginsPlain bytes index (take (length bytes - (at + 1)) (drop (at + 1) bytes))
begins_returned bytes at index within short some feed returned letters parses =
    let next : at - 1 + 1 ≡ at = omega (arith, some) in
    let line : take at bytes ≡ take (at - 1) bytes ++ 13 ∷ [] =
    ap (λ n. take n bytes) (sym next) ∙ take_more bytes (at - 1) 0 (omega (arith, within))
    ∙ ap (λ b. take (at - 1) bytes ++ b ∷ []) returned in
    begins_line bytes at index within (omega (arith, short)) feed
    (λ q. subst (λ l. Uncut 10 q false l false) (sym line)
    (returned_uncut 36 refl refl q (take (at - 1) bytes) letters))
    (ap parsed_index line ∙ parses)

pub plain_shorter : (bytes after : List ℕ) (index : ℕ) → BeginsPlain bytes index after → length after < length bytes
plain_shorter bytes after index p =
    let whole : length bytes ≡ length p.line + length (10 ∷ after) =
    ap length p.split ∙ length-append p.line (10 ∷ after) in
    omega (arith, whole)

-- ---- plain lines that are read together

parse_then : (rows : List Piece) (indexes : List ℕ) (p : Piece) (index : ℕ) → ParseAll rows indexes → ParsesAs p.0 index
    → ParseAll (rows ++ p ∷ []) (indexes ++ index ∷ [])
parse_then [] [] line index all one = (one, tt)
parse_then (l ∷ ls) (i ∷ is) line index all one = (all.0, parse_then ls is line index all.1 one)
parse_then [] (i ∷ is) line index all one = absurd all
parse_then (l ∷ ls) [] line index all one = absurd all

-- one line more
pub begins_then : (bytes indexes left after : List ℕ) (index : ℕ) → BeginsLines bytes indexes left
    → BeginsPlain left index after → BeginsLines bytes (indexes ++ index ∷ []) after
begins_then bytes indexes left after index p q =
    let regroup : (rest : List ℕ) → left ++ rest ≡ q.line ++ 10 ∷ (after ++ rest) =
    λ rest. ap (λ l. l ++ rest) q.split ∙ append_assoc q.line (10 ∷ after) rest in
    let one : (qs : Bool) (rest : List ℕ)
    → pieces_of qs (left ++ rest) ≡ (q.line, false) ∷ pieces_of qs (after ++ rest) =
    λ qs rest.
    ap (pieces_of qs) (regroup rest)
    ∙ cut_at_mark 10 qs false q.line (after ++ rest) (q.uncut qs).uncut (q.uncut qs).inside_is refl in
    let less : length after < length left = plain_shorter left after index q in
    let before : length indexes + length left ≤ length bytes = p.shorter in
    record {
      pieces = p.pieces ++ (q.line, false) ∷ [];
      parse = parse_then p.pieces indexes (q.line, false) index p.parse q.parses;
      split =
          λ qs rest. p.split qs rest ∙ ap (λ ls. p.pieces ++ ls) (one qs rest)
          ∙ sym (append_assoc p.pieces ((q.line, false) ∷ []) (pieces_of qs (after ++ rest)));
      shorter = omega (arith, less, before, length-append indexes (index ∷ []));
    }

-- the line of one of the indexes, between those before it and those after it
pub parse_at : (rows : List Piece) (indexes : List ℕ) (index : ℕ) (more : List ℕ)
    → ParseAll rows (indexes ++ index ∷ more)
    → (front : List Piece) × (p : Piece) × (back : List Piece) × (rows ≡ front ++ p ∷ back) × ParseAll front indexes
    × ParsesAs p.0 index × ParseAll back more
parse_at (l ∷ ls) [] index more all = ([], l, ls, refl, tt, all.0, all.1)
parse_at [] [] index more all = absurd all
parse_at (l ∷ ls) (i ∷ is) index more all =
    let (front, line, back, is', parse, one, rest) = parse_at ls is index more all.1 in
    (l ∷ front, line, back, ap (λ t. l ∷ t) is', (all.0, parse), one, rest)
parse_at [] (i ∷ is) index more all = absurd all

pub parse_none : (rows : List Piece) → ParseAll rows [] → rows ≡ []
parse_none [] all = refl
parse_none (l ∷ ls) all = absurd all

module _ {V : Type 0} (taken : V → List Piece → V → Type 0) where
  -- a plain line is taken
  pub goes_plain : {v w : V} (q : Bool) (bytes after : List ℕ) (index : ℕ) → BeginsPlain bytes index after
      → ((p : Piece) → ParsesAs p.0 index → taken v (p ∷ []) w) → Goes q taken v [] bytes w [] after
  goes_plain {v} {w} q bytes after index p takes' =
      let regroup : (rest : List ℕ) → bytes ++ rest ≡ p.line ++ 10 ∷ (after ++ rest) =
      λ rest. ap (λ l. l ++ rest) p.split ∙ append_assoc p.line (10 ∷ after) rest in
      record {
        ended = (p.line, false) ∷ [];
        rows =
            λ rest. ap (pieces_of q) (regroup rest)
            ∙ cut_at_mark 10 q false p.line (after ++ rest) (p.uncut q).uncut (p.uncut q).inside_is refl;
        takes = takes' (p.line, false) p.parses;
      }

  -- lines that were read together are taken
  pub goes_lines : {v w : V} (q : Bool) (bytes indexes after : List ℕ) → BeginsLines bytes indexes after
      → ((rows : List Piece) → ParseAll rows indexes → taken v rows w) → Goes q taken v [] bytes w [] after
  goes_lines q bytes indexes after p takes' =
      record { ended = p.pieces; rows = λ rest. p.split q rest; takes = takes' p.pieces p.parse }

  -- of lines that were read together one more is taken
  pub together_then : ((u v w : V) (xs ys : List Piece) → taken u xs v → taken v ys w → taken u (xs ++ ys) w)
      → {u v w : V} (indexes : List ℕ) (index : ℕ) → ((rows : List Piece) → ParseAll rows indexes → taken u rows v)
      → ((p : Piece) → ParsesAs p.0 index → taken v (p ∷ []) w) → (rows : List Piece)
      → ParseAll rows (indexes ++ index ∷ []) → taken u rows w
  together_then both {u} {v} {w} indexes index before takes' rows all =
      let (front, p, back, is, parse, one, rest) = parse_at rows indexes index [] all in
      let whole : rows ≡ front ++ p ∷ [] = is ∙ ap (λ ls. front ++ p ∷ ls) (parse_none back rest) in
      subst (λ ls. taken u ls w) (sym whole) (both u v w front (p ∷ []) (before front parse) (takes' p one))

  -- of lines that were read together one is refused
  pub together_refused : (refused : V → List Piece → V → RunError → Type 0)
      → ((u v w : V) (xs ys : List Piece) (e : RunError) → taken u xs v → refused v ys w e → refused u (xs ++ ys) w e)
      → {u v w : V} {e : RunError} (indexes : List ℕ) (index : ℕ) (more : List ℕ)
      → ((rows : List Piece) → ParseAll rows indexes → taken u rows v)
      → ((p : Piece) → ParsesAs p.0 index → (later : List Piece) → refused v (p ∷ later) w e) → (rows : List Piece)
      → ParseAll rows (indexes ++ index ∷ more) → (later : List Piece) → refused u (rows ++ later) w e
  together_refused refused then_refused {u} {v} {w} {e} indexes index more before refuses rows all later =
      let (front, p, back, is, parse, one, rest) = parse_at rows indexes index more all in
      let whole : rows ++ later ≡ front ++ (p ∷ (back ++ later)) =
      ap (λ ls. ls ++ later) is ∙ append_assoc front (p ∷ back) later in
      subst (λ ls. refused u ls w e) (sym whole)
      (then_refused u v w front (p ∷ (back ++ later)) e (before front parse) (refuses p one (back ++ later)))

module _ {V : Type 0} (refused : V → List Piece → V → RunError → Type 0) where
  -- a plain line is refused
  pub refused_plain : {v w : V} {e : RunError} (q : Bool) (bytes after rest : List ℕ) (index : ℕ)
      → BeginsPlain bytes index after
      → ((p : Piece) → ParsesAs p.0 index → (later : List Piece) → refused v (p ∷ later) w e)
      → refused v (rows_of q (bytes ++ rest)) w e
  refused_plain {v} {w} {e} q bytes after rest index p refuses =
      let regroup : bytes ++ rest ≡ p.line ++ 10 ∷ (after ++ rest) =
      ap (λ l. l ++ rest) p.split ∙ append_assoc p.line (10 ∷ after) rest in
      let pieces : pieces_of q (bytes ++ rest) ≡ ((p.line, false) ∷ []) ++ pieces_of q (after ++ rest) =
      ap (pieces_of q) regroup
      ∙ cut_at_mark 10 q false p.line (after ++ rest) (p.uncut q).uncut (p.uncut q).inside_is refl in
      subst (λ ls. refused v ls w e) (sym (rows_go q (bytes ++ rest) (after ++ rest) ((p.line, false) ∷ []) pieces))
      (refuses (p.line, false) p.parses (rows_of q (after ++ rest)))

  -- lines that were read together are refused
  pub refused_lines : {v w : V} {e : RunError} (q : Bool) (bytes indexes after rest : List ℕ)
      → BeginsLines bytes indexes after
      → ((rows : List Piece) → ParseAll rows indexes → (later : List Piece) → refused v (rows ++ later) w e)
      → refused v (rows_of q (bytes ++ rest)) w e
  refused_lines {v} {w} {e} q bytes indexes after rest p refuses =
      subst (λ ls. refused v ls w e) (sym (rows_go q (bytes ++ rest) (after ++ rest) p.pieces (p.split q rest)))
      (refuses p.pieces p.parse (rows_of q (after ++ rest)))

-- where none is taken
pub none_first : {V T E : Type 0} (r : Result (Option T) E) (P : V → Type 0) (v w : V) → P v
    → IfOk r (λ o. IfNone o (w ≡ v)) → IfOk r (λ o. IfNone o (P w))
none_first (Ok None) P v w p same = subst P (sym same) p
none_first (Ok (Some x)) P v w p same = tt
none_first (Err e) P v w p same = tt
