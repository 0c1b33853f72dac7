-- What rows give that are taken to the end of a list, or to a refusal.
use Rattle.std.proofs.Common.{◌≡◌, ℕ, ◌*◌, ◌^◌, ◌⊎◌, Bool, true, List, [], ◌++◌, length, ◌≤◌, Option, None, Some, Result, Ok, Err, sym, ap, ◌∙◌, refl, subst, inl, inr, append-nil, arith, false}
use Rattle.std.specs.Prelude.{⊤}
use Rattle.std.specs.Io.KnownBytes.{Consumes}
use Rattle.std.proofs.KnownBytes.{Consumes-nil}
use Rattle.h3_streams.specs.Stream.{HasLeft}
use Rattle.h3_lines.specs.declared.run_error.AnswerError.{AnswerError}
use Rattle.h3_lines.specs.declared.run_error.Fault.TheVariants.{Memory, Read, Write}
use Rattle.h3_lines.specs.declared.run_error.RunError.{RunError}
use Rattle.h3_lines.specs.declared.run_error.RunError.TheVariants.{Error, Fault}
use Rattle.h3_lines.specs.Pieces.{Piece, rows_of}
use Rattle.h3_lines.specs.Splitting.{RefusesAfter, StopsReading, StopsTaking, TakesAll}
use Rattle.h3_lines.specs.Taking.{HaveCells, RefusesCells, cells_before}
use Rattle.h3_lines.specs.TakingLaws.{have_all, refuses_after}
use Rattle.h3_rows.specs.ReadTo.{AllRead, Gives, ReadTo, RefusesAtEnd, RefusesInPage, RefusesRead}

-- some bytes are held
some_held : (told : Option (List ℕ)) → (bytes : List ℕ) × HasLeft told bytes
some_held None = ([], tt)
some_held (Some xs) = (xs, refl)

-- over what takes what rows give: its state, and what was taken from one moment to a later one
module _ {C L N V : Type 0} (given_in : L → N → List Piece → Result (List C) AnswerError) (state : V → N)
    (taken : V → List C → V → Type 0) where
  abbrev pub Takes : V → List Piece → V → Type 0
  Takes v rows w = (cells : List C) × HaveCells given_in (state v) rows cells (state w) × taken v cells w

  abbrev pub Refuses : V → List Piece → V → RunError → Type 0
  Refuses v rows w e = RefusesCells given_in (state v) rows e

  abbrev pub Settled : V → Type 0
  Settled v = ⊤

  -- how the taking stops that is not whole
  abbrev pub StopsEarly : Bool → V → V → Option (List ℕ) → Option (List ℕ) → Bool → Bool → RunError → Type 0
  StopsEarly quotes v w old new had has e =
      ((e ≡ Fault Read) × StopsReading quotes 1114111 Takes Settled v w old new (has ≡ true) (2 ^ 40) 65536)
      ⊎ (StopsTaking quotes (rows_of quotes) 1114111 Takes Refuses Settled v w e old new (2 ^ 40) 65536
      × (has ≡ had))

  -- from the beginning of a list, with what is last in one that ends, and in one of which more may come
  module _ (quotes : Bool) (all first : Gives C) (v w : V) (old new : Option (List ℕ)) (ends begun : L)
      (all_is : (rows : List Piece) → all rows ≡ given_in ends (state v) rows)
      (first_is : (rows : List Piece) → first rows ≡ given_in begun (state v) rows)
      (none : (n : N) → given_in begun n [] ≡ Ok []) where
    no_error : (mid : V) (rows : List Piece) (t : Takes v rows mid) → first rows ≡ Ok (t.0 ++ [])
    no_error mid rows t =
        first_is rows ∙ have_all given_in (state v) (state mid) rows t.0 t.1 begun
        ∙ ap (cells_before t.0) (none (state mid))

    whole : (t : TakesAll (rows_of quotes) Takes v w old new (2 ^ 40) 65536)
        → all (rows_of quotes t.bytes) ≡ cells_before t.takes.0 (given_in ends (state w) [])
    whole t =
        all_is (rows_of quotes t.bytes)
        ∙ have_all given_in (state v) (state w) (rows_of quotes t.bytes) t.takes.0 t.takes.1 ends

    read_to : (e : RunError)
        → StopsTaking quotes (rows_of quotes) 1114111 Takes Refuses Settled v w e old new
        (2 ^ 40) 65536
        → ReadTo quotes first 65536 old new
    read_to e s = record {
      part = s.part;
      last = s.last;
      rest = s.rest;
      held = s.held;
      consumed = s.consumed;
      short = s.short;
      within = s.within;
      ended = s.ended;
      unended = s.unended;
      rows = s.rows;
      begun = s.begun;
      taken = s.takes.0 ++ [];
      good = no_error s.mid s.ended s.takes;
    }

    -- bytes whose rows are these that were taken, and others that are refused
    refused_by : (gives : Gives C) (last : L) → ((rows : List Piece) → gives rows ≡ given_in last (state v) rows)
        → (e : AnswerError) (mid : V) (ended : List Piece) (t : Takes v ended mid) (bytes : List ℕ)
        → RefusesAfter (rows_of quotes) Refuses mid w (Error e) ended bytes → gives (rows_of quotes bytes) ≡ Err e
    refused_by gives last is e mid ended t bytes r =
        let refused : given_in last (state v) (ended ++ r.later) ≡ Err e =
        refuses_after given_in (state v) (state mid) ended r.later t.0 (Error e) t.1 r.refuses last in
        ap gives r.rows ∙ is (ended ++ r.later) ∙ refused

    in_page : (e : AnswerError)
        → StopsTaking quotes (rows_of quotes) 1114111 Takes Refuses Settled v w (Error e) old new
        (2 ^ 40) 65536
        → RefusesInPage quotes all first e old new
    unfolding read_to
    in_page e s = record {
      stop = read_to (Error e) s;
      is = refused_by all ends all_is e s.mid s.ended s.takes (s.part ++ s.last ++ s.rest) s.refuses;
      of_row = refused_by first begun first_is e s.mid s.ended s.takes (s.part ++ s.last ++ s.rest) s.refuses;
      known = elim s.known [
        | inl ends ↦ inl ends
        | inr known ↦
            inr (λ after. refused_by all ends all_is e s.mid s.ended s.takes (s.part ++ s.last ++ after)
            (known after))
      ];
    }

    stops : (e : RunError) (had has : Bool) → has ≡ had
        → StopsTaking quotes (rows_of quotes) 1114111 Takes Refuses Settled v w e old new
        (2 ^ 40) 65536
        → RefusesRead quotes all first old new had has e
    stops (Error e) had has sound s = (sound, inr (in_page e s))
    stops (Fault Memory) had has sound s = (sound, read_to (Fault Memory) s)
    stops (Fault Read) had has sound s = absurd (s.refuses.refuses begun)
    stops (Fault Write) had has sound s = absurd (s.refuses.refuses begun)

    read_fails : (had has : Bool)
        → StopsReading quotes 1114111 Takes Settled v w old new (has ≡ true) (2 ^ 40) 65536
        → RefusesRead quotes all first old new had has (Fault Read)
    read_fails had has s = (
      record {
        part = s.part;
        last = [];
        rest = s.rest;
        held = subst (λ l. HasLeft old (l ++ s.rest)) (sym (append-nil s.part)) s.held;
        consumed = subst (Consumes old new) (sym (append-nil s.part)) s.consumed;
        short = omega arith;
        within = subst (λ l. length l ≤ 2 ^ 40 * 65536) (sym (append-nil s.part)) s.within;
        ended = s.ended;
        unended = s.last;
        rows = s.rows;
        begun = s.short;
        taken = s.takes.0 ++ [];
        good = no_error w s.ended s.takes;
      },
      subst (λ l. (has ≡ true) ⊎ (2 ^ 40 ≤ length (l ++ s.rest))) (sym (append-nil s.part)) s.why,
    )

    pub refused_early : (had has : Bool) (e : RunError) → StopsEarly quotes v w old new had has e
        → RefusesRead quotes all first old new had has e
    refused_early had has e (inr (s, kept)) = stops e had has kept s
    refused_early had has (Fault Read) (inl (is, s)) = read_fails had has s
    refused_early had has (Fault Write) (inl (is, s)) = absurd (cc is)
    refused_early had has (Fault Memory) (inl (is, s)) = absurd (cc is)
    refused_early had has (Error e) (inl (is, s)) = absurd (cc is)

    -- all rows are read, and none is faulty
    pub read_all : (t : TakesAll (rows_of quotes) Takes v w old new (2 ^ 40) 65536)
        → given_in ends (state w) [] ≡ Ok [] → AllRead quotes all (Ok t.takes.0) old new
    read_all t good =
        record {
          list = t.bytes;
          held = t.held;
          consumed = t.consumed;
          within = t.within;
          is = whole t ∙ ap (cells_before t.takes.0) good ∙ ap Ok (append-nil t.takes.0);
        }

    -- all rows are read, and the header did not come
    pub read_none : (t : TakesAll (rows_of quotes) Takes v w old new (2 ^ 40) 65536) (e : AnswerError)
        → given_in ends (state w) [] ≡ Err e → RefusesAtEnd quotes all first e old new
    read_none t e missed = record {
      read =
          record {
            list = t.bytes;
            held = t.held;
            consumed = t.consumed;
            within = t.within;
            is = whole t ∙ ap (cells_before t.takes.0) missed;
          };
      taken = t.takes.0 ++ [];
      good = no_error w (rows_of quotes t.bytes) t.takes;
    }

-- nothing is read where there is no memory
pub no_memory : {C : Type 0} (quotes : Bool) (all first : Gives C) (cells : List C) → first [] ≡ Ok cells
    → (old : Option (List ℕ)) (had : Bool) → RefusesRead quotes all first old old had had (Fault Memory)
no_memory quotes all first cells none old had =
    let (rest, held) = some_held old in (
      refl,
      record {
        part = [];
        last = [];
        rest = rest;
        held = held;
        consumed = Consumes-nil old;
        short = omega arith;
        within = omega arith;
        ended = [];
        unended = ([], false);
        rows = refl;
        begun = omega arith;
        taken = cells;
        good = none;
      },
    )
