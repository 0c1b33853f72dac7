-- Rows that are taken one after another.
use Rattle.std.proofs.lemmas.Bool.Decides.{nat_tests}
use Rattle.std.proofs.Common.{◌≡◌, ℕ, ◌+◌, ◌*◌, ◌<◌, ◌≤◌, ◌==◌, ◌⊎◌, Bool, false, List, [], ◌∷◌, ◌++◌, length, take, Option, sym, ap, ◌∙◌, refl, subst, inl, inr, append_assoc, append-nil, length-append, length-take, arith}
use Rattle.std.specs.Io.KnownBytes.{Consumes, Keeps}
use Rattle.std.proofs.KnownBytes.{Consumes-kept, Consumes-nil, Consumes-trans}
use Rattle.h3_streams.specs.Stream.{Pulls}
use Rattle.h3_lines.specs.declared.run_error.RunError.{RunError}
use Rattle.h3_lines.specs.PiecesLaws.{cut_at_end, cut_at_mark, cut_goes_on, rows_go}
use Rattle.h3_lines.specs.Pieces.{CutsAt, Piece, Uncut, pieces_of, rows_of, without_last_nothing}
use Rattle.h3_lines.specs.Splitting.{Completes, Goes, RefusesAfter, StopsReading, StopsTaking, TakesEnded}
use Rattle.h3_lines.proofs.Pages.{all_bytes, at_end, one_at_least, one_less}

pub cut_length : (bytes before after : List ℕ) (mark : ℕ) → bytes ≡ before ++ mark ∷ after
    → length before + length after + 1 ≡ length bytes
cut_length bytes before after mark split =
    let whole : length bytes ≡ length before + length (mark ∷ after) =
    ap length split ∙ length-append before (mark ∷ after) in
    omega (arith, whole)

-- the last piece
pub piece_at_end : (qs : Bool) (line : List ℕ) (o : Bool) → Uncut 10 qs false line o → pieces_of qs line ≡ (
  line,
  o,
) ∷ []
piece_at_end qs line o h = cut_at_end 10 qs false line h.uncut ∙ ap (λ t. (line, t) ∷ []) h.inside_is

first_kept : (piece : List ℕ) (t : Bool) (ps : List Piece) → 0 < length piece
    → (qs : List Piece) × (without_last_nothing ((piece, t) ∷ ps) ≡ (piece, t) ∷ qs)
first_kept piece t [] some = let filled : (length piece == 0) ≡ false = grind (arith, nat_tests) in ([], rw filled refl)
first_kept piece t (q ∷ qs) some = (without_last_nothing (q ∷ qs), refl)

-- a row that ends, whatever bytes follow
cut_before : {qs : Bool} (bytes row after : List ℕ) → CutsAt 10 qs false bytes row after → (rest : List ℕ)
    → pieces_of qs (bytes ++ rest) ≡ (row, false) ∷ pieces_of qs (after ++ rest)
cut_before {qs} bytes row after cuts rest =
    ap (pieces_of qs) (ap (λ l. l ++ rest) cuts.split ∙ append_assoc row (10 ∷ after) rest)
    ∙ cut_at_mark 10 qs false row (after ++ rest) cuts.begins.uncut cuts.begins.inside_is refl

module _ {V : Type 0} (qs : Bool) (taken : V → List Piece → V → Type 0) where
  -- no row is taken
  pub goes_none : {v : V} (bytes : List ℕ) → taken v [] v → Goes qs taken v [] bytes v [] bytes
  goes_none bytes none = record { ended = []; rows = λ rest. refl; takes = none }

  -- bytes begin with those of a row that was begun
  pub goes_on : {v w : V} {whole : List ℕ} (line front left : List ℕ) → Goes qs taken v [] whole w [] left
      → whole ≡ line ++ front → Goes qs taken v line front w left []
  goes_on line front left g is =
      record {
        ended = g.ended;
        rows = λ rest.
            ap (pieces_of qs) (sym (append_assoc line front rest) ∙ ap (λ l. l ++ rest) (sym is)) ∙ g.rows rest;
        takes = g.takes;
      }

  -- a row ends
  pub goes_cut : {v w : V} (bytes row after : List ℕ) → CutsAt 10 qs false bytes row after → taken v ((
    row,
    false,
  ) ∷ []) w → Goes qs taken v [] bytes w [] after
  goes_cut bytes row after cuts takes' =
      record { ended = (row, false) ∷ []; rows = cut_before bytes row after cuts; takes = takes' }

  module _ (both : (u v w : V) (xs ys : List Piece) → taken u xs v → taken v ys w → taken u (xs ++ ys) w) where
    pub goes_then : {u v w : V} {line1 bytes1 line2 bytes2 line3 bytes3 : List ℕ}
        → Goes qs taken u line1 bytes1 v line2 bytes2 → Goes qs taken v line2 bytes2 w line3 bytes3
        → Goes qs taken u line1 bytes1 w line3 bytes3
    goes_then {u} {v} {w} {line3 = line3} {bytes3 = bytes3} f g = record {
      ended = f.ended ++ g.ended;
      rows =
          λ rest. f.rows rest ∙ ap (λ ls. f.ended ++ ls) (g.rows rest)
          ∙ sym (append_assoc f.ended g.ended (pieces_of qs (line3 ++ (bytes3 ++ rest))));
      takes = both u v w f.ended g.ended f.takes g.takes;
    }

    -- lines are taken, and then nothing is held back
    pub taken_settled : {u v w : V} {xs : List Piece} → taken u xs v → taken v [] w → taken u xs w
    taken_settled {u} {v} {w} {xs} p q = subst (λ ls. taken u ls w) (append-nil xs) (both u v w xs [] p q)

    pub goes_settled : {u v w : V} {line1 bytes1 line2 bytes2 : List ℕ} → Goes qs taken u line1 bytes1 v line2 bytes2
        → taken v [] w → Goes qs taken u line1 bytes1 w line2 bytes2
    goes_settled g q = record { ended = g.ended; rows = g.rows; takes = taken_settled g.takes q }

-- the last row, if it has any byte
row_kept : (line : List ℕ) (o : Bool) → 0 < length line → without_last_nothing ((line, o) ∷ []) ≡ (line, o) ∷ []
row_kept line o some = let filled : (length line == 0) ≡ false = grind (arith, nat_tests) in rw filled refl

module _ {V : Type 0} (line : List ℕ) (o : Bool) (some : 0 < length line) where
  pub last_taken : (taken : V → List Piece → V → Type 0) {v w : V} → taken v ((
    line,
    o,
  ) ∷ []) w → taken v (without_last_nothing ((line, o) ∷ [])) w
  last_taken taken {v} {w} takes = subst (λ ls. taken v ls w) (sym (row_kept line o some)) takes

  pub last_refused : (refused : V → List Piece → V → RunError → Type 0) {v w : V} {e : RunError}
      → ((later : List Piece) → refused v ((line, o) ∷ later) w e)
      → refused v (without_last_nothing ((line, o) ∷ [])) w e
  last_refused refused {v} {w} {e} refuses = subst (λ ls. refused v ls w e) (sym (row_kept line o some)) (refuses [])

module _ {V : Type 0} (qs : Bool) (refused : V → List Piece → V → RunError → Type 0) where
  -- a row is refused that ends
  pub refused_cut : {v w : V} {e : RunError} (bytes row after rest : List ℕ) → CutsAt 10 qs false bytes row after
      → ((later : List Piece) → refused v ((row, false) ∷ later) w e) → refused v (rows_of qs (bytes ++ rest)) w e
  refused_cut {v} {w} {e} bytes row after rest cuts refuses =
      let ends : rows_of qs (bytes ++ rest) ≡ (row, false) ∷ rows_of qs (after ++ rest) =
      rows_go qs (bytes ++ rest) (after ++ rest) ((row, false) ∷ []) (cut_before bytes row after cuts rest) in
      subst (λ ls. refused v ls w e) (sym ends) (refuses (rows_of qs (after ++ rest)))

  -- bytes begin with those of a row that was begun
  pub refused_on : {v w : V} {e : RunError} {whole : List ℕ} (line front : List ℕ)
      → ((rest : List ℕ) → refused v (rows_of qs (whole ++ rest)) w e) → whole ≡ line ++ front → (rest : List ℕ)
      → refused v (rows_of qs (line ++ (front ++ rest))) w e
  refused_on {v} {w} {e} line front refuses is rest =
      subst (λ l. refused v (rows_of qs l) w e) (ap (λ l. l ++ rest) is ∙ append_assoc line front rest) (refuses rest)

  -- a row is too long
  pub refused_long : {v w : V} {e : RunError} {o : Bool} (longest : ℕ) (line rest : List ℕ) → Uncut 10 qs false line o
      → longest < length line
      → ((p : Piece) → longest < length p.0 → (later : List Piece) → refused v (p ∷ later) w e)
      → refused v (rows_of qs (line ++ rest)) w e
  refused_long {v} {w} {e} longest line rest h full refuses =
      let (p, t, ps, is) = cut_goes_on 10 qs false line rest h.uncut in
      let long : longest < length (line ++ p) = simp length-append (omega arith) in
      let (more, kept) = first_kept (line ++ p) t ps (omega (arith, long)) in
      let ends : rows_of qs (line ++ rest) ≡ (line ++ p, t) ∷ more = ap without_last_nothing is ∙ kept in
      subst (λ l. refused v l w e) (sym ends) (refuses (line ++ p, t) long more)

module _ {V : Type 0} (qs : Bool) (taken : V → List Piece → V → Type 0)
    (refused : V → List Piece → V → RunError → Type 0) (then_refused : (u v w : V) (xs ys : List Piece) (e : RunError)
    → taken u xs v → refused v ys w e → refused u (xs ++ ys) w e) where
  -- lines are refused after others were taken
  pub goes_refused : {u v w : V} {e : RunError} {line1 bytes1 line2 bytes2 : List ℕ} (rest : List ℕ)
      → Goes qs taken u line1 bytes1 v line2 bytes2 → refused v (rows_of qs (line2 ++ (bytes2 ++ rest))) w e
      → refused u (rows_of qs (line1 ++ (bytes1 ++ rest))) w e
  goes_refused {u} {v} {w} {e} {line1} {bytes1} {line2} {bytes2} rest g refuses =
      subst (λ ls. refused u ls w e)
      (sym (rows_go qs (line1 ++ (bytes1 ++ rest)) (line2 ++ (bytes2 ++ rest)) g.ended (g.rows rest)))
      (then_refused u v w g.ended (rows_of qs (line2 ++ (bytes2 ++ rest))) e g.takes refuses)

  pub refused_settled : {u v w : V} {e : RunError} {xs : List Piece} → taken u xs v → refused v [] w e
      → refused u xs w e
  refused_settled {u} {v} {w} {e} {xs} p q =
      subst (λ ls. refused u ls w e) (append-nil xs) (then_refused u v w xs [] e p q)

-- ---- pages

-- The source had the bytes old left and now has those left. Of what was read the lines that end were taken, and this
-- line is begun.
pub record Took {V : Type 0} (qs : Bool) (taken : V → List Piece → V → Type 0) (v w : V) (line : List ℕ)
    (old now : Option (List ℕ)) (limit reads size : ℕ) : Type 0 where
  pub bytes : List ℕ
  pub consumed : Consumes old now bytes
  pub goes : Goes qs taken v [] bytes w line []
  pub counted : limit ≤ reads + length bytes
  pub short : length bytes + reads * size ≤ limit * size

module _ {V : Type 0} (qs : Bool) (taken : V → List Piece → V → Type 0) where
  pub took_none : (v : V) (now : Option (List ℕ)) (limit size : ℕ) → taken v [] v
      → Took qs taken v v [] now now limit limit size
  took_none v now limit size start =
      record {
        bytes = [];
        consumed = Consumes-nil now;
        goes = goes_none qs taken [] start;
        counted = omega arith;
        short = omega arith;
      }

  pub took_more : ((u v w : V) (xs ys : List Piece) → taken u xs v → taken v ys w → taken u (xs ++ ys) w)
      → {v w : V} {line : List ℕ} {old now : Option (List ℕ)} {limit reads size : ℕ}
      → Took qs taken v w line old now limit reads size
      → (now' : Option (List ℕ)) (reads' : ℕ) (page : List ℕ) (n : ℕ) (w' : V) (line' : List ℕ) → Pulls now now' page n
      → 0 < n → n ≤ length page → length page ≡ size → reads' + 1 ≡ reads
      → Goes qs taken w line (take n page) w' line' [] → Took qs taken v w' line' old now' limit reads' size
  took_more both {v} {w} {line} {old} {now} {limit} {reads}
      {size} t now' reads' page n w' line' p some fits full count g =
      let front : length (take n page) ≡ n = omega (arith, length-take {A = ℕ}) in
      let parts : length (t.bytes ++ take n page) ≡ length t.bytes + length (take n page) =
      length-append t.bytes (take n page) in
      let counted : limit ≤ reads + length t.bytes = t.counted in
      let short : length t.bytes + reads * size ≤ limit * size = t.short in
      let less : reads * size ≡ reads' * size + size = one_less reads reads' size count in
      record {
        bytes = t.bytes ++ take n page;
        consumed = Consumes-trans old now now' t.bytes (take n page) t.consumed p.taken;
        goes = record {
          ended = t.goes.ended ++ g.ended;
          rows =
              λ rest. ap (pieces_of qs) (append_assoc t.bytes (take n page) rest) ∙ t.goes.rows (take n page ++ rest)
              ∙ ap (λ ls. t.goes.ended ++ ls) (g.rows rest)
              ∙ sym (append_assoc t.goes.ended g.ended (pieces_of qs (line' ++ rest)));
          takes = both v w w' t.goes.ended g.ended t.goes.takes g.takes;
        };
        counted = omega arith;
        short = omega arith;
      }

  -- a part of the lines ended, and the last is begun
  took_lines : {v w : V} {line : List ℕ} {o : Bool} {old now : Option (List ℕ)} {limit reads size : ℕ}
      → Uncut 10 qs false line o → (t : Took qs taken v w line old now limit reads size)
      → pieces_of qs t.bytes ≡ t.goes.ended ++ (line, o) ∷ []
  took_lines {line = line} {o} h t =
      ap (pieces_of qs) (sym (append-nil t.bytes)) ∙ t.goes.rows []
      ∙ ap (λ ls. t.goes.ended ++ ls) (ap (pieces_of qs) (append-nil line) ∙ piece_at_end qs line o h)

  -- all bytes are read
  pub took_ended : (longest : ℕ)
      → {v w : V} {line : List ℕ} {o : Bool} {old now : Option (List ℕ)} {limit reads size : ℕ}
      → Uncut 10 qs false line o → length line ≤ longest → Took qs taken v w line old now limit reads size
      → (now' : Option (List ℕ)) (page : List ℕ) (n : ℕ) → Pulls now now' page n → n ≡ 0 → 0 < length page → 0 < reads
      → TakesEnded qs longest taken v w line o old now' limit size
  took_ended longest {v} {w} {line} {o} {old} {now} {limit} {reads} {size} h begun t now' page n p none room some =
      let short : length t.bytes + reads * size ≤ limit * size = t.short in
      let one : size ≤ reads * size = one_at_least reads size some in
      let no_bytes : take n page ≡ [] = rw none refl in
      record {
        bytes = t.bytes;
        held = at_end old now t.bytes t.consumed (p.at_end none room);
        consumed =
            subst (Consumes old now') (ap (λ l. t.bytes ++ l) no_bytes ∙ append-nil t.bytes)
            (Consumes-trans old now now' t.bytes (take n page) t.consumed p.taken);
        within = omega arith;
        ended = t.goes.ended;
        pieces = took_lines h t;
        short = begun;
        takes = t.goes.takes;
      }

  -- a read fails, or none is left
  pub took_stopped : (longest : ℕ) → (settled : V → Type 0)
      → {v w : V} {line : List ℕ} {o : Bool} {old now : Option (List ℕ)} {limit reads size : ℕ}
      → Uncut 10 qs false line o → length line ≤ longest → Took qs taken v w line old now limit reads size → settled w
      → (fails : Type 0) (now' : Option (List ℕ)) → (reads ≡ 0) ⊎ fails → Keeps now now'
      → StopsReading qs longest taken settled v w old now' fails limit size
  took_stopped longest settled {v} {w} {line} {o} {old} {now} {limit} {reads}
      {size} h begun t settles fails now' why kept =
      let (rest, held) = all_bytes old now t.bytes t.consumed in
      let counted : limit ≤ reads + length t.bytes = t.counted in
      let short : length t.bytes + reads * size ≤ limit * size = t.short in
      let parts : length (t.bytes ++ rest) ≡ length t.bytes + length rest = length-append t.bytes rest in
      record {
        part = t.bytes;
        rest = rest;
        held = held;
        why = elim why [ inl none ↦ inr (omega arith) | inr f ↦ inl f ];
        consumed = Consumes-kept old now now' t.bytes t.consumed kept;
        within = omega (arith, short);
        ended = t.goes.ended;
        last = (line, o);
        rows = took_lines h t;
        short = begun;
        takes = t.goes.takes;
        settles = settles;
      }

  -- a line is refused after so many bytes more
  pub took_refused : (longest : ℕ) → (refused : V → List Piece → V → RunError → Type 0) (settled : V → Type 0)
      → {v w w' : V} {e : RunError} {line : List ℕ} {o : Bool} {old now : Option (List ℕ)} {limit reads size : ℕ}
      → Uncut 10 qs false line o → length line ≤ longest
      → Took qs taken v w line old now limit reads size → settled w → (now' : Option (List ℕ)) (page : List ℕ) (n : ℕ)
      → Pulls now now' page n → n ≤ size → 0 < reads
      → ((rest : List ℕ) → refused w (rows_of qs (line ++ (take n page ++ rest))) w' e)
      → (rows_in : List ℕ → List Piece) → Completes qs rows_in
      → StopsTaking qs rows_in longest taken refused settled v w' e old now' limit size
  took_refused longest refused settled {v} {w} {w'} {e} {line} {o} {old} {now} {limit} {reads}
      {size} h begun t settles now' page n p fits some refuses rows_in completes =
      let front = take n page in
      let told : Consumes old now' (t.bytes ++ front) = Consumes-trans old now now' t.bytes front t.consumed p.taken in
      let (rest, held) = all_bytes old now' (t.bytes ++ front) told in
      let short : length t.bytes + reads * size ≤ limit * size = t.short in
      let one : size ≤ reads * size = one_at_least reads size some in
      let parts : length (t.bytes ++ front) ≡ length t.bytes + length front = length-append t.bytes front in
      let after : (more : List ℕ) → RefusesAfter rows_in refused w w' e t.goes.ended (t.bytes ++ front ++ more) =
      λ more. (
      let (others, is) = completes (t.bytes ++ front ++ more) in
      let pieces : pieces_of qs (t.bytes ++ front ++ (more ++ others))
      ≡ t.goes.ended ++ pieces_of qs (line ++ (front ++ (more ++ others))) =
      ap (pieces_of qs) (append_assoc t.bytes front (more ++ others)) ∙ t.goes.rows (front ++ (more ++ others)) in
      record {
        later = rows_of qs (line ++ (front ++ (more ++ others)));
        rows =
            is ∙ ap (rows_of qs) (append_assoc (t.bytes ++ front) more others)
            ∙ rows_go qs (t.bytes ++ front ++ (more ++ others))
            (line ++ (front ++ (more ++ others))) t.goes.ended pieces;
        refuses = refuses (more ++ others);
      }) in
      record {
        part = t.bytes;
        last = front;
        rest = rest;
        held = held;
        consumed = told;
        short = omega (arith, length-take {A = ℕ});
        within = omega (arith, length-take {A = ℕ});
        ended = t.goes.ended;
        unended = (line, o);
        rows = took_lines h t;
        begun = begun;
        mid = w;
        takes = t.goes.takes;
        settles = settles;
        refuses = after rest;
        known = inr after;
      }
