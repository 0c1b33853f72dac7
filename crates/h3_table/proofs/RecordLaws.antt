-- What was reached of a file's records are the first of all its records
use Rattle.std.proofs.Common.{◌≡◌, ◌≤◌, ◌+◌, ◌-◌, ℕ, zero, suc, Bool, true, false, if◌then◌else◌, Option, Some, None, List, [], ◌∷◌, ◌++◌, length, refl, arith, ◌∙◌, ap}
use Rattle.csv.specs.Machine.{Read, next_record, step, is_end, fields_after, field_after, ends_at_end}
use Rattle.csv.specs.Reading.{Reached, records_from, default_config, strip_bom}
use Rattle.csv.specs.declared.parser.Config.{Config}
use Rattle.csv.specs.declared.parser.State.{State}
use Rattle.csv.specs.declared.parser.State.TheVariants as st
use Rattle.h3_table.specs.Fields.{Record, records_of}

-- a record takes a byte of what is left
shorter_if : (b : Bool) (o : Option Read) (r q : Read) (n : ℕ) → length r.2 ≤ n → (o ≡ Some q → length q.2 ≤ n)
    → (if b then Some r else o) ≡ Some q → length q.2 ≤ n
shorter_if true o r q n h k e =
    let same : r ≡ q = cc in let f : length r.2 ≡ length q.2 = ap (λ (x : Read). length x.2) same in omega arith
shorter_if false o r q n h k e = k e

at_end : (b : Bool) (r q : Read) → r.2 ≡ [] → (if b then Some r else None) ≡ Some q → length q.2 ≤ 0
at_end true r q h e =
    let same : r ≡ q = cc in
    let f : length r.2 ≡ length q.2 = ap (λ (x : Read). length x.2) same in
    let g : length r.2 ≡ 0 = ap (λ (x : List ℕ). length x) h in omega arith
at_end false r q h e = cc e

pub next-shorter : (cfg : Config) (rest : List ℕ) (s : State) (fields : List (List ℕ)) (field : List ℕ) (c : ℕ)
    (q : Read)
    → next_record cfg s fields field (c ∷ rest) ≡ Some q → length q.2 ≤ length rest
unfolding next_record
next-shorter cfg [] s fields field c q e =
    shorter_if (is_end (step cfg s c).1) _ _ q 0 (omega arith) (at_end (ends_at_end (step cfg s c).0) _ q refl) e
next-shorter cfg (d ∷ rest) s fields field c q e =
    shorter_if (is_end (step cfg s c).1) _ _ q (length (d ∷ rest)) (omega arith)
    (λ (k : next_record cfg (step cfg s c).0 (fields_after (step cfg s c).1 fields field)
    (field_after (step cfg s c).1 c field) (d ∷ rest)
    ≡ Some q).
    let h =
    next-shorter cfg rest (step cfg s c).0 (fields_after (step cfg s c).1 fields field)
    (field_after (step cfg s c).1 c field) d q k in
    omega arith) e

-- what the end of a text leaves
left_at_end : (b : Bool) (r q : Read) → (if b then Some r else None) ≡ Some q → r ≡ q
left_at_end true r q e = cc
left_at_end false r q e = cc e

-- nothing comes after the end
pub reached-end : (cfg : Config) (rows : List Record) (s2 : State) (ys : List ℕ)
    → Reached cfg st.StartRecord [] rows s2 ys → rows ≡ []
unfolding Reached next_record
reached-end cfg [] s2 ys h = refl
reached-end cfg (r ∷ rs) s2 ys h = cc h.1

-- there are no more records than bytes, but for one at the end
pub reached-few : (cfg : Config) (rows : List Record) (s s2 : State) (xs ys : List ℕ) → Reached cfg s xs rows s2 ys
    → length rows ≤ length xs + 1
unfolding Reached
reached-few cfg [] s s2 xs ys h = omega arith
reached-few cfg (r ∷ rs) s s2 [] ys h =
    let same : (([] ++ ([] ∷ []), st.StartRecord, []) ≡ h.0) = unfold next_record in
    left_at_end (ends_at_end s) _ h.0 h.1 in
    let e : rs ≡ [] = reached-end cfg rs s2 ys (rw (← same) at h.3) in
    let f : length rs ≡ 0 = ap (λ (x : List Record). length x) e in omega arith
reached-few cfg (r ∷ rs) s s2 (c ∷ rest) ys h =
    let short = next-shorter cfg rest s [] [] c h.0 h.1 in
    let more = reached-few cfg rs h.0.1 s2 h.0.2 ys h.3 in omega arith

-- the records from a place on: those reached, and those from there on
pub reached-front : (cfg : Config) (rows : List Record) (n : ℕ) (s s2 : State) (xs ys : List ℕ)
    → Reached cfg s xs rows s2 ys
    → records_from cfg (n + length rows) s xs ≡ rows ++ records_from cfg n s2 ys
unfolding Reached records_from
reached-front cfg [] n s s2 xs ys h = let e : n + 0 ≡ n = omega arith in rw (h.0, h.1, e) refl
reached-front cfg (r ∷ rs) n s s2 xs ys h =
    let ih = reached-front cfg rs n h.0.1 s2 h.0.2 ys h.3 in
    let e : n + suc (length rs) ≡ suc (n + length rs) = omega arith in
    rw (e, h.1, ih, h.2) refl

-- all records: those reached, and the others
pub all-front : (text : List ℕ) (rows : List Record) (s2 : State) (ys : List ℕ)
    → Reached default_config st.StartRecord (strip_bom text) rows s2 ys
    → records_of text ≡ rows ++ records_from default_config (length (strip_bom text) + 1 - length rows) s2 ys
all-front text rows s2 ys h =
    let few = reached-few default_config rows st.StartRecord s2 (strip_bom text) ys h in
    let e : length (strip_bom text) + 1 ≡ (length (strip_bom text) + 1 - length rows) + length rows = omega arith in
    ap (λ (n : ℕ). records_from default_config n st.StartRecord (strip_bom text)) e
    ∙ reached-front default_config rows (length (strip_bom text) + 1 - length rows) st.StartRecord s2 (strip_bom text)
    ys h

pub none-after : (cfg : Config) (n : ℕ) (s : State) (ys : List ℕ) → next_record cfg s [] [] ys ≡ None
    → records_from cfg n s ys ≡ []
unfolding records_from
none-after cfg zero s ys e = refl
none-after cfg (suc n) s ys e = rw e refl
