-- Lists one after another, one list more at a time.
use Rattle.std.proofs.Common.{◌≡◌, ℕ, ℤ, zero, suc, ◌+◌, ◌-◌, ◌<◌, ◌≤◌, List, [], ◌∷◌, ◌++◌, length, map, take, drop, slice_set, slice_index_or, nat_le, append_assoc, append-nil, true, false, is_err, Result, Ok, Err, Option, None, Some, refl, ap, sym, ◌∙◌, arith}
use Rattle.std.proofs.lemmas.Bool.{le-leb, leb-false, leb-true, lt-leb}
use Rattle.std.proofs.lemmas.Option.{none-some}
use Rattle.std.proofs.lemmas.List.{length-append, length-map, map-append}
use Rattle.std.specs.Prelude.{Bool, if◌then◌else◌, slice_index, slice_range, unsigned_abs, unwrap_or}
use Rattle.std.specs.Result.{result_unwrap_or}
use Rattle.h3_index.specs.Cell.{Address, number_of, resolution}
use Rattle.h3_index.specs.Descendants.{descendants}
use Rattle.h3_index.specs.declared.error.H3Error.{H3Error}
use Rattle.h3_tree.specs.Refusals.{descent_refusal}
use Rattle.h3_functions.specs.Hierarchy.{cell_to_children, cell_to_children_size, unless}
use Rattle.h3_functions.specs.Inspection.{cell_from, for_value}
use Rattle.h3_c.specs.Lists.{count_of, indexes, laid_over}
use Rattle.h3_c.specs.Starts.{StandAtStarts, all_children, child_sizes, fitting, sizes_of, starts_from}
use Rattle.h3_c.proofs.Columns.{length-up_to, up_to-next, whole}
use Rattle.h3_c.proofs.Laid.{indexes-full, indexes-snoc, laid_over-snoc}

-- ---- sizes

unfoldable pub total : List ℕ → ℕ
total [] = 0
total (n ∷ ns) = n + total ns

pub total-nil : total [] ≡ 0
unfolding total
total-nil = refl

pub total-snoc : (ns : List ℕ) (n : ℕ) → total (ns ++ n ∷ []) ≡ total ns + n
unfolding total
total-snoc [] n = omega arith
total-snoc (m ∷ ns) n = omega (arith, total-snoc ns n)

pub sizes-next : (f : ℕ → Result ℕ H3Error) (hs : List ℕ) (i : ℕ) (r : Result ℕ H3Error) → i < length hs
    → r ≡ f (slice_index_or hs i 0)
    → sizes_of (map f (take (i + 1) hs)) ≡ sizes_of (map f (take i hs)) ++ result_unwrap_or r 0 ∷ []
sizes-next f hs i r room is =
    ap sizes_of (up_to-next f hs i r room is) ∙ map-append (λ q. result_unwrap_or q 0) (map f (take i hs)) (r ∷ [])

pub length-sizes : (f : ℕ → Result ℕ H3Error) (hs : List ℕ) (i : ℕ) → i ≤ length hs
    → length (sizes_of (map f (take i hs))) ≡ i
length-sizes f hs i room = length-map (map f (take i hs)) (λ q. result_unwrap_or q 0) ∙ length-up_to f hs i room

pub length-all_sizes : (f : ℕ → Result ℕ H3Error) (hs : List ℕ) → length (sizes_of (map f hs)) ≡ length hs
length-all_sizes f hs = length-map (map f hs) (λ q. result_unwrap_or q 0) ∙ length-map hs f

-- the sizes before an index, its own, and those after
pub sizes-split : (f : ℕ → Result ℕ H3Error) (hs : List ℕ) (i : ℕ) → i < length hs
    → sizes_of (map f hs)
    ≡ sizes_of (map f (take i hs)) ++ result_unwrap_or (f (slice_index_or hs i 0)) 0
    ∷ sizes_of (map f (drop (suc i) hs))
sizes-split f [] i room = absurd (omega (arith, room))
sizes-split f (h ∷ hs) zero room = refl
sizes-split f (h ∷ hs) (suc i) room = ap (λ l. result_unwrap_or (f h) 0 ∷ l) (sizes-split f hs i (omega (arith, room)))

-- ---- those that have room

pub fitting-whole : (ns : List ℕ) (room : ℕ) → total ns ≤ room → fitting room ns ≡ length ns
unfolding total fitting
fitting-whole [] room fits = refl
fitting-whole (n ∷ ns) room fits =
    let here : nat_le n room ≡ true = le-leb n room (omega (arith, fits)) in
    rw here (ap suc (fitting-whole ns (room - n) (omega (arith, fits))))

pub fitting-stop : (ns more : List ℕ) (n room : ℕ) → total ns ≤ room → room < total ns + n
    → fitting room (ns ++ n ∷ more) ≡ length ns
unfolding total fitting
fitting-stop [] more n room fits full =
    let here : nat_le n room ≡ false = lt-leb n room (omega (arith, full)) in
    rw here refl
fitting-stop (m ∷ ns) more n room fits full =
    let here : nat_le m room ≡ true = le-leb m room (omega (arith, fits)) in
    rw here (ap suc (fitting-stop ns more n (room - m) (omega (arith, fits)) (omega (arith, fits, full))))

-- ---- the places where they begin

pub starts-snoc : (place : ℕ) (ns : List ℕ) (n : ℕ)
    → starts_from place (ns ++ n ∷ []) ≡ starts_from place ns ++ (place + total ns + n) ∷ []
unfolding total starts_from
starts-snoc place [] n =
    let same : place + n ≡ place + 0 + n = omega arith in
    ap (λ m. place ∷ m ∷ []) same
starts-snoc place (m ∷ ns) n =
    let same : place + m + total ns + n ≡ place + (m + total ns) + n = omega arith in
    ap (λ l. place ∷ l) (starts-snoc (place + m) ns n ∙ ap (λ k. starts_from (place + m) ns ++ k ∷ []) same)

pub length-starts : (place : ℕ) (ns : List ℕ) → length (starts_from place ns) ≡ suc (length ns)
unfolding starts_from
length-starts place [] = refl
length-starts place (n ∷ ns) = ap suc (length-starts (place + n) ns)

pub starts-before : (place : ℕ) (ns more : List ℕ)
    → take (suc (length ns)) (starts_from place (ns ++ more)) ≡ starts_from place ns
unfolding starts_from
starts-before place [] [] = refl
starts-before place [] (n ∷ more) = refl
starts-before place (n ∷ ns) more = ap (λ l. place ∷ l) (starts-before (place + n) ns more)

pub starts-whole : (place : ℕ) (ns : List ℕ) → take (suc (length ns)) (starts_from place ns) ≡ starts_from place ns
unfolding starts_from
starts-whole place [] = refl
starts-whole place (n ∷ ns) = ap (λ l. place ∷ l) (starts-whole (place + n) ns)

pub starts-first : (old : List ℕ) → 0 < length old → slice_set old 0 0 ≡ laid_over (starts_from 0 []) old
unfolding starts_from laid_over
starts-first [] room = absurd (omega (arith, room))
starts-first (x ∷ old) room = refl

pub starts-next : (ns : List ℕ) (n i end : ℕ) (old out : List ℕ) → length ns ≡ i → i + 1 < length old → end ≡ total ns
    → out ≡ laid_over (starts_from 0 ns) old
    → slice_set out (i + 1) (end + n) ≡ laid_over (starts_from 0 (ns ++ n ∷ [])) old
starts-next ns n i end old out long room is put =
    let place : 0 + total ns + n ≡ end + n = omega (arith, is) in
    let here : length (starts_from 0 ns) ≡ i + 1 = omega (arith, length-starts 0 ns, long) in
    ap (λ l. slice_set l (i + 1) (end + n)) put
    ∙ ap (λ m. slice_set (laid_over (starts_from 0 ns) old) m (end + n)) (sym here)
    ∙ sym (laid_over-snoc (starts_from 0 ns) old (end + n) (omega (arith, here, room)))
    ∙ ap (λ l. laid_over l old) (ap (λ m. starts_from 0 ns ++ m ∷ []) (sym place) ∙ sym (starts-snoc 0 ns n))

-- ---- where a list has no room, and where all have

pub stopped : (f : ℕ → Result ℕ H3Error) (hs : List ℕ) (i end size room : ℕ) → i < length hs
    → end ≡ total (sizes_of (map f (take i hs))) → end ≤ room
    → size ≡ result_unwrap_or (f (slice_index_or hs i 0)) 0 → room < end + size → fitting room (sizes_of (map f hs)) ≡ i
stopped f hs i end size room here is within own full =
    let long : length (sizes_of (map f (take i hs))) ≡ i = length-sizes f hs i (omega (arith, here)) in
    ap (fitting room) (sizes-split f hs i here)
    ∙ fitting-stop (sizes_of (map f (take i hs))) (sizes_of (map f (drop (suc i) hs)))
    (result_unwrap_or (f (slice_index_or hs i 0)) 0) room (omega (arith, is, within)) (omega (arith, is, own, full))
    ∙ long

pub stopped-starts : (f : ℕ → Result ℕ H3Error) (hs : List ℕ) (i fits : ℕ) → i < length hs → fits ≡ i
    → take (suc fits) (starts_from 0 (sizes_of (map f hs))) ≡ starts_from 0 (sizes_of (map f (take i hs)))
stopped-starts f hs i fits here is =
    let ns = sizes_of (map f (take i hs)) in
    let more = result_unwrap_or (f (slice_index_or hs i 0)) 0 ∷ sizes_of (map f (drop (suc i) hs)) in
    let long : fits ≡ length ns = is ∙ sym (length-sizes f hs i (omega (arith, here))) in
    ap (λ n. take (suc n) (starts_from 0 (sizes_of (map f hs)))) long
    ∙ ap (λ l. take (suc (length ns)) (starts_from 0 l)) (sizes-split f hs i here)
    ∙ starts-before 0 ns more

up_to-all : (f : ℕ → Result ℕ H3Error) (hs : List ℕ) (i : ℕ) → i ≡ length hs
    → sizes_of (map f (take i hs)) ≡ sizes_of (map f hs)
up_to-all f hs i end = ap (λ n. sizes_of (map f (take n hs))) end ∙ ap sizes_of (whole f hs)

pub ended : (f : ℕ → Result ℕ H3Error) (hs : List ℕ) (i end room : ℕ) → i ≡ length hs
    → end ≡ total (sizes_of (map f (take i hs))) → end ≤ room
    → fitting room (sizes_of (map f hs)) ≡ length hs
ended f hs i end room last is within =
    let same : total (sizes_of (map f (take i hs))) ≡ total (sizes_of (map f hs)) = ap total (up_to-all f hs i last) in
    fitting-whole (sizes_of (map f hs)) room (omega (arith, same, is, within)) ∙ length-all_sizes f hs

pub ended-starts : (f : ℕ → Result ℕ H3Error) (hs : List ℕ) (i fits : ℕ) → i ≡ length hs → fits ≡ length hs
    → take (suc fits) (starts_from 0 (sizes_of (map f hs))) ≡ starts_from 0 (sizes_of (map f (take i hs)))
ended-starts f hs i fits last is =
    ap (λ n. take (suc n) (starts_from 0 (sizes_of (map f hs)))) (is ∙ sym (length-all_sizes f hs))
    ∙ starts-whole 0 (sizes_of (map f hs))
    ∙ ap (starts_from 0) (sym (up_to-all f hs i last))

-- ---- cells from a place on

pub put-next : (before yielded : List Address) (c : Address) (first out : List ℕ) (i : ℕ)
    → i ≡ length before + length yielded → i < length first
    → out ≡ laid_over (indexes (before ++ yielded)) first
    → slice_set out i (number_of c) ≡ laid_over (indexes (before ++ (yielded ++ c ∷ []))) first
put-next before yielded c first out i is room put =
    let here : length (before ++ yielded) ≡ i = length-append before yielded ∙ sym is in
    ap (λ l. slice_set l i (number_of c)) put
    ∙ ap (λ m. slice_set (laid_over (indexes (before ++ yielded)) first) m (number_of c)) (sym here)
    ∙ sym (indexes-snoc (before ++ yielded) c first (omega (arith, here, room)))
    ∙ ap (λ l. laid_over (indexes l) first) (append_assoc before yielded (c ∷ []))

pub put-full : (before yielded more : List Address) (first : List ℕ) → length first ≤ length before + length yielded
    → laid_over (indexes (before ++ (yielded ++ more))) first ≡ laid_over (indexes (before ++ yielded)) first
put-full before yielded more first full =
    ap (λ l. laid_over (indexes l) first) (sym (append_assoc before yielded more))
    ∙ indexes-full (before ++ yielded) more first (omega (arith, length-append before yielded, full))

-- ---- the children of each index

sized : (r : Result Address H3Error) (res : ℤ) (o : Address → Option H3Error) (ds : Address → List Address)
    → for_value (λ c. unless (o c) (length (ds c))) r ≡ count_of (for_value (λ c. unless (o c) (ds c)) r)
sized (Err e) res o ds = refl
sized (Ok c) res o ds = by_refusal (o c)
  where
    by_refusal : (q : Option H3Error) → unless q (length (ds c)) ≡ count_of (unless q (ds c))
    by_refusal None = refl
    by_refusal (Some e) = refl

pub child_size : (h : ℕ) (res : ℤ) → cell_to_children_size h res ≡ count_of (cell_to_children h res)
child_size h res =
    sized (cell_from h) res (λ c. descent_refusal (resolution c) res) (λ c. descendants c (unsigned_abs res))

length-listed : (r : Result (List Address) H3Error) → length (result_unwrap_or r []) ≡ result_unwrap_or (count_of r) 0
length-listed (Ok cs) = refl
length-listed (Err e) = refl

pub length-own : (h : ℕ) (res : ℤ)
    → length (result_unwrap_or (cell_to_children h res) []) ≡ result_unwrap_or (cell_to_children_size h res) 0
length-own h res = length-listed (cell_to_children h res) ∙ ap (λ r. result_unwrap_or r 0) (sym (child_size h res))

pub length-children : (res : ℤ) (hs : List ℕ) → length (all_children res hs) ≡ total (sizes_of (child_sizes res hs))
unfolding total
length-children res [] = refl
length-children res (h ∷ hs) =
    length-append (result_unwrap_or (cell_to_children h res) []) (all_children res hs)
    ∙ ap (λ n. n + length (all_children res hs)) (length-own h res)
    ∙ ap (λ n. result_unwrap_or (cell_to_children_size h res) 0 + n) (length-children res hs)

-- those of one index more
children-one : (res : ℤ) (hs : List ℕ) (i : ℕ) → i < length hs
    → all_children res (take (suc i) hs)
    ≡ all_children res (take i hs) ++ result_unwrap_or (cell_to_children (slice_index_or hs i 0) res) []
children-one res [] i room = absurd (omega (arith, room))
children-one res (h ∷ hs) zero room = append-nil (result_unwrap_or (cell_to_children h res) [])
children-one res (h ∷ hs) (suc i) room =
    let own = result_unwrap_or (cell_to_children h res) [] in
    ap (λ l. own ++ l) (children-one res hs i (omega (arith, room)))
    ∙ sym (append_assoc own (all_children res (take i hs))
    (result_unwrap_or (cell_to_children (slice_index_or hs i 0) res) []))

pub children-next : (res : ℤ) (hs : List ℕ) (i : ℕ) → i < length hs
    → all_children res (take (i + 1) hs)
    ≡ all_children res (take i hs) ++ result_unwrap_or (cell_to_children (slice_index_or hs i 0) res) []
children-next res hs i room =
    let next : i + 1 ≡ suc i = omega arith in
    ap (λ n. all_children res (take n hs)) next ∙ children-one res hs i room

pub children-split : (res : ℤ) (hs : List ℕ) (i : ℕ) → i < length hs
    → all_children res hs
    ≡ (all_children res (take i hs) ++ result_unwrap_or (cell_to_children (slice_index_or hs i 0) res) [])
    ++ all_children res (drop (suc i) hs)
children-split res [] i room = absurd (omega (arith, room))
children-split res (h ∷ hs) zero room = refl
children-split res (h ∷ hs) (suc i) room =
    let own = result_unwrap_or (cell_to_children h res) [] in
    let here = result_unwrap_or (cell_to_children (slice_index_or hs i 0) res) [] in
    ap (λ l. own ++ l) (children-split res hs i (omega (arith, room)))
    ∙ sym (append_assoc own (all_children res (take i hs) ++ here) (all_children res (drop (suc i) hs)))
    ∙ ap (λ l. l ++ all_children res (drop (suc i) hs)) (sym (append_assoc own (all_children res (take i hs)) here))

is_err-counted : (r : Result (List Address) H3Error) → is_err r ≡ is_err (count_of r)
is_err-counted (Ok cs) = refl
is_err-counted (Err e) = refl

pub is_err-size : (h : ℕ) (res : ℤ) → is_err (cell_to_children h res) ≡ is_err (cell_to_children_size h res)
is_err-size h res = is_err-counted (cell_to_children h res) ∙ ap is_err (sym (child_size h res))

-- ---- the lists stand where they begin

pub take-front : {A : Type 0} (xs ys : List A) → take (length xs) (xs ++ ys) ≡ xs
take-front [] ys = refl
take-front (x ∷ xs) ys = ap (λ l. x ∷ l) (take-front xs ys)

pub drop-front : {A : Type 0} (xs ys : List A) → drop (length xs) (xs ++ ys) ≡ ys
drop-front [] ys = refl
drop-front (x ∷ xs) ys = drop-front xs ys

pub start-first : (place : ℕ) (ns : List ℕ) → slice_index (starts_from place ns) 0 ≡ place
unfolding starts_from
start-first place [] = refl
start-first place (n ∷ ns) = refl

-- those after a list that ends where the first begins
between : (res : ℤ) (hs : List ℕ) (before : List Address) (place i : ℕ) → length before ≡ place → i < length hs
    → slice_range (before ++ all_children res hs) (slice_index (starts_from place (sizes_of (child_sizes res hs))) i)
    (slice_index (starts_from place (sizes_of (child_sizes res hs))) (suc i))
    ≡ result_unwrap_or (cell_to_children (slice_index hs i) res) []
unfolding starts_from
between res [] before place i long room = absurd (omega (arith, room))
between res (h ∷ hs) before place zero long room =
    let own = result_unwrap_or (cell_to_children h res) [] in
    let size = result_unwrap_or (cell_to_children_size h res) 0 in
    let next : slice_index (starts_from (place + size) (sizes_of (child_sizes res hs))) 0 ≡ place + size =
    start-first (place + size) (sizes_of (child_sizes res hs)) in
    let many : place + size - place ≡ length own = omega (arith, length-own h res) in
    ap (λ n. take (n - place) (drop place (before ++ (own ++ all_children res hs)))) next
    ∙ ap (λ n. take n (drop place (before ++ (own ++ all_children res hs)))) many
    ∙ ap (λ n. take (length own) (drop n (before ++ (own ++ all_children res hs)))) (sym long)
    ∙ ap (λ l. take (length own) l) (drop-front before (own ++ all_children res hs))
    ∙ take-front own (all_children res hs)
between res (h ∷ hs) before place (suc i) long room =
    let own = result_unwrap_or (cell_to_children h res) [] in
    let size = result_unwrap_or (cell_to_children_size h res) 0 in
    let starts = starts_from (place + size) (sizes_of (child_sizes res hs)) in
    let on : length (before ++ own) ≡ place + size = omega (arith, length-append before own, long, length-own h res) in
    ap (λ l. slice_range l (slice_index starts i) (slice_index starts (suc i)))
    (sym (append_assoc before own (all_children res hs)))
    ∙ between res hs (before ++ own) (place + size) i on (omega (arith, room))

pub stand_at_starts : (res : ℤ) (hs : List ℕ) → StandAtStarts res hs
stand_at_starts res hs i room =
    let next : i + 1 ≡ suc i = omega arith in
    let starts = starts_from 0 (sizes_of (child_sizes res hs)) in
    ap (λ n. slice_range (all_children res hs) (slice_index starts i) (slice_index starts n)) next
    ∙ between res hs [] 0 i refl room

-- ---- the place after a list, or none where it has no room

pub has_room : (n room end : ℕ) → Some end ≡ (if nat_le n room then Some n else None) → (end ≡ n) × (n ≤ room)
has_room n room end is = by_test (nat_le n room) refl is
  where
    by_test : (b : Bool) → nat_le n room ≡ b → Some end ≡ (if b then Some n else None) → (end ≡ n) × (n ≤ room)
    by_test true fits is-2 = (ap (λ o. unwrap_or o 0) is-2, leb-true n room fits)
    by_test false fits is-2 = absurd (none-some end (sym is-2))

pub has_no_room : (n room : ℕ) → None ≡ (if nat_le n room then Some n else None) → room < n
has_no_room n room is = by_test (nat_le n room) refl is
  where
    by_test : (b : Bool) → nat_le n room ≡ b → None ≡ (if b then Some n else None) → room < n
    by_test true fits is-2 = absurd (none-some n is-2)
    by_test false fits is-2 = leb-false n room fits
