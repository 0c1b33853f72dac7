-- The cells with indexes of a list.
use Rattle.std.proofs.Common.{◌≡◌, ◌≢◌, ℕ, zero, suc, ◌<◌, List, [], ◌∷◌, ◌++◌, length, take, slice_index_or, Option, None, Some, unwrap_or, refl, sym, ap, ◌∙◌, arith, rules}
use Rattle.h3_index.specs.Cell.{Address}
use Rattle.h3_index.specs.CellNumber.{cell_in}
use Rattle.h3_c.specs.Sets.{cells_in, joined}

joined-some : (o : Option Address) (r : Option (List Address)) (cs : List Address) → joined o r ≡ Some cs
    → (c : Address) × (ds : List Address) × (o ≡ Some c) × (r ≡ Some ds) × (c ∷ ds ≡ cs)
joined-some (Some c) (Some ds) cs e = (c, ds, refl, refl, ap (λ o. unwrap_or o []) e)
joined-some None r cs e = absurd (search (rules, e))
joined-some (Some c) None cs e = absurd (search (rules, e))

joined-none : (o : Option Address) → joined o None ≡ None
joined-none None = refl
joined-none (Some c) = refl

-- where both are there
pub some-joined : (o : Option Address) (r : Option (List Address)) → joined o r ≢ None
    → (c : Address) × (o ≡ Some c) × (r ≢ None)
some-joined (Some c) (Some ds) some = (c, refl, λ e. search (rules, e))
some-joined None r some = absurd (some refl)
some-joined (Some c) None some = absurd (some refl)

both_there : (o : Option Address) (r : Option (List Address)) (c : Address) → o ≡ Some c → r ≢ None → joined o r ≢ None
both_there (Some d) (Some ds) c is some = λ e. search (rules, e)
both_there None r c is some = λ e. search (rules, is)
both_there (Some d) None c is some = absurd (some refl)

-- one more
pub cells_in-snoc : (hs : List ℕ) (i : ℕ) (cs : List Address) (c : Address) → i < length hs
    → cells_in (take i hs) ≡ Some cs → cell_in (slice_index_or hs i 0) ≡ Some c
    → cells_in (take (suc i) hs) ≡ Some (cs ++ c ∷ [])
unfolding cells_in
cells_in-snoc [] i cs c room before here = absurd (omega (arith, room))
cells_in-snoc (h ∷ hs) zero cs c room before here =
    let none : [] ≡ cs = ap (λ o. unwrap_or o []) before in rw (here, sym none) refl
cells_in-snoc (h ∷ hs) (suc i) cs c room before here =
    let (d, ds, o, r, e) = joined-some (cell_in h) (cells_in (take i hs)) cs before in
    let rest = cells_in-snoc hs i ds c (omega (arith, room)) r here in
    let whole : joined (cell_in h) (cells_in (take (suc i) hs)) ≡ Some (cs ++ c ∷ []) =
    ap (λ z. joined z (cells_in (take (suc i) hs))) o ∙ ap (λ l. joined (Some d) l) rest
    ∙ ap (λ l. Some (l ++ c ∷ [])) e in
    whole

-- no cell
pub cells_in-none : (hs : List ℕ) (i : ℕ) → i < length hs → cell_in (slice_index_or hs i 0) ≡ None → cells_in hs ≡ None
unfolding cells_in
cells_in-none [] i room here = absurd (omega (arith, room))
cells_in-none (h ∷ hs) zero room here = rw here refl
cells_in-none (h ∷ hs) (suc i) room here = rw (cells_in-none hs i (omega (arith, room)) here) (joined-none (cell_in h))

-- as many cells as indexes
pub cells_in-length : (hs : List ℕ) (cs : List Address) → cells_in hs ≡ Some cs → length cs ≡ length hs
unfolding cells_in
cells_in-length [] cs read = let none : [] ≡ cs = ap (λ o. unwrap_or o []) read in ap length (sym none)
cells_in-length (h ∷ hs) cs read =
    let (d, ds, o, r, e) = joined-some (cell_in h) (cells_in hs) cs read in
    ap length (sym e) ∙ ap suc (cells_in-length hs ds r)

-- one more, where the others are there
pub some-snoc : (hs : List ℕ) (i : ℕ) (c : Address) → i < length hs → cells_in (take i hs) ≢ None
    → cell_in (slice_index_or hs i 0) ≡ Some c → cells_in (take (suc i) hs) ≢ None
unfolding cells_in
some-snoc [] i c room before here = absurd (omega (arith, room))
some-snoc (h ∷ hs) zero c room before here = rw here (λ e. search (rules, e))
some-snoc (h ∷ hs) (suc i) c room before here =
    let (d, is, rest) = some-joined (cell_in h) (cells_in (take i hs)) before in
    let more = some-snoc hs i c (omega (arith, room)) rest here in
    both_there (cell_in h) (cells_in (take (suc i) hs)) d is more
