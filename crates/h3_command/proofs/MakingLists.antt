-- Lists that are made in the place of their cells.
use Rattle.std.proofs.Common.{◌≡◌, ◌≢◌, ℕ, ◌+◌, ◌-◌, ◌<◌, ◌≤◌, List, ◌++◌, get_or, length, set, take, drop, Result, Ok, inl, inr, sym, ap, ◌∙◌, refl, subst, arith, length-append}
use Rattle.std.proofs.lemmas.Bool.{cases_eq}
use Rattle.std.proofs.lemmas.List.{drop_at, drop-take, get_or-set_other, get_or-set_same, length-drop, length-set, length-take-le, take-append-le}
use Rattle.std.proofs.lemmas.Slice.{drop-put_mid, take-put_mid_below}
use borrow.Rule.Slice.PartMut.{put_mid}
use Rattle.h3_index.specs.Cell.{Address}
use Rattle.h3_index.specs.declared.error.H3Error.{H3Error}
use Rattle.h3_command.specs.ByValue.{AreApart, part_of}

-- the lists of the first k parts are made
pub record IsMaking (list_of : List Address → Result (List Address) H3Error) (listed : List Address → List Address)
    (ready : List Address → Type 0) (old : List Address) (begun : List (ℕ × ℕ)) (cells : List Address)
    (parts : List (ℕ × ℕ)) (k : ℕ) : Type 0 where
  pub all : length cells ≡ length old
  pub apart : AreApart (length begun) (length cells) parts
  pub made : (n : ℕ) → n < k
      → list_of (part_of old (get_or begun n (0, 0))) ≡ Ok (listed (part_of cells (get_or parts n (0, 0))))
  pub set : (n : ℕ) → n < k → ready (part_of cells (get_or parts n (0, 0)))
  pub left : (n : ℕ) → k ≤ n → get_or parts n (0, 0) ≡ get_or begun n (0, 0)
  pub kept : (n : ℕ) → k ≤ n → n < length begun
      → part_of cells (get_or begun n (0, 0)) ≡ part_of old (get_or begun n (0, 0))

-- ---- a part that is written over another

-- what is before it
part_below : (xs ys : List Address) (a e : ℕ) (p : ℕ × ℕ) → p.1 ≤ a → p.0 ≤ p.1 → a ≤ length xs
    → part_of (put_mid a (e - a) xs ys) p ≡ part_of xs p
part_below xs ys a e p below order room =
    let f : p.0 + (p.1 - p.0) ≡ p.1 = omega (arith, order) in
    let same : take (p.0 + (p.1 - p.0)) (put_mid a (e - a) xs ys) ≡ take (p.0 + (p.1 - p.0)) xs =
    take-put_mid_below a (e - a) xs ys (p.0 + (p.1 - p.0)) (omega (arith, f, below)) room in
    sym (drop-take p.0 (p.1 - p.0) (put_mid a (e - a) xs ys)) ∙ ap (drop p.0) same ∙ drop-take p.0 (p.1 - p.0) xs

-- what is after it
pub part_above : (xs ys : List Address) (a e : ℕ) (p : ℕ × ℕ) → e ≤ p.0 → a ≤ e → a ≤ length xs → length ys ≡ e - a
    → part_of (put_mid a (e - a) xs ys) p ≡ part_of xs p
part_above xs ys a e p above order room same =
    ap (take (p.1 - p.0)) (drop-put_mid a (e - a) xs ys p.0 (omega (arith, above, order)) room same)

-- the beginning of it
part_own : (xs ys : List Address) (a e n : ℕ) → a ≤ length xs → n ≤ length ys → part_of (put_mid a (e - a) xs ys) (
  a,
  a + n,
) ≡ take n ys
part_own xs ys a e n room fewer =
    let f : (a + n) - a ≡ n = omega arith in
    let rest = drop (e - a) (drop a xs) in
    let here : drop a (put_mid a (e - a) xs ys) ≡ ys ++ rest =
    drop_at (take a xs) (ys ++ rest) a (length-take-le a xs room) in
    ap (λ m. take m (drop a (put_mid a (e - a) xs ys))) f ∙ ap (take n) here ∙ take-append-le n ys rest fewer

module _ (list_of : List Address → Result (List Address) H3Error) (listed : List Address → List Address)
    (ready : List Address → Type 0)
    (old : List Address) (begun : List (ℕ × ℕ)) where
  pub making_begins : AreApart (length begun) (length old) begun → IsMaking list_of listed ready old begun old begun 0
  making_begins apart = record {
    all = refl;
    apart = apart;
    made = λ n lt. absurd (omega (arith, lt));
    set = λ n lt. absurd (omega (arith, lt));
    left = λ n le. refl;
    kept = λ n le lt. refl;
  }

  module _ (cells : List Address) (parts : List (ℕ × ℕ)) (k : ℕ) (lt : k < length begun)
      (inv : IsMaking list_of listed ready old begun cells parts k) where
    -- the cells of the next part are still its own
    pub own_cells : part_of cells (get_or parts k (0, 0)) ≡ part_of old (get_or begun k (0, 0))
    own_cells = ap (part_of cells) (inv.left k (omega arith)) ∙ inv.kept k (omega arith) lt

    pub one_made : (own : List Address) (count : ℕ) → length own ≡ (get_or parts k (0, 0)).1 - (get_or parts k (0, 0)).0
        → count ≤ length own
        → list_of (part_of cells (get_or parts k (0, 0))) ≡ Ok (listed (take count own)) → ready (take count own)
        → IsMaking list_of listed ready old begun
        (put_mid (get_or parts k (0, 0)).0 ((get_or parts k (0, 0)).1 - (get_or parts k (0, 0)).0) cells own)
        (set parts k ((get_or parts k (0, 0)).0, (get_or parts k (0, 0)).0 + count)) (k + 1)
    one_made own count long fewer is held =
        let a = (get_or parts k (0, 0)).0 in
        let e = (get_or parts k (0, 0)).1 in
        let new = put_mid a (e - a) cells own in
        let more : ℕ × ℕ = (a, a + count) in
        let order : a ≤ e = inv.apart.ordered k lt in
        let within : e ≤ length cells = inv.apart.within k lt in
        let room : a ≤ length cells = omega (arith, order, within) in
        let there : k < length parts = omega (arith, lt, inv.apart.size_is) in
        let size : length new ≡ length cells =
        omega (
          arith,
          length-append (take a cells) (own ++ drop (e - a) (drop a cells)),
          length-append own
              (drop (e - a) (drop a cells)),
          length-take-le a cells room,
          length-drop (e - a) (drop a cells),
          length-drop
              a cells,
          long,
          order,
          within,
        ) in
        let at_k : get_or (set parts k more) k (0, 0) ≡ more = get_or-set_same parts k more (0, 0) there in
        let other : (n : ℕ) → n ≢ k → get_or (set parts k more) n (0, 0) ≡ get_or parts n (0, 0) =
        λ n ne. get_or-set_other parts k n more (0, 0) ne in
        let own_part : part_of new more ≡ take count own = part_own cells own a e count room fewer in
        let below : (n : ℕ) → n < k → part_of new (get_or parts n (0, 0)) ≡ part_of cells (get_or parts n (0, 0)) =
        λ n ln. part_below cells own a e (get_or parts n (0, 0)) (inv.apart.apart n k ln lt)
        (inv.apart.ordered n (omega (arith, ln, lt))) room in
        record {
          all = size ∙ inv.all;
          apart = record {
            size_is = length-set parts k more ∙ inv.apart.size_is;
            ordered = λ n ln. elim (cases_eq n k) [
              | inl q ↦
                  subst (λ (p : ℕ × ℕ). p.0 ≤ p.1) (sym (ap (λ m. get_or (set parts k more) m (0, 0)) q ∙ at_k))
                  (omega arith)
              | inr ne ↦ subst (λ (p : ℕ × ℕ). p.0 ≤ p.1) (sym (other n ne)) (inv.apart.ordered n ln)
            ];
            within = λ n ln. elim (cases_eq n k) [
              | inl q ↦
                  subst (λ (p : ℕ × ℕ). p.1 ≤ length new) (sym (ap (λ m. get_or (set parts k more) m (0, 0)) q ∙ at_k))
                  (omega (arith, size, within, long, fewer, order))
              | inr ne ↦
                  subst (λ (p : ℕ × ℕ). p.1 ≤ length new) (sym (other n ne))
                  (omega (arith, size, inv.apart.within n ln))
            ];
            apart = λ m n lm ln.
                let first : (get_or (set parts k more) m (0, 0)).1 ≤ (get_or parts m (0, 0)).1 = elim (cases_eq m k) [
                  | inl q ↦
                      subst (λ j. (get_or (set parts k more) j (0, 0)).1 ≤ (get_or parts j (0, 0)).1) (sym q)
                      (subst (λ (p : ℕ × ℕ). p.1 ≤ e) (sym at_k) (omega (arith, long, fewer, order)))
                  | inr ne ↦ subst (λ (p : ℕ × ℕ). p.1 ≤ (get_or parts m (0, 0)).1) (sym (other m ne)) (omega arith)
                ] in
                let second : (get_or (set parts k more) n (0, 0)).0 ≡ (get_or parts n (0, 0)).0 = elim (cases_eq n k) [
                  | inl q ↦
                      subst (λ j. (get_or (set parts k more) j (0, 0)).0 ≡ (get_or parts j (0, 0)).0) (sym q)
                      (ap (λ (p : ℕ × ℕ). p.0) at_k)
                  | inr ne ↦ ap (λ (p : ℕ × ℕ). p.0) (other n ne)
                ] in
                omega (arith, first, second, inv.apart.apart m n lm ln);
          };
          made = λ n ln. elim (cases_eq n k) [
            | inl q ↦
                subst (λ j. list_of (part_of old (get_or begun j (0, 0)))
                ≡ Ok (listed (part_of new (get_or (set parts k more) j (0, 0))))) (sym q)
                (ap list_of (sym own_cells) ∙ is ∙ ap (λ l. Ok (listed l)) (sym (ap (part_of new) at_k ∙ own_part)))
            | inr ne ↦
                let lk : n < k = omega (arith, ln, ne) in
                inv.made n lk ∙ ap (λ l. Ok (listed l)) (sym (ap (part_of new) (other n ne) ∙ below n lk))
          ];
          set = λ n ln. elim (cases_eq n k) [
            | inl q ↦
                subst (λ j. ready (part_of new (get_or (set parts k more) j (0, 0)))) (sym q)
                (subst ready (sym (ap (part_of new) at_k ∙ own_part)) held)
            | inr ne ↦
                let lk : n < k = omega (arith, ln, ne) in
                subst ready (sym (ap (part_of new) (other n ne) ∙ below n lk)) (inv.set n lk)
          ];
          left = λ n le. other n (λ q. omega (arith, le, q)) ∙ inv.left n (omega (arith, le));
          kept = λ n le ln.
              let lk : k < n = omega (arith, le) in
              let after : e ≤ (get_or begun n (0, 0)).0 =
              omega (arith, inv.apart.apart k n lk ln, ap (λ (p : ℕ × ℕ). p.0) (inv.left n (omega (arith, le)))) in
              part_above cells own a e (get_or begun n (0, 0)) after order room long
              ∙ inv.kept n (omega (arith, le)) ln;
        }
