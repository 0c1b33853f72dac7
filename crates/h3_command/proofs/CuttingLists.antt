-- Lists that are made one behind another.
use Rattle.std.proofs.Common.{◌≡◌, ◌≢◌, ℕ, ◌+◌, ◌-◌, ◌<◌, ◌≤◌, List, [], ◌++◌, get_or, length, set, take, drop, inl, inr, sym, ap, ◌∙◌, refl, subst, arith, length-append}
use Rattle.std.proofs.lemmas.Bool.{cases_eq}
use Rattle.std.proofs.lemmas.List.{drop_at, drop-take, get_or-set_other, get_or-set_same, length-drop, length-set, length-take-le, take-append-le, take_all}
use borrow.Rule.Slice.PartMut.{put_mid}
use Rattle.h3_index.specs.Cell.{Address}
use Rattle.h3_command.specs.ByValue.{AreApart, part_of}
use Rattle.h3_command.specs.Combination.{AreCut, IsCut, IsCutBehind}
use Rattle.h3_command.specs.declared.files.Combination.{Combination}
use Rattle.h3_command.proofs.MakingLists.{part_above}

-- the lists of the first k parts are made
pub record IsCutting (kind : Combination) (region old : List Address) (begun : List (ℕ × ℕ)) (cells : List Address)
    (parts : List (ℕ × ℕ)) (made : List Address) (k : ℕ) : Type 0 where
  pub all : length cells ≡ length old
  pub size_is : length parts ≡ length begun
  pub ordered : (n : ℕ) → n < k → (get_or parts n (0, 0)).0 ≤ (get_or parts n (0, 0)).1
  pub within : (n : ℕ) → n < k → (get_or parts n (0, 0)).1 ≤ length made
  pub apart : (m n : ℕ) → m < n → n < k → (get_or parts m (0, 0)).1 ≤ (get_or parts n (0, 0)).0
  pub cut : (n : ℕ) → n < k → IsCut kind region (part_of old (get_or begun n (0, 0)))
      (part_of made (get_or parts n (0, 0)))
  pub left : (n : ℕ) → k ≤ n → get_or parts n (0, 0) ≡ get_or begun n (0, 0)
  pub kept : (n : ℕ) → k ≤ n → n < length begun
      → part_of cells (get_or begun n (0, 0)) ≡ part_of old (get_or begun n (0, 0))

-- a part of the first list of two
part_front : (xs ys : List Address) (p : ℕ × ℕ) → p.0 ≤ p.1 → p.1 ≤ length xs → part_of (xs ++ ys) p ≡ part_of xs p
part_front xs ys p order within =
    let f : p.0 + (p.1 - p.0) ≡ p.1 = omega (arith, order) in
    sym (drop-take p.0 (p.1 - p.0) (xs ++ ys))
    ∙ ap (drop p.0) (take-append-le (p.0 + (p.1 - p.0)) xs ys (omega (arith, f, within)))
    ∙ drop-take p.0 (p.1 - p.0) xs

-- the second list of two
part_behind : (xs ys : List Address) → part_of (xs ++ ys) (length xs, length (xs ++ ys)) ≡ ys
part_behind xs ys =
    ap (take (length (xs ++ ys) - length xs)) (drop_at xs ys (length xs) refl)
    ∙ take_all (length (xs ++ ys) - length xs) ys (omega (arith, length-append xs ys))

module _ (kind : Combination) (region old : List Address) (begun : List (ℕ × ℕ)) where
  pub cutting_begins : IsCutting kind region old begun old begun [] 0
  cutting_begins = record {
    all = refl;
    size_is = refl;
    ordered = λ n lt. absurd (omega (arith, lt));
    within = λ n lt. absurd (omega (arith, lt));
    apart = λ m n lm lt. absurd (omega (arith, lt));
    cut = λ n lt. absurd (omega (arith, lt));
    left = λ n le. refl;
    kept = λ n le lt. refl;
  }

  module _ (cells : List Address) (parts : List (ℕ × ℕ)) (made : List Address) (k : ℕ) (lt : k < length begun)
      (begins : AreApart (length begun) (length old) begun) (inv : IsCutting kind region old begun cells parts made k)
    where
      -- the next part is still as it was
      pub next_part : get_or parts k (0, 0) ≡ get_or begun k (0, 0)
      next_part = inv.left k (omega arith)

      pub next_ordered : (get_or parts k (0, 0)).0 ≤ (get_or parts k (0, 0)).1
      next_ordered = subst (λ (p : ℕ × ℕ). p.0 ≤ p.1) (sym next_part) (begins.ordered k lt)

      pub next_within : (get_or parts k (0, 0)).1 ≤ length cells
      next_within =
          subst (λ (p : ℕ × ℕ). p.1 ≤ length cells) (sym next_part) (omega (arith, begins.within k lt, inv.all))

      own_cells : part_of cells (get_or parts k (0, 0)) ≡ part_of old (get_or begun k (0, 0))
      own_cells = ap (part_of cells) next_part ∙ inv.kept k (omega arith) lt

      pub one_cut : (own new : List Address) (begin end : ℕ) → begin ≡ length made → end ≡ length new
          → length own ≡ (get_or parts k (0, 0)).1 - (get_or parts k (0, 0)).0
          → IsCutBehind kind region (part_of cells (get_or parts k (0, 0))) made new
          → IsCutting kind region old begun
          (put_mid (get_or parts k (0, 0)).0 ((get_or parts k (0, 0)).1 - (get_or parts k (0, 0)).0) cells own)
          (set parts k (begin, end)) new (k + 1)
      one_cut own new begin end begin_is end_is long (more, is, own_cut) =
          let a = (get_or parts k (0, 0)).0 in
          let e = (get_or parts k (0, 0)).1 in
          let mid = put_mid a (e - a) cells own in
          let next : ℕ × ℕ = (begin, end) in
          let order : a ≤ e = next_ordered in
          let inside : e ≤ length cells = next_within in
          let room : a ≤ length cells = omega (arith, order, inside) in
          let there : k < length parts = omega (arith, lt, inv.size_is) in
          let longer : length made ≤ length new = omega (arith, ap length is, length-append made more) in
          let size : length mid ≡ length cells =
          omega (
            arith,
            length-append (take a cells) (own ++ drop (e - a) (drop a cells)),
            length-append own
                (drop (e - a) (drop a cells)),
            length-take-le a cells room,
            length-drop (e - a) (drop a cells),
            length-drop
                a cells,
            long,
            order,
            inside,
          ) in
          let next_is : next ≡ (length made, length new) =
          ap (λ m. (m, end)) begin_is ∙ ap (λ m. (length made, m)) end_is in
          let at_k : get_or (set parts k next) k (0, 0) ≡ (length made, length new) =
          subst (λ (p : ℕ × ℕ). get_or (set parts k next) k (0, 0) ≡ p) next_is
          (get_or-set_same parts k next (0, 0) there) in
          let other : (n : ℕ) → n ≢ k → get_or (set parts k next) n (0, 0) ≡ get_or parts n (0, 0) =
          λ n ne. get_or-set_other parts k n next (0, 0) ne in
          record {
            all = size ∙ inv.all;
            size_is = length-set parts k next ∙ inv.size_is;
            ordered = λ n ln. elim (cases_eq n k) [
              | inl q ↦
                  subst (λ (p : ℕ × ℕ). p.0 ≤ p.1) (sym (ap (λ m. get_or (set parts k next) m (0, 0)) q ∙ at_k)) longer
              | inr ne ↦
                  subst (λ (p : ℕ × ℕ). p.0 ≤ p.1) (sym (other n ne)) (inv.ordered n (omega (arith, ln, ne)))
            ];
            within = λ n ln. elim (cases_eq n k) [
              | inl q ↦
                  subst (λ (p : ℕ × ℕ). p.1 ≤ length new)
                  (sym (ap (λ m. get_or (set parts k next) m (0, 0)) q ∙ at_k)) (omega arith)
              | inr ne ↦
                  subst (λ (p : ℕ × ℕ). p.1 ≤ length new) (sym (other n ne))
                  (omega (arith, inv.within n (omega (arith, ln, ne)), longer))
            ];
            apart = λ m n lm ln.
                let early : m < k = omega (arith, lm, ln) in
                let first : (get_or (set parts k next) m (0, 0)).1 ≡ (get_or parts m (0, 0)).1 =
                ap (λ (p : ℕ × ℕ). p.1) (other m (omega (arith, early))) in
                elim (cases_eq n k) [
                  | inl q ↦
                      let second : (get_or (set parts k next) n (0, 0)).0 ≡ length made =
                      ap (λ (p : ℕ × ℕ). p.0) (ap (λ j. get_or (set parts k next) j (0, 0)) q ∙ at_k) in
                      omega (arith, first, second, inv.within m early)
                  | inr ne ↦
                      let second : (get_or (set parts k next) n (0, 0)).0 ≡ (get_or parts n (0, 0)).0 =
                      ap (λ (p : ℕ × ℕ). p.0) (other n ne) in
                      omega (arith, first, second, inv.apart m n lm (omega (arith, ln, ne)))
                ];
            cut = λ n ln. elim (cases_eq n k) [
              | inl q ↦
                  let mine : part_of new (get_or (set parts k next) n (0, 0)) ≡ more =
                  ap (part_of new) (ap (λ m. get_or (set parts k next) m (0, 0)) q ∙ at_k)
                  ∙ ap (λ l. part_of l (length made, length l)) is ∙ part_behind made more in
                  subst (λ l. IsCut kind region l (part_of new (get_or (set parts k next) n (0, 0))))
                  (own_cells ∙ ap (λ m. part_of old (get_or begun m (0, 0))) (sym q))
                  (subst (IsCut kind region (part_of cells (get_or parts k (0, 0)))) (sym mine) own_cut)
              | inr ne ↦
                  let lk : n < k = omega (arith, ln, ne) in
                  let same : part_of new (get_or (set parts k next) n (0, 0)) ≡ part_of made (get_or parts n (0, 0)) =
                  ap (part_of new) (other n ne) ∙ ap (λ l. part_of l (get_or parts n (0, 0))) is
                  ∙ part_front made more (get_or parts n (0, 0)) (inv.ordered n lk) (inv.within n lk) in
                  subst (IsCut kind region (part_of old (get_or begun n (0, 0)))) (sym same) (inv.cut n lk)
            ];
            left = λ n le. other n (omega (arith, le)) ∙ inv.left n (omega (arith, le));
            kept = λ n le ln.
                let later : e ≤ (get_or begun n (0, 0)).0 =
                subst (λ (p : ℕ × ℕ). p.1 ≤ (get_or begun n (0, 0)).0) (sym next_part)
                (begins.apart k n (omega (arith, le)) ln) in
                part_above cells own a e (get_or begun n (0, 0)) later order room long
                ∙ inv.kept n (omega (arith, le)) ln;
          }

  -- all are made
  pub all_cut : (cells : List Address) (parts : List (ℕ × ℕ)) (made : List Address) (k : ℕ) → k ≡ length begun
      → IsCutting kind region old begun cells parts made k → AreCut kind region old begun (length begun) made parts
  all_cut cells parts made k e inv = record {
    apart = record {
      size_is = inv.size_is;
      ordered = λ n ln. inv.ordered n (omega (arith, e, ln));
      within = λ n ln. inv.within n (omega (arith, e, ln));
      apart = λ m n lm ln. inv.apart m n lm (omega (arith, e, ln));
    };
    cut = λ n ln. inv.cut n (omega (arith, e, ln));
  }
