-- What another order of a list keeps.
use Rattle.std.specs.List.{swap}
use Rattle.std.specs.List.Sorted.{IsPermutation}
use Rattle.std.proofs.Common.{ℕ, suc, ◌≡◌, ◌≢◌, ◌<◌, ◌≤◌, ◌↔◌, Result, Ok, Err, List, [], ◌∷◌, ◌++◌, length, take, refl, AllPairs, Contains, arith, ◌∙◌, sym, ap, subst, inl, inr, get_or}
use Rattle.std.proofs.lemmas.Bool.{cases_eq, cases_lt}
use Rattle.std.proofs.lemmas.List.{take-append-le, take_at}
use Rattle.std.proofs.lemmas.List.Edits.{swapped_from_swap}
use Rattle.std.proofs.lemmas.List.Sorted.{Contains-permutation, IsPermutation-cons, IsPermutation-keeps, IsPermutation-middle, IsPermutation-refl, IsPermutation-sym, IsPermutation-trans, length_permutation, IsPermutation-swap}
use Rattle.std.specs.Result.{IfOk}
use Rattle.h3_index.specs.Cell.{Address}
use Rattle.h3_index.specs.Descendants.{IsAncestor}
use Rattle.h3_index.specs.declared.error.H3Error.{H3Error}
use Rattle.h3_tree.specs.Laws.{CellsFormTrees}
use Rattle.h3_set.specs.Compaction.{level_of, slots_in_use, HoldsPart, IsStarted}
use Rattle.h3_set.specs.Coverage.{IsApart, Overlap}
use Rattle.h3_set.specs.declared.rounds.Compaction.{Compaction}
use Rattle.h3_set.proofs.TreeLaws.{contains_cases, contains_head, contains_tail}

-- a relation between any two elements that does not depend on their order
module _ (R : Address → Address → Type 0) (turned : (a b : Address) → R a b → R b a) where
  at_two : (ys : List Address) → AllPairs R ys → (a b : ℕ) (d : Address) → a ≢ b → a < length ys → b < length ys
      → R (get_or ys a d) (get_or ys b d)
  at_two ys h a b d ne la lb =
      elim (cases_lt a b) [
        | inl less ↦ h a b d less lb
        | inr more ↦ turned (get_or ys b d) (get_or ys a d) (h b a d (omega (arith, more, ne)) la)
      ]

  one_swap : (ys : List Address) (p q : ℕ) → p < length ys → q < length ys → length (swap ys p q) ≡ length ys
      → AllPairs R ys → AllPairs R (swap ys p q)
  one_swap ys p q lp lq size h i j d lt lj =
      let s = swapped_from_swap ys (swap ys p q) p q d lp lq refl in
      let li : i < length ys = omega (arith, lt, lj, size) in
      let lj' : j < length ys = omega (arith, lj, size) in
      elim (cases_eq i p) [
        | inl ip ↦ elim (cases_eq j q) [
          | inl jq ↦ rw (ip, jq, s.0, s.1) (at_two ys h q p d (omega (arith, ip, jq, lt)) lq lp)
          | inr jq ↦ rw (ip, s.0, s.2 j (omega (arith, ip, lt)) jq) (at_two ys h q j d (λ e. jq (sym e)) lq lj')
        ]
        | inr ip ↦ elim (cases_eq i q) [
          | inl iq ↦ elim (cases_eq j p) [
            | inl jp ↦ rw (iq, jp, s.1, s.0) (at_two ys h p q d (omega (arith, iq, jp, lt)) lp lq)
            | inr jp ↦ rw (iq, s.1, s.2 j jp (omega (arith, iq, lt))) (at_two ys h p j d (λ e. jp (sym e)) lp lj')
          ]
          | inr iq ↦ elim (cases_eq j p) [
            | inl jp ↦ rw (jp, s.0, s.2 i ip iq) (at_two ys h i q d iq li lq)
            | inr jp ↦ elim (cases_eq j q) [
              | inl jq ↦ rw (jq, s.1, s.2 i ip iq) (at_two ys h i p d ip li lp)
              | inr jq ↦ rw (s.2 i ip iq, s.2 j jp jq) (h i j d lt lj')
            ]
          ]
        ]
      ]

  pub pairs_permuted : (xs ys : List Address) → IsPermutation xs ys → AllPairs R xs → AllPairs R ys
  pairs_permuted xs ys p h =
      IsPermutation-keeps xs (AllPairs R) h
      (λ l i j li lj a.
      one_swap l i j li lj
      (length_permutation l (swap l i j) (IsPermutation-swap l (swap l i j) i j li lj refl)) a)
      ys p

pub apart_permuted : (xs ys : List Address) → IsPermutation xs ys → IsApart xs → IsApart ys
apart_permuted xs ys p h =
    pairs_permuted (λ a b. ¬ Overlap a b) (λ a b n o. n (elim o [ inl u ↦ inr u | inr u ↦ inl u ])) xs ys p h

pub members_permuted : (xs ys : List Address) → IsPermutation xs ys → (x : Address) → Contains xs x ↔ Contains ys x
members_permuted xs ys p x =
    ((λ m. Contains-permutation xs ys x p m), (λ m. Contains-permutation ys xs x (IsPermutation-sym xs ys p) m))

-- ---- lists of which no two cells overlap, with the same members, are one list in different orders

-- a member moved to the front
pulled : (ys : List Address) (x : Address) → Contains ys x → (rest : List Address) × IsPermutation ys (x ∷ rest)
pulled [] x m = absurd (omega (arith, m.1))
pulled (y ∷ ys) x m =
    elim (contains_cases y x ys m) [
      | inl e ↦ (ys, subst (λ z. IsPermutation (y ∷ ys) (z ∷ ys)) e (IsPermutation-refl (y ∷ ys)))
      | inr n ↦
          let r = pulled ys x n in (
            y ∷ r.0,
            IsPermutation-trans (y ∷ ys) (y ∷ x ∷ r.0) (x ∷ y ∷ r.0) (IsPermutation-cons y ys (x ∷ r.0) r.1)
                (IsPermutation-middle (y ∷ []) x r.0),
          )
    ]

apart_tail : (x : Address) (xs : List Address) → IsApart (x ∷ xs) → IsApart xs
apart_tail x xs h i j d lt lj = h (suc i) (suc j) d (omega (arith, lt)) (omega (arith, lj))

module _ (tree : CellsFormTrees) where
  apart_head : (x z : Address) (xs : List Address) → IsApart (x ∷ xs) → Contains xs z → ¬ (x ≡ z)
  apart_head x z xs h m e =
      h 0 (suc m.0) z (omega arith) (omega (arith, m.1)) (inl (rw m.2 (subst (λ a. IsAncestor x a) e (tree.own x))))

  pub permuted : (xs ys : List Address) → IsApart xs → IsApart ys → ((z : Address) → Contains xs z → Contains ys z)
      → ((z : Address) → Contains ys z → Contains xs z) → IsPermutation xs ys
  permuted [] [] p q f g = IsPermutation-refl []
  permuted [] (y ∷ ys) p q f g = absurd (omega (arith, (g y (contains_head y ys)).1))
  permuted (x ∷ xs) ys p q f g =
      let r = pulled ys x (f x (contains_head x xs)) in
      let back = IsPermutation-sym ys (x ∷ r.0) r.1 in
      let q' : IsApart (x ∷ r.0) = apart_permuted ys (x ∷ r.0) r.1 q in
      let rest =
      permuted xs r.0 (apart_tail x xs p) (apart_tail x r.0 q') (λ z m.
      elim (contains_cases x z r.0 (Contains-permutation ys (x ∷ r.0) z r.1 (f z (contains_tail x z xs m)))) [
        | inl e ↦ absurd (apart_head x z xs p m e)
        | inr n ↦ n
      ]) (λ z m.
      elim (contains_cases x z xs (g z (Contains-permutation (x ∷ r.0) ys z back (contains_tail x z r.0 m)))) [
        | inl e ↦ absurd (apart_head x z r.0 q' m e)
        | inr n ↦ n
      ]) in
      IsPermutation-trans (x ∷ xs) (x ∷ r.0) ys (IsPermutation-cons x xs r.0 rest) back

-- cells are copied into the first slots
pub copied_front : (cells copied rest : List Address) → copied ≡ cells → take (length cells) (copied ++ rest) ≡ cells
copied_front cells copied rest is = take_at copied rest (length cells) (ap length is) ∙ is

-- and worked on there, as a list of their own
module _ (cells copied worked rest others : List Address) (is : copied ≡ cells) where
  pub reordered : IsPermutation (take (length cells) (copied ++ rest)) worked
      → IsPermutation cells (take (length cells) (worked ++ others))
  reordered same =
      let order : IsPermutation cells worked =
      subst (λ l. IsPermutation l worked) (copied_front cells copied rest is) same in
      subst (IsPermutation cells) (sym (take_at worked others (length cells) (length_permutation cells worked order)))
      order

  -- what holds of the list and of the first cells of what became of it
  pub in_front : (P : List Address → List Address → Type 0) (r : Result ℕ H3Error)
      → length worked ≡ length (take (length cells) (copied ++ rest))
      → IfOk r (λ m. m ≤ length (take (length cells) (copied ++ rest)))
      → IfOk r (λ m. P (take (length cells) (copied ++ rest)) (take m worked))
      → IfOk r (λ m. P cells (take m (worked ++ others)))
  in_front P (Ok m) size fewer h =
      subst (λ l. P l (take m (worked ++ others))) (copied_front cells copied rest is)
      (subst (P (take (length cells) (copied ++ rest)))
      (sym (take-append-le m worked others (omega (arith, size, fewer)))) h)
  in_front P (Err e) size fewer h = tt

  pub started_in_front : (r : Result Compaction H3Error) → length worked ≡ length (take (length cells) (copied ++ rest))
      → IfOk r (IsStarted (take (length cells) (copied ++ rest)) worked) → IfOk r (IsStarted cells (worked ++ others))
  started_in_front (Ok c) size h =
      let s : IsStarted cells worked c = subst (λ l. IsStarted l worked c) (copied_front cells copied rest is) h in
      let front = take-append-le (slots_in_use c) worked others (omega (arith, size, h.in_use)) in
      record {
        in_use = s.in_use;
        level = s.level;
        at_most_fifteen = s.at_most_fifteen;
        compactable = s.compactable;
        apart = subst IsApart (sym front) s.apart;
        part = subst (λ l. HoldsPart l cells (level_of c) (level_of c)) (sym front) s.part;
      }
  started_in_front (Err e) size h = tt
