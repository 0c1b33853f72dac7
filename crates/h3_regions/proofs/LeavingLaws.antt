-- What is left of a cell, as it is written.
use Rattle.std.specs.Iterator.{Yields, YieldsFirst}
use Rattle.std.specs.List.{flat_map}
use Rattle.std.proofs.Common.{ℕ, zero, suc, ◌≡◌, ◌+◌, ◌-◌, ◌<◌, ◌≤◌, List, [], ◌∷◌, ◌++◌, length, take, true, false, Contains, refl, arith, ◌∙◌, sym, ap, subst, inl, inr, get_or, drop, add-one, drop-cons, append_assoc, length-append}
use Rattle.std.proofs.lemmas.List.{length-take, take-append-drop}
use Rattle.std.proofs.lemmas.List.Elements.{All-contains, Contains-append_right}
use Rattle.std.proofs.lemmas.Bool.{both_ways, cases_lt}
use Rattle.h3_index.specs.Cell.{Address, IsCell, resolution}
use Rattle.h3_index.specs.Descendants.{children, descendants, IsAncestor}
use Rattle.h3_tree.specs.Laws.{CellsFormTrees}
use Rattle.h3_tree.specs.Children.{children_left}
use Rattle.h3_tree.specs.declared.iter.Children.{Children}
use Rattle.h3_set.specs.Coverage.{is_covered}
use Rattle.h3_set.specs.Laws.{AncestorsAreFound}
use Rattle.h3_regions.specs.Region.{IsRegion}
use Rattle.h3_regions.specs.Difference.{has_below, left_of}
use Rattle.h3_regions.proofs.TestLaws.{covered_true, from_below}

-- ---- what is left of a cell

pub left_gone : (others : List Address) (n : ℕ) (c : Address) → is_covered others c ≡ true → left_of others n c ≡ []
unfolding left_of
left_gone others zero c e = rw e refl
left_gone others (suc n) c e = rw e refl

pub left_whole : (others : List Address) (n : ℕ) (c : Address) → is_covered others c ≡ false
    → has_below others c ≡ false → left_of others n c ≡ c ∷ []
unfolding left_of
left_whole others zero c e f = rw e refl
left_whole others (suc n) c e f = rw (e, f) refl

pub left_split : (others : List Address) (n : ℕ) (c : Address) → is_covered others c ≡ false → has_below others c ≡ true
    → left_of others (suc n) c ≡ flat_map (left_of others n) (children c)
unfolding left_of
left_split others n c e f = rw (e, f) refl

-- a cell that is not covered has others below it only above resolution 15
pub splits_coarse : CellsFormTrees → AncestorsAreFound → (others : List Address) (c : Address) → IsRegion others
    → IsCell c → is_covered others c ≡ false → has_below others c ≡ true → resolution c < 15
splits_coarse tree found others c region valid e f =
    let w = from_below found others c f in
    let v = All-contains IsCell others w.0 region.valid w.1 in
    elim (cases_lt (resolution c) 15) [
      | inl coarse ↦ coarse
      | inr fine ↦
          let same : w.0 ≡ c = tree.same c w.0 w.2 (omega (arith, fine, v.coarse)) in
          absurd (both_ways (is_covered others c) e
          (covered_true found others c w.0 w.1 (subst (λ a. IsAncestor a c) (sym same) (tree.own c))))
    ]

pub left_of_children : (others : List Address) (c : Address) → resolution c < 15 → is_covered others c ≡ false
    → has_below others c ≡ true
    → left_of others (15 - resolution c) c ≡ flat_map (left_of others (14 - resolution c)) (children c)
left_of_children others c coarse e f =
    let level : 15 - resolution c ≡ suc (14 - resolution c) = omega (arith, coarse) in
    rw level (left_split others (14 - resolution c) c e f)

-- ---- the children, one after another

pub all_yielded : (s : Children) (xs : List Address) (t : Children) → Yields (YieldsFirst children_left) s xs t
    → children_left s ≡ xs ++ children_left t
all_yielded s [] t e = ap children_left e
all_yielded s (x ∷ xs) t (j, step, more) = step ∙ ap (λ l. x ∷ l) (all_yielded j xs t more)

pub flat_map-push : (f : Address → List Address) (xs ys : List Address)
    → flat_map f (xs ++ ys) ≡ flat_map f xs ++ flat_map f ys
flat_map-push f [] ys = refl
flat_map-push f (x ∷ xs) ys =
    ap (λ l. f x ++ l) (flat_map-push f xs ys) ∙ sym (append_assoc (f x) (flat_map f xs) (flat_map f ys))

pub append-nil : (xs : List Address) → xs ++ [] ≡ xs
append-nil [] = refl
append-nil (x ∷ xs) = ap (λ l. x ∷ l) (append-nil xs)

-- what f gives for the cells so far is written
pub record IsLeaving (f : Address → List Address) (before : List Address) (written : ℕ) (seen slots : List Address)
    (count : ℕ) : Type 0 where
  pub size : length slots ≡ length before
  pub within : count ≤ length before
  pub put : take count slots ≡ take written before ++ flat_map f seen

module _ (f : Address → List Address) (before : List Address) (written : ℕ) (seen slots : List Address) (count : ℕ)
    (cell : Address) (i : IsLeaving f before written seen slots count) where
  pub one_more : (after : List Address) (more : ℕ) → length after ≡ length slots → more ≤ length slots
      → take more after ≡ take count slots ++ f cell → IsLeaving f before written (seen ++ cell ∷ []) after more
  one_more after more size room put =
      record {
        size = size ∙ i.size;
        within = omega (arith, room, i.size);
        put = put ∙ ap (λ l. l ++ f cell) i.put ∙ append_assoc (take written before) (flat_map f seen) (f cell)
            ∙ ap (λ l. take written before ++ l)
            (sym (flat_map-push f seen (cell ∷ []) ∙ ap (λ l. flat_map f seen ++ l) (append-nil (f cell))));
      }

  -- the slots do not suffice for all cells where they do not for the first ones
  pub too_many : (rest : List Address) → written ≤ length before → length slots < count + length (f cell)
      → length before < written + length (flat_map f (seen ++ cell ∷ rest))
  too_many rest room full =
      let count_is : count ≡ written + length (flat_map f seen) =
      omega (
        arith,
        ap length i.put,
        length-take count slots,
        i.size,
        i.within,
        length-append (take written before) (flat_map f seen),
        length-take written before,
        room,
      ) in
      let whole : length (flat_map f (seen ++ cell ∷ rest))
      ≡ length (flat_map f seen) + (length (f cell) + length (flat_map f rest)) =
      ap length (flat_map-push f seen (cell ∷ rest)) ∙ length-append (flat_map f seen) (f cell ++ flat_map f rest)
      ∙ ap (λ m. length (flat_map f seen) + m) (length-append (f cell) (flat_map f rest)) in
      omega (arith, count_is, whole, full, i.size)

-- the children that came, and the one that comes, are all children
module _ (c : Address) (s r : ℕ) (items from : Children) (at : s ≡ r + 1) (list : children_left items ≡ descendants c s)
    (begins : from ≡ items) (xs : List Address) (t u : Children)
    (so_far : Yields (YieldsFirst children_left) from xs t) where
  pub so_far_is : descendants c (r + 1) ≡ xs ++ children_left t
  so_far_is =
      ap (λ n. descendants c n) (sym at) ∙ sym list ∙ ap children_left (sym begins) ∙ all_yielded from xs t so_far

  pub next_is : (x : Address) → children_left t ≡ x ∷ children_left u
      → descendants c (r + 1) ≡ xs ++ x ∷ children_left u
  next_is x step = so_far_is ∙ ap (λ l. xs ++ l) step

pub listed_child : CellsFormTrees → (c x : Address) (xs ys : List Address) → IsCell c → resolution c < 15
    → children c ≡ xs ++ x ∷ ys → resolution x ≡ resolution c + 1
listed_child tree c x xs ys valid coarse is =
    let m : Contains (children c) x =
    subst (λ l. Contains l x) (sym is) (Contains-append_right xs (x ∷ ys) x (0, omega arith, refl)) in
    ((tree.listed c (resolution c + 1) valid (omega arith) (omega (arith, coarse)) x).0 m).resolution_is

-- ---- the first cells of a list, and the rest

pub one_then : (cells : List Address) (i : ℕ) (x : Address) → i < length cells → x ≡ get_or cells i x
    → cells ≡ take i cells ++ x ∷ drop (i + 1) cells
one_then cells i x lt is =
    sym (take-append-drop i cells)
    ∙ ap (λ l. take i cells ++ l) (rw (add-one) (drop-cons cells i x lt) ∙ ap (λ v. v ∷ drop (i + 1) cells) (sym is))

pub take_whole : (cells : List Address) (i : ℕ) → length cells ≤ i → take i cells ≡ cells
take_whole [] zero le = refl
take_whole [] (suc i) le = refl
take_whole (x ∷ cells) zero le = absurd (omega (arith, le))
take_whole (x ∷ cells) (suc i) le = ap (λ l. x ∷ l) (take_whole cells i (omega (arith, le)))
