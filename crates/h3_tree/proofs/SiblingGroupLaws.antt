-- The descendants of a cell, those of one parent after those of another.
use Rattle.std.specs.List.{flat_map}
use Rattle.std.proofs.Common.{ℕ, zero, suc, ◌≡◌, ◌+◌, ◌-◌, ◌<◌, ◌↔◌, List, [], ◌∷◌, ◌++◌, length, refl, length-append, append-nil, arith, ◌∙◌, sym, ap, subst, All, Contains, Option, None, Some}
use Rattle.std.proofs.lemmas.Grind.{flat_map-append}
use Rattle.std.specs.Iterator.{YieldsFirst}
use Rattle.std.proofs.lemmas.List.Elements.{All-tail, Contains-get_or}
use Rattle.h3_index.specs.Cell.{Address, is_pentagon}
use Rattle.h3_index.specs.Descendants.{along, child, children, descendants, IsDescendant}
use Rattle.h3_index.specs.Paths.{paths, steps}
use Rattle.h3_tree.specs.Children.{children_left}
use Rattle.h3_tree.specs.declared.iter.Children.{Children}
use Rattle.h3_tree.proofs.BlockLaws.{blocks}
use Rattle.h3_tree.proofs.FollowingLaws.{address_same}

flat_twice : {A B C : Type 0} (f : A → List B) (g : B → List C) (h : A → List C) → ((x : A) → h x ≡ flat_map g (f x))
    → (xs : List A) → flat_map h xs ≡ flat_map g (flat_map f xs)
flat_twice f g h e [] = refl
flat_twice f g h e (x ∷ xs) =
    ap (λ l. l ++ flat_map h xs) (e x) ∙ ap (λ l. flat_map g (f x) ++ l) (flat_twice f g h e xs)
    ∙ sym (flat_map-append g (f x) (flat_map f xs))

-- at its own resolution a cell has itself
pub descendants-own : (c : Address) (s : ℕ) → s ≡ length c.digits → descendants c s ≡ c ∷ []
unfolding descendants paths
descendants-own c s e =
    let none : s - length c.digits ≡ 0 = omega arith in
    rw none (ap (λ x. x ∷ []) (address_same (along c []) c refl (append-nil c.digits)))

by_level : (n : ℕ) (c : Address) (s : ℕ) → s ≡ length c.digits + n
    → descendants c (s + 1) ≡ flat_map children (descendants c s)
by_level zero c s e =
    let own : s ≡ length c.digits = omega arith in
    rw (descendants-own c s own) (ap (λ l. descendants c (l + 1)) own ∙ sym (append-nil (children c)))
by_level (suc n) c s e =
    blocks c (s + 1) (omega arith)
    ∙ flat_twice (λ d. descendants (child c d) s) children (λ d. descendants (child c d) (s + 1))
    (λ d. by_level n (child c d) s (omega (arith, length-append c.digits (d ∷ [])))) (steps (is_pentagon c))
    ∙ ap (flat_map children) (sym (blocks c s (omega arith)))

-- the descendants are the children of those one level above
pub descendants-children : (c : Address) (r : ℕ) → length c.digits < r
    → flat_map children (descendants c (r - 1)) ≡ descendants c r
descendants-children c r finer =
    let next : r - 1 + 1 ≡ r = omega (arith, finer) in
    sym (by_level (r - 1 - length c.digits) c (r - 1) (omega (arith, finer))) ∙ ap (descendants c) next

-- what is known of each descendant
pub all_coarse : (cells : List Address) (c : Address) (r : ℕ) → r < 15
    → ((x : Address) → Contains cells x ↔ IsDescendant c r x) → All (λ x. length x.digits < 15) cells
all_coarse cells c r h listed i d within =
    let is = (listed _).0 (Contains-get_or cells i d within) in
    omega (arith, is.resolution_is, h)

-- and of those after the first
pub coarse_rest : (s t : Children) (x : Option Address) → YieldsFirst children_left s x t
    → All (λ c. length c.digits < 15) (children_left s) → All (λ c. length c.digits < 15) (children_left t)
coarse_rest s t None e h = subst (All (λ c. length c.digits < 15)) (e.0 ∙ sym e.1) h
coarse_rest s t (Some x) e h =
    All-tail (λ c. length c.digits < 15) x (children_left t) (subst (All (λ c. length c.digits < 15)) e h)
