-- A relation between each cell of a list and each later one, of lists that are joined.
use Rattle.std.proofs.Common.{zero, suc, List, [], ◌∷◌, ◌++◌, AllPairs, Contains, arith, subst, inl, inr, get_or}
use Rattle.std.proofs.lemmas.List.Elements.{Contains-append_cases, Contains-append_left, Contains-append_right, Contains-get_or}
use Rattle.h3_index.specs.Cell.{Address}
use Rattle.h3_set.proofs.TreeLaws.{contains_cases, contains_head, contains_tail}

module _ (R : Address → Address → Type 0) where
  pairs_tail : (x : Address) (xs : List Address) → AllPairs R (x ∷ xs) → AllPairs R xs
  pairs_tail x xs h i j d lt lj = h (suc i) (suc j) d (omega (arith, lt)) (omega (arith, lj))

  pairs_head : (x : Address) (xs : List Address) → AllPairs R (x ∷ xs) → (b : Address) → Contains xs b → R x b
  pairs_head x xs h b m = subst (R x) m.2 (h 0 (suc m.0) b (omega arith) (omega (arith, m.1)))

  pub pairs_cons : (x : Address) (xs : List Address) → ((b : Address) → Contains xs b → R x b) → AllPairs R xs
      → AllPairs R (x ∷ xs)
  pairs_cons x xs new h i zero d lt lj = absurd (omega (arith, lt))
  pairs_cons x xs new h zero (suc j) d lt lj = new (get_or xs j d) (Contains-get_or xs j d (omega (arith, lj)))
  pairs_cons x xs new h (suc i) (suc j) d lt lj = h i j d (omega (arith, lt)) (omega (arith, lj))

  pub pairs_append : (xs ys : List Address) → AllPairs R xs → AllPairs R ys
      → ((a b : Address) → Contains xs a → Contains ys b → R a b) → AllPairs R (xs ++ ys)
  pairs_append [] ys p q out = q
  pairs_append (x ∷ xs) ys p q out =
      pairs_cons x (xs ++ ys)
      (λ b m. elim (Contains-append_cases xs ys b m) [
        | inl n ↦ pairs_head x xs p b n
        | inr n ↦ out x b (contains_head x xs) n
      ])
      (pairs_append xs ys (pairs_tail x xs p) q (λ a b m n. out a b (contains_tail x a xs m) n))

  pub pairs_first : (xs ys : List Address) → AllPairs R (xs ++ ys) → AllPairs R xs
  pairs_first [] ys h = λ i j d lt lj. absurd (omega (arith, lj))
  pairs_first (x ∷ xs) ys h =
      pairs_cons x xs (λ b m. pairs_head x (xs ++ ys) h b (Contains-append_left xs ys b m))
      (pairs_first xs ys (pairs_tail x (xs ++ ys) h))

  pub pairs_second : (xs ys : List Address) → AllPairs R (xs ++ ys) → AllPairs R ys
  pairs_second [] ys h = h
  pairs_second (x ∷ xs) ys h = pairs_second xs ys (pairs_tail x (xs ++ ys) h)

  pub pairs_across : (xs ys : List Address) → AllPairs R (xs ++ ys) → (a b : Address) → Contains xs a → Contains ys b
      → R a b
  pairs_across [] ys h a b m n = absurd (omega (arith, m.1))
  pairs_across (x ∷ xs) ys h a b m n =
      elim (contains_cases x a xs m) [
        | inl e ↦ subst (λ z. R z b) e (pairs_head x (xs ++ ys) h b (Contains-append_right xs ys b n))
        | inr k ↦ pairs_across xs ys (pairs_tail x (xs ++ ys) h) a b k n
      ]
