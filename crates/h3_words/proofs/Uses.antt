-- Membership and uses by recursion over lists, as the proofs go, and that the words of the definitions say the same.
use Rattle.std.proofs.Common.{◌≡◌, ◌⊎◌, ◌+◌, ℕ, Bool, cond, true, false, refl, subst, arith, List, [], ◌∷◌, inl, inr}
use Rattle.std.specs.Bool.{⊤}
use Rattle.std.specs.List.{All, Contains}
use Rattle.std.specs.Str.{bytes_eq}
use Rattle.std.proofs.lemmas.List.Elements.{All-nil, All-cons, All-head, All-tail, All-weaker, All-contains, Contains-append_right, Contains-get_or}
use Rattle.std.proofs.lemmas.List.Recursion.{is_count_by}
use Rattle.h3_words.specs.Call.{IsUse, IsPlainValue, Use, names_for, uses_of}
use Rattle.h3_words.specs.Options.{IsInRange, id_of}
use Rattle.h3_words.specs.declared.options.CommandOption.{CommandOption}

-- x is in the list
abbrev pub IsListed : {X : Type 0} → X → List X → Type 0
IsListed x [] = ⊥
IsListed x (y ∷ ys) = (y ≡ x) ⊎ IsListed x ys

each_listed : {X : Type 0} (xs : List X) → All (λ x. IsListed x xs) xs
each_listed [] = All-nil (λ x. IsListed x [])
each_listed (x ∷ xs) = All-cons (λ y. IsListed y (x ∷ xs)) x xs (inl refl)
    (All-weaker (λ y. IsListed y xs) (λ y. IsListed y (x ∷ xs)) (λ y is. inr is) xs (each_listed xs))

pub listed_of : {X : Type 0} (xs : List X) (x : X) → Contains xs x → IsListed x xs
listed_of xs x is = All-contains (λ y. IsListed y xs) xs x (each_listed xs) is

pub contains : {X : Type 0} (xs : List X) (x : X) → IsListed x xs → Contains xs x
contains [] x is = absurd is
contains (y ∷ ys) x (inl same) = subst (Contains (y ∷ ys)) same (Contains-get_or (y ∷ ys) 0 y (omega arith))
contains (y ∷ ys) x (inr is) = Contains-append_right (y ∷ []) ys x (contains ys x is)

-- an `IsUse` whose membership goes by recursion
pub record Fits (os : List CommandOption) (u : Use) : Type 0 where
  pub listed : IsListed u.option os
  pub named : IsListed u.name (names_for u.option)
  pub plain : IsPlainValue u.value
  pub in_range : IsInRange u.option u.value

abbrev pub AreUses : List CommandOption → List Use → Type 0
AreUses os [] = ⊤
AreUses os (u ∷ us) = Fits os u × AreUses os us

fits_of : (os : List CommandOption) (u : Use) → IsUse os u → Fits os u
fits_of os u is = record {
  listed = listed_of os u.option is.listed;
  named = listed_of (names_for u.option) u.name is.named;
  plain = is.plain;
  in_range = is.in_range;
}

pub are_uses : (os : List CommandOption) (us : List Use) → All (IsUse os) us → AreUses os us
are_uses os [] all = tt
are_uses os (u ∷ us) all = (fits_of os u (All-head (IsUse os) u us all), are_uses os us (All-tail (IsUse os) u us all))

-- how often the option is used
abbrev pub uses_in : CommandOption → List Use → ℕ
uses_in o [] = 0
uses_in o (u ∷ us) = (cond (bytes_eq (id_of u.option) (id_of o)) 1 0) + uses_in o us

pub uses_in-uses_of : (o : CommandOption) (us : List Use) → uses_in o us ≡ uses_of o us
uses_in-uses_of o us =
    is_count_by (uses_in o) (λ u. bytes_eq (id_of u.option) (id_of o)) refl
    (λ u rest. go (bytes_eq (id_of u.option) (id_of o)) (uses_in o rest)) us
  where
    go : (b : Bool) (n : ℕ) → cond b 1 0 + n ≡ cond b (1 + n) n
    go true n = refl
    go false n = omega arith
