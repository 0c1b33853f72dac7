-- The digits that lead down from a cell.
--
-- One level down stand the digits 0 to 6, but for 1 below a pentagon. Of the cells below a pentagon the one of digit 0
-- is a pentagon again; below a hexagon there is none.
use Rattle.std.specs.Prelude.{ℕ, zero, suc, ◌≡◌, ◌+◌, ◌==◌, List, [], ◌∷◌, length, map, replicate, Bool, true, false, ◌&&◌, Option, Some, None, if◌then◌else◌}
use Rattle.std.specs.List.{flat_map}

-- the digits of the cells one level below a cell, which is a pentagon or not
abbrev pub steps : Bool → List ℕ
steps false = 0 ∷ (1 ∷ (2 ∷ (3 ∷ (4 ∷ (5 ∷ (6 ∷ []))))))
steps true = 0 ∷ (2 ∷ (3 ∷ (4 ∷ (5 ∷ (6 ∷ [])))))

-- paths p n: the digits that lead n levels down, from a pentagon or not, ascending
unfoldable pub paths : Bool → ℕ → List (List ℕ)
paths pentagon zero = [] ∷ []
paths pentagon (suc n) =
    flat_map (λ d. map (λ ds. d ∷ ds) (paths (pentagon && d == 0) n)) (steps pentagon)

-- the step after one that is not the last
abbrev pub next_step : Bool → ℕ → ℕ
next_step pentagon d = if pentagon && d == 0 then 2 else d + 1

-- the path after one that begins with d and has n more digits, of which the next are given
abbrev pub next_below : Bool → ℕ → ℕ → Option (List ℕ) → Option (List ℕ)
next_below pentagon d n (Some es) = Some (d ∷ es)
next_below pentagon d n None = if d == 6 then None else Some (next_step pentagon d ∷ replicate n 0)

-- the path after one, of the same length; the last has none
abbrev pub next_path : Bool → List ℕ → Option (List ℕ)
next_path pentagon [] = None
next_path pentagon (d ∷ ds) = next_below pentagon d (length ds) (next_path (pentagon && d == 0) ds)

-- from x on come xs, each the next of the one before, and then z
abbrev pub AreLinked : {A : Type 0} → (A → Option A) → A → List A → Option A → Type 0
AreLinked next x [] z = next x ≡ z
AreLinked next x (y ∷ ys) z = (next x ≡ Some y) × AreLinked next y ys z
