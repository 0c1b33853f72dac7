-- The paths stand one after another, and how many they are.
use Rattle.std.proofs.Common.{ℕ, zero, suc, ◌≡◌, ◌+◌, ◌-◌, ◌*◌, ◌/◌, ◌^◌, ◌==◌, List, [], ◌∷◌, ◌++◌, length, map, replicate, Bool, true, false, ◌&&◌, Option, Some, None, refl, arith, ap, length-append}
use Rattle.std.proofs.lemmas.List.{append-nil}
use Rattle.std.proofs.Math.Nat.{pow-suc}
use Rattle.std.proofs.Math.ListN.{length-replicate}
use Rattle.h3_index.specs.Laws.{IsChain}
use Rattle.h3_index.specs.Paths.{paths, next_below, next_path, AreLinked}

pub links_append : {A : Type 0} (f : A → Option A) (x : A) (xs : List A) (y : A) (ys : List A) (z : Option A)
    → AreLinked f x xs (Some y) → AreLinked f y ys z → AreLinked f x (xs ++ y ∷ ys) z
links_append f x [] y ys z h k = (h, k)
links_append f x (w ∷ xs) y ys z h k = (h.0, links_append f w xs y ys z h.1 k)

abbrev AllLong : ℕ → List (List ℕ) → Type 0
AllLong n [] = Unit {0}
AllLong n (x ∷ xs) = (length x ≡ n) × AllLong n xs

-- the digits below one digit
block : (p : Bool) (d n : ℕ) (x : List ℕ) (xs : List (List ℕ)) → length x ≡ n → AllLong n xs
    → AreLinked (next_path (p && d == 0)) x xs None
    → AreLinked (next_path p) (d ∷ x) (map (λ ds. d ∷ ds) xs) (next_below p d n None)
block p d n x [] e all h = rw (e, h) refl
block p d n x (y ∷ ys) e all h = (rw h.0 refl, block p d n y ys all.0 all.1 h.1)

long_map : (d n : ℕ) (xs : List (List ℕ)) → AllLong n xs → AllLong (suc n) (map (λ ds. d ∷ ds) xs)
long_map d n [] h = tt
long_map d n (x ∷ xs) h = (ap suc h.0, long_map d n xs h.1)

long_append : (n : ℕ) (xs ys : List (List ℕ)) → AllLong n xs → AllLong n ys → AllLong n (xs ++ ys)
long_append n [] ys h k = k
long_append n (x ∷ xs) ys h k = (h.0, long_append n xs ys h.1 k)

-- all paths, as a chain from zeros on
pub record IsLongChain (p : Bool) (n : ℕ) : Type 0 where
  pub others : List (List ℕ)
  pub is : paths p n ≡ replicate n 0 ∷ others
  pub long : AllLong n others
  pub links : AreLinked (next_path p) (replicate n 0) others None

pub chain : (p : Bool) (n : ℕ) → IsLongChain p n
unfolding paths
chain p zero = record { others = []; is = refl; long = tt; links = refl }
chain false (suc n) =
    let c = chain false n in
    let z = replicate n 0 in
    let size = length-replicate {A = ℕ} n 0 in
    let r6 = map (λ es. 6 ∷ es) c.others in
    let b6 = block false 6 n z c.others size c.long c.links in
    let l6 = long_map 6 n c.others c.long in
    let r5 = map (λ es. 5 ∷ es) c.others ++ (6 ∷ z) ∷ r6 in
    let b5 =
    links_append (next_path false) (5 ∷ z) (map (λ es. 5 ∷ es) c.others) (6 ∷ z) r6 None
    (block false 5 n z c.others size c.long c.links) b6 in
    let l5 =
    long_append (suc n) (map (λ es. 5 ∷ es) c.others) ((6 ∷ z) ∷ r6) (long_map 5 n c.others c.long)
    (ap suc size, l6) in
    let r4 = map (λ es. 4 ∷ es) c.others ++ (5 ∷ z) ∷ r5 in
    let b4 =
    links_append (next_path false) (4 ∷ z) (map (λ es. 4 ∷ es) c.others) (5 ∷ z) r5 None
    (block false 4 n z c.others size c.long c.links) b5 in
    let l4 =
    long_append (suc n) (map (λ es. 4 ∷ es) c.others) ((5 ∷ z) ∷ r5) (long_map 4 n c.others c.long)
    (ap suc size, l5) in
    let r3 = map (λ es. 3 ∷ es) c.others ++ (4 ∷ z) ∷ r4 in
    let b3 =
    links_append (next_path false) (3 ∷ z) (map (λ es. 3 ∷ es) c.others) (4 ∷ z) r4 None
    (block false 3 n z c.others size c.long c.links) b4 in
    let l3 =
    long_append (suc n) (map (λ es. 3 ∷ es) c.others) ((4 ∷ z) ∷ r4) (long_map 3 n c.others c.long)
    (ap suc size, l4) in
    let r2 = map (λ es. 2 ∷ es) c.others ++ (3 ∷ z) ∷ r3 in
    let b2 =
    links_append (next_path false) (2 ∷ z) (map (λ es. 2 ∷ es) c.others) (3 ∷ z) r3 None
    (block false 2 n z c.others size c.long c.links) b3 in
    let l2 =
    long_append (suc n) (map (λ es. 2 ∷ es) c.others) ((3 ∷ z) ∷ r3) (long_map 2 n c.others c.long)
    (ap suc size, l3) in
    let r1 = map (λ es. 1 ∷ es) c.others ++ (2 ∷ z) ∷ r2 in
    let b1 =
    links_append (next_path false) (1 ∷ z) (map (λ es. 1 ∷ es) c.others) (2 ∷ z) r2 None
    (block false 1 n z c.others size c.long c.links) b2 in
    let l1 =
    long_append (suc n) (map (λ es. 1 ∷ es) c.others) ((2 ∷ z) ∷ r2) (long_map 1 n c.others c.long)
    (ap suc size, l2) in
    let r0 = map (λ es. 0 ∷ es) c.others ++ (1 ∷ z) ∷ r1 in
    let b0 =
    links_append (next_path false) (0 ∷ z) (map (λ es. 0 ∷ es) c.others) (1 ∷ z) r1 None
    (block false 0 n z c.others size c.long c.links) b1 in
    let l0 =
    long_append (suc n) (map (λ es. 0 ∷ es) c.others) ((1 ∷ z) ∷ r1) (long_map 0 n c.others c.long)
    (ap suc size, l1) in
    record { others = r0; is = rw (c.is, append-nil) refl; long = l0; links = b0 }
chain true (suc n) =
    let c = chain false n in
    let c0 = chain true n in
    let z = replicate n 0 in
    let size = length-replicate {A = ℕ} n 0 in
    let r6 = map (λ es. 6 ∷ es) c.others in
    let b6 = block true 6 n z c.others size c.long c.links in
    let l6 = long_map 6 n c.others c.long in
    let r5 = map (λ es. 5 ∷ es) c.others ++ (6 ∷ z) ∷ r6 in
    let b5 =
    links_append (next_path true) (5 ∷ z) (map (λ es. 5 ∷ es) c.others) (6 ∷ z) r6 None
    (block true 5 n z c.others size c.long c.links) b6 in
    let l5 =
    long_append (suc n) (map (λ es. 5 ∷ es) c.others) ((6 ∷ z) ∷ r6) (long_map 5 n c.others c.long)
    (ap suc size, l6) in
    let r4 = map (λ es. 4 ∷ es) c.others ++ (5 ∷ z) ∷ r5 in
    let b4 =
    links_append (next_path true) (4 ∷ z) (map (λ es. 4 ∷ es) c.others) (5 ∷ z) r5 None
    (block true 4 n z c.others size c.long c.links) b5 in
    let l4 =
    long_append (suc n) (map (λ es. 4 ∷ es) c.others) ((5 ∷ z) ∷ r5) (long_map 4 n c.others c.long)
    (ap suc size, l5) in
    let r3 = map (λ es. 3 ∷ es) c.others ++ (4 ∷ z) ∷ r4 in
    let b3 =
    links_append (next_path true) (3 ∷ z) (map (λ es. 3 ∷ es) c.others) (4 ∷ z) r4 None
    (block true 3 n z c.others size c.long c.links) b4 in
    let l3 =
    long_append (suc n) (map (λ es. 3 ∷ es) c.others) ((4 ∷ z) ∷ r4) (long_map 3 n c.others c.long)
    (ap suc size, l4) in
    let r2 = map (λ es. 2 ∷ es) c.others ++ (3 ∷ z) ∷ r3 in
    let b2 =
    links_append (next_path true) (2 ∷ z) (map (λ es. 2 ∷ es) c.others) (3 ∷ z) r3 None
    (block true 2 n z c.others size c.long c.links) b3 in
    let l2 =
    long_append (suc n) (map (λ es. 2 ∷ es) c.others) ((3 ∷ z) ∷ r3) (long_map 2 n c.others c.long)
    (ap suc size, l3) in
    let r0 = map (λ es. 0 ∷ es) c0.others ++ (2 ∷ z) ∷ r2 in
    let b0 =
    links_append (next_path true) (0 ∷ z) (map (λ es. 0 ∷ es) c0.others) (2 ∷ z) r2 None
    (block true 0 n z c0.others size c0.long c0.links) b2 in
    let l0 =
    long_append (suc n) (map (λ es. 0 ∷ es) c0.others) ((2 ∷ z) ∷ r2) (long_map 0 n c0.others c0.long)
    (ap suc size, l2) in
    record { others = r0; is = rw (c0.is, c.is, append-nil) refl; long = l0; links = b0 }

length-map' : (d : ℕ) (xs : List (List ℕ)) → length (map (λ ds. d ∷ ds) xs) ≡ length xs
length-map' d [] = refl
length-map' d (x ∷ xs) = ap suc (length-map' d xs)

pub count : (n : ℕ) → length (paths false n) ≡ 7 ^ n
unfolding paths
count zero = refl
count (suc n) = simp (length-append, length-map') (omega (arith, count n, pow-suc 7 n))

pub sixths : (n : ℕ) → (k : ℕ) × (7 ^ n ≡ 6 * k + 1) × (length (paths true n) ≡ 5 * k + 1)
unfolding paths
sixths zero = (0, refl, refl)
sixths (suc n) =
    let h = sixths n in (
      7 * h.0 + 1,
      rw (pow-suc 7 n) (omega (arith, h.1)),
      simp (length-append, length-map') (omega (arith, h.1, h.2, count n)),
    )

pub count_pentagon : (n : ℕ) → length (paths true n) ≡ 1 + 5 * ((7 ^ n - 1) / 6)
count_pentagon n = let h = sixths n in omega (arith, h.1, h.2)

pub chain_only : (p : Bool) (n : ℕ) → IsChain p n
chain_only p n = let c = chain p n in record { others = c.others; is = c.is; links = c.links }
