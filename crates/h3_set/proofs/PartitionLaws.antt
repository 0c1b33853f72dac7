-- Compaction of a list in parts.
use Rattle.std.specs.List.{flat_map}
use Rattle.std.proofs.Common.{ℕ, zero, suc, ◌≡◌, ◌≤◌, ◌↔◌, ◌⊎◌, List, [], ◌∷◌, ◌++◌, length, All, Contains, arith, sym, subst, inl, inr, get_or}
use Rattle.std.proofs.lemmas.Bool.{cases_lt}
use Rattle.std.proofs.lemmas.List.Elements.{All-contains, Contains-append_cases, Contains-append_left, Contains-append_right, Contains-get_or}
use Rattle.std.proofs.lemmas.List.Sorted.{IsPermutation-sym}
use Rattle.h3_index.specs.Cell.{Address, IsCell, resolution}
use Rattle.h3_index.specs.Count.{CellsUpToAreListed}
use Rattle.h3_index.specs.Descendants.{center_descendant, ancestor_at, IsAncestor, IsDescendant}
use Rattle.h3_tree.specs.Laws.{CellsFormTrees}
use Rattle.h3_set.specs.Compacted.{compacted, IsCompacted}
use Rattle.h3_set.specs.Coverage.{finest, IsApart, IsCovered, Overlap}
use Rattle.h3_set.specs.Laws.{CompactedListsAreCompacted, CompactedListsCoverAlike, CoveragesDecideLists, ListsCompactInParts, ReducedListsAreCompacted, ReducedListsAreReordered}
use Rattle.h3_set.proofs.PermutedLaws.{apart_permuted, members_permuted, permuted}
use Rattle.h3_set.proofs.ResolutionLaws.{none_finer}
use Rattle.h3_set.proofs.SetLaws.{member_top, one_compacted, reduced_top, top_member, top_reduced, IsReduced}
use Rattle.h3_set.proofs.TestLaws.{computes}
use Rattle.h3_set.proofs.TreeLaws.{contains_cases, contains_head, contains_tail}

-- ---- the finest resolution

finest_within : (n : ℕ) (cells : List Address) → ((c : Address) → Contains cells c → resolution c ≤ n)
    → finest cells ≤ n
finest_within n [] h = omega arith
finest_within n (c ∷ cells) h =
    let here = h c (contains_head c cells) in
    let others = finest_within n cells (λ b m. h b (contains_tail c b cells m)) in
    omega (arith, here, others)

no_finer : (cells : List Address) (c : Address) → Contains cells c → resolution c ≤ finest cells
no_finer cells c m = All-contains (λ a. resolution a ≤ finest cells) cells c (none_finer cells) m

fine_within : (cells : List Address) → ((c : Address) → Contains cells c → IsCell c) → finest cells ≤ 15
fine_within cells h =
    finest_within 15 cells (λ c m. let v = h c m in omega (arith, v.coarse))

-- no cell is finer than resolution 15
pub finest_is_fine : (cells : List Address) → All IsCell cells → finest cells ≤ 15
finest_is_fine cells valid = fine_within cells (λ c m. All-contains IsCell cells c valid m)

-- ---- the parts

abbrev joined : List (List Address) → List Address
joined = flat_map (λ p. p)

all_of : (P : Address → Type 0) (xs : List Address) → ((x : Address) → Contains xs x → P x) → All P xs
all_of P xs h k d lt = h (get_or xs k d) (Contains-get_or xs k d lt)

apart_first : (xs ys : List Address) → IsApart (xs ++ ys) → IsApart xs
apart_first [] ys h i j d lt lj = absurd (omega (arith, lj))
apart_first (x ∷ xs) ys h i zero d lt lj = absurd (omega (arith, lt))
apart_first (x ∷ xs) ys h zero (suc j) d lt lj =
    let m = Contains-append_left xs ys (get_or xs j d) (Contains-get_or xs j d (omega (arith, lj))) in
    subst (λ z. ¬ Overlap x z) m.2 (h 0 (suc m.0) (get_or xs j d) (omega arith) (omega (arith, m.1)))
apart_first (x ∷ xs) ys h (suc i) (suc j) d lt lj =
    apart_first xs ys (λ a b e l lb. h (suc a) (suc b) e (omega (arith, l)) (omega (arith, lb))) i j d
    (omega (arith, lt)) (omega (arith, lj))

apart_second : (xs ys : List Address) → IsApart (xs ++ ys) → IsApart ys
apart_second [] ys h = h
apart_second (x ∷ xs) ys h =
    apart_second xs ys (λ a b e l lb. h (suc a) (suc b) e (omega (arith, l)) (omega (arith, lb)))

apart_across : (xs ys : List Address) → IsApart (xs ++ ys) → (a b : Address) → Contains xs a → Contains ys b
    → ¬ Overlap a b
apart_across [] ys h a b m n o = omega (arith, m.1)
apart_across (x ∷ xs) ys h a b m n o =
    elim (contains_cases x a xs m) [
      | inl e ↦
          let k = Contains-append_right xs ys b n in
          subst (λ z. ¬ Overlap x z) k.2 (h 0 (suc k.0) b (omega arith) (omega (arith, k.1)))
          (subst (λ z. Overlap z b) (sym e) o)
      | inr k ↦ apart_across xs ys (λ i j e l lb. h (suc i) (suc j) e (omega (arith, l)) (omega (arith, lb))) a b k n o
    ]

apart_cons : (x : Address) (xs : List Address) → ((b : Address) → Contains xs b → ¬ Overlap x b) → IsApart xs
    → IsApart (x ∷ xs)
apart_cons x xs new h i zero d lt lj = absurd (omega (arith, lt))
apart_cons x xs new h zero (suc j) d lt lj = new (get_or xs j d) (Contains-get_or xs j d (omega (arith, lj)))
apart_cons x xs new h (suc i) (suc j) d lt lj = h i j d (omega (arith, lt)) (omega (arith, lj))

apart_append : (xs ys : List Address) → IsApart xs → IsApart ys
    → ((a b : Address) → Contains xs a → Contains ys b → ¬ Overlap a b) → IsApart (xs ++ ys)
apart_append [] ys p q out = q
apart_append (x ∷ xs) ys p q out =
    apart_cons x (xs ++ ys)
    (λ b m. elim (Contains-append_cases xs ys b m) [
      | inl n ↦ subst (λ z. ¬ Overlap x z) n.2 (p 0 (suc n.0) b (omega arith) (omega (arith, n.1)))
      | inr n ↦ out x b (contains_head x xs) n
    ])
    (apart_append xs ys (λ i j d l lj. p (suc i) (suc j) d (omega (arith, l)) (omega (arith, lj))) q
    (λ a b m n. out a b (contains_tail x a xs m) n))

parts_each : (parts : List (List Address)) → IsApart (joined parts) → All IsApart parts
parts_each [] h k d lt = absurd (omega (arith, lt))
parts_each (p ∷ parts) h zero d lt = apart_first p (joined parts) h
parts_each (p ∷ parts) h (suc k) d lt =
    parts_each parts (apart_second p (joined parts) h) k d (omega (arith, lt))

module _ (tree : CellsFormTrees) (all_cells : CellsUpToAreListed) where
  -- two lists cover the same cells of a resolution
  abbrev Alike : ℕ → List Address → List Address → Type 0
  Alike r L M = (x : Address) → IsCovered L r x ↔ IsCovered M r x

  finer_one : (L M : List Address) (q r : ℕ) → q ≤ r → ((c : Address) → Contains L c → resolution c ≤ q)
      → ((x : Address) → IsCovered L q x → IsCovered M q x) → (x : Address) → IsCovered L r x → IsCovered M r x
  finer_one L M q r le coarse h x c =
      let size : q ≤ length x.digits = omega (arith, le, c.below.resolution_is) in
      let over = tree.cut_ancestor x q size in
      let level = tree.resolution-ancestor_at x q size in
      let covered = h (ancestor_at x q) (record {
        by = c.by;
        member = c.member;
        below = record {
          valid = tree.cut_cell x q c.below.valid size;
          resolution_is = level;
          under = tree.ordered c.by (ancestor_at x q) x c.below.under over (omega (arith, level, coarse c.by c.member));
        };
      }) in
      record {
        by = covered.by;
        member = covered.member;
        below = record {
          valid = c.below.valid;
          resolution_is = c.below.resolution_is;
          under = tree.through covered.by (ancestor_at x q) x covered.below.under over;
        };
      }

  -- they do so at each finer one
  finer : (L M : List Address) (q r : ℕ) → q ≤ r → ((c : Address) → Contains L c → resolution c ≤ q)
      → ((c : Address) → Contains M c → resolution c ≤ q) → Alike q L M → Alike r L M
  finer L M q r le f g h x = (finer_one L M q r le f (λ y. (h y).0) x, finer_one M L q r le g (λ y. (h y).1) x)

  -- what compaction makes of a list
  made : (cells : List Address) → ((c : Address) → Contains cells c → IsCell c)
      → IsCompacted (IsCovered cells (finest cells)) (finest cells) (compacted cells)
  made cells valid = computes tree all_cells cells (fine_within cells valid)

  made_coarse : (cells : List Address) → ((c : Address) → Contains cells c → IsCell c) → (c : Address)
      → Contains (compacted cells) c → resolution c ≤ finest cells
  made_coarse cells valid c m =
      All-contains (λ a. resolution a ≤ finest cells) (compacted cells) c (made cells valid).coarse m

  made_valid : (cells : List Address) → ((c : Address) → Contains cells c → IsCell c) → (c : Address)
      → Contains (compacted cells) c → IsCell c
  made_valid cells valid c m = All-contains IsCell (compacted cells) c (made cells valid).cells_valid m

  made_alike : (cells : List Address) (r : ℕ) → ((c : Address) → Contains cells c → IsCell c) → finest cells ≤ r
      → Alike r cells (compacted cells)
  made_alike cells r valid le =
      finer cells (compacted cells) (finest cells) r le (no_finer cells) (made_coarse cells valid)
      (made cells valid).covers

  -- lists that cover the same cells compact to one list
  one_list : (cells others : List Address) → ((c : Address) → Contains cells c → IsCell c)
      → ((c : Address) → Contains others c → IsCell c) → finest others ≤ finest cells
      → Alike (finest cells) cells others → compacted others ≡ compacted cells
  one_list cells others v w le alike =
      let k = made others w in
      let fine = fine_within cells v in
      let both = made_alike others (finest cells) w le in
      one_compacted tree (IsCovered cells (finest cells)) (finest cells) (compacted others) (compacted cells)
      (omega (arith, fine))
      (record {
        ascending = k.ascending;
        cells_valid = k.cells_valid;
        coarse =
            all_of (λ c. resolution c ≤ finest cells) (compacted others)
            (λ c m. (let here = made_coarse others w c m in omega (arith, here, le)));
        apart = k.apart;
        covers = λ x. ((λ s. (both x).0 ((alike x).0 s)), (λ s. (alike x).1 ((both x).1 s)));
        no_siblings = k.no_siblings;
      })
      (made cells v)

  -- ---- coverage decides the list

  members_valid : (cells : List Address) → All IsCell cells → (c : Address) → Contains cells c → IsCell c
  members_valid cells valid c m = All-contains IsCell cells c valid m

  pub compacted_made : CompactedListsAreCompacted
  compacted_made cells valid = made cells (members_valid cells valid)

  pub compacted_alike : CompactedListsCoverAlike
  compacted_alike cells r valid le = made_alike cells r (members_valid cells valid) le

  -- the compacted list, at a finer resolution
  made_at : (cells : List Address) (r : ℕ) → ((c : Address) → Contains cells c → IsCell c) → finest cells ≤ r
      → IsCompacted (IsCovered cells r) r (compacted cells)
  made_at cells r valid le =
      let k = made cells valid in
      record {
        ascending = k.ascending;
        cells_valid = k.cells_valid;
        coarse =
            all_of (λ c. resolution c ≤ r) (compacted cells)
            (λ c m. (let here = made_coarse cells valid c m in omega (arith, here, le)));
        apart = k.apart;
        covers = made_alike cells r valid le;
        no_siblings = k.no_siblings;
      }

  covers_as : (S T : Address → Type 0) (r : ℕ) (cells : List Address) → ((x : Address) → S x ↔ T x)
      → IsCompacted S r cells → IsCompacted T r cells
  covers_as S T r cells same k =
      record {
        ascending = k.ascending;
        cells_valid = k.cells_valid;
        coarse = k.coarse;
        apart = k.apart;
        covers = λ x. ((λ t. (k.covers x).0 ((same x).1 t)), (λ c. (same x).0 ((k.covers x).1 c)));
        no_siblings = k.no_siblings;
      }

  pub coverages_decide : CoveragesDecideLists
  coverages_decide cells others r valid valid_others le le_others fine alike =
      one_compacted tree (IsCovered others r) r (compacted cells) (compacted others) (omega (arith, fine))
      (covers_as (IsCovered cells r) (IsCovered others r) r (compacted cells) alike
      (made_at cells r (members_valid cells valid) le))
      (made_at others r (members_valid others valid_others) le_others)

  pub reduced_made : ReducedListsAreCompacted
  reduced_made cells valid apart none x =
      let fine = fine_within cells (members_valid cells valid) in
      let k = compacted_made cells valid in
      let h : IsReduced (IsCovered cells (finest cells)) (finest cells) cells = record {
        cells_valid = valid;
        coarse = all_of (λ c. resolution c ≤ finest cells) cells (no_finer cells);
        apart = apart;
        covers = λ y. ((λ c. c), (λ c. c));
        no_siblings = none;
      } in (
        (λ m.
            top_member tree (IsCovered cells (finest cells)) (finest cells) (compacted cells) (omega (arith, fine)) k x
            (reduced_top tree (IsCovered cells (finest cells)) (finest cells) cells (omega (arith, fine)) h x m)),
        (λ m.
            top_reduced tree (IsCovered cells (finest cells)) (finest cells) cells (omega (arith, fine)) h x
            (member_top tree (IsCovered cells (finest cells)) (finest cells) (compacted cells) (omega (arith, fine))
            k x m)),
      )

  pub reduced_reordered : ReducedListsAreReordered
  reduced_reordered cells valid apart none =
      let same = reduced_made cells valid apart none in
      permuted tree (compacted cells) cells (compacted_made cells valid).apart apart (λ x m. (same x).1 m)
      (λ x m. (same x).0 m)

  -- ---- parts that are joined

  covered_left : (xs ys : List Address) (r : ℕ) (x : Address) → IsCovered xs r x → IsCovered (xs ++ ys) r x
  covered_left xs ys r x c =
      record { by = c.by; member = Contains-append_left xs ys c.by c.member; below = c.below }

  covered_right : (xs ys : List Address) (r : ℕ) (x : Address) → IsCovered ys r x → IsCovered (xs ++ ys) r x
  covered_right xs ys r x c =
      record { by = c.by; member = Contains-append_right xs ys c.by c.member; below = c.below }

  covered_cases : (xs ys : List Address) (r : ℕ) (x : Address) → IsCovered (xs ++ ys) r x
      → IsCovered xs r x ⊎ IsCovered ys r x
  covered_cases xs ys r x c =
      elim (Contains-append_cases xs ys c.by c.member) [
        | inl m ↦ inl (record { by = c.by; member = m; below = c.below })
        | inr m ↦ inr (record { by = c.by; member = m; below = c.below })
      ]

  append_alike : (r : ℕ) (xs ys us vs : List Address) → ((x : Address) → IsCovered xs r x → IsCovered us r x)
      → ((x : Address) → IsCovered ys r x → IsCovered vs r x) → (x : Address) → IsCovered (xs ++ ys) r x
      → IsCovered (us ++ vs) r x
  append_alike r xs ys us vs f g x c =
      elim (covered_cases xs ys r x c)
      [ inl a ↦ covered_left us vs r x (f x a) | inr b ↦ covered_right us vs r x (g x b) ]

  parts_valid : (parts : List (List Address)) → ((c : Address) → Contains (joined parts) c → IsCell c) → (c : Address)
      → Contains (flat_map compacted parts) c → IsCell c
  parts_valid [] h c m = absurd (omega (arith, m.1))
  parts_valid (p ∷ parts) h c m =
      elim (Contains-append_cases (compacted p) (flat_map compacted parts) c m) [
        | inl n ↦ made_valid p (λ a k. h a (Contains-append_left p (joined parts) a k)) c n
        | inr n ↦ parts_valid parts (λ a k. h a (Contains-append_right p (joined parts) a k)) c n
      ]

  parts_coarse : (n : ℕ) (parts : List (List Address)) → ((c : Address) → Contains (joined parts) c → IsCell c)
      → ((c : Address) → Contains (joined parts) c → resolution c ≤ n) → (c : Address)
      → Contains (flat_map compacted parts) c → resolution c ≤ n
  parts_coarse n [] h le c m = absurd (omega (arith, m.1))
  parts_coarse n (p ∷ parts) h le c m =
      elim (Contains-append_cases (compacted p) (flat_map compacted parts) c m) [
        | inl k ↦
            let here = made_coarse p (λ a i. h a (Contains-append_left p (joined parts) a i)) c k in
            let all = finest_within n p (λ a i. le a (Contains-append_left p (joined parts) a i)) in
            omega (arith, here, all)
        | inr k ↦
            parts_coarse n parts (λ a i. h a (Contains-append_right p (joined parts) a i))
            (λ a i. le a (Contains-append_right p (joined parts) a i)) c k
      ]

  parts_alike : (r : ℕ) (parts : List (List Address)) → ((c : Address) → Contains (joined parts) c → IsCell c)
      → ((c : Address) → Contains (joined parts) c → resolution c ≤ r)
      → Alike r (joined parts) (flat_map compacted parts)
  parts_alike r [] h le x = ((λ c. c), (λ c. c))
  parts_alike r (p ∷ parts) h le x =
      let v : (c : Address) → Contains p c → IsCell c = λ a i. h a (Contains-append_left p (joined parts) a i) in
      let first = made_alike p r v (finest_within r p (λ a i. le a (Contains-append_left p (joined parts) a i))) in
      let rest =
      parts_alike r parts (λ a i. h a (Contains-append_right p (joined parts) a i))
      (λ a i. le a (Contains-append_right p (joined parts) a i)) in (
        append_alike r p (joined parts) (compacted p) (flat_map compacted parts) (λ y. (first y).0) (λ y. (rest y).0) x,
        append_alike r (compacted p) (flat_map compacted parts) p (joined parts) (λ y. (first y).1) (λ y. (rest y).1) x,
      )

  -- two lists that cover a cell in common have members that overlap
  meet : (xs ys : List Address) (r : ℕ) (x : Address)
      → ((a b : Address) → Contains xs a → Contains ys b → ¬ Overlap a b) → IsCovered xs r x → ¬ IsCovered ys r x
  meet xs ys r x out c d =
      out c.by d.by c.member d.member (elim (cases_lt (length d.by.digits) (length c.by.digits)) [
        | inl lt ↦ inr (tree.ordered d.by c.by x d.below.under c.below.under (omega (arith, lt)))
        | inr le ↦ inl (tree.ordered c.by d.by x c.below.under d.below.under le)
      ])

  -- what stands above a cell at r covers it
  over_covers : (L : List Address) (r : ℕ) (a x : Address) → Contains L a → IsDescendant a r x → IsCovered L r x
  over_covers L r a x m b = record { by = a; member = m; below = b }

  across_one : (r : ℕ) (L M : List Address) → r ≤ 15 → ((c : Address) → Contains M c → IsCell c)
      → ((c : Address) → Contains M c → resolution c ≤ r) → ((x : Address) → IsCovered L r x → ¬ IsCovered M r x)
      → (a b : Address) → Contains L a → Contains M b → ¬ IsAncestor a b
  across_one r L M fine v le out a b m n above =
      let down = tree.center_descendant b r (v b n) (le b n) fine in
      let x = center_descendant b r in
      out (center_descendant b r)
      (over_covers L r a (center_descendant b r) m (record {
        valid = down.valid;
        resolution_is = down.resolution_is;
        under = tree.through a b (center_descendant b r) above down.under;
      }))
      (over_covers M r b (center_descendant b r) n down)

  parts_apart : (r : ℕ) (parts : List (List Address)) → r ≤ 15 → ((c : Address) → Contains (joined parts) c → IsCell c)
      → ((c : Address) → Contains (joined parts) c → resolution c ≤ r) → IsApart (joined parts)
      → IsApart (flat_map compacted parts)
  parts_apart r [] fine h le apart = apart
  parts_apart r (p ∷ parts) fine h le apart =
      let v : (c : Address) → Contains p c → IsCell c = λ a i. h a (Contains-append_left p (joined parts) a i) in
      let hr : (c : Address) → Contains (joined parts) c → IsCell c =
      λ a i. h a (Contains-append_right p (joined parts) a i) in
      let lr : (c : Address) → Contains (joined parts) c → resolution c ≤ r =
      λ a i. le a (Contains-append_right p (joined parts) a i) in
      let size = finest_within r p (λ a i. le a (Contains-append_left p (joined parts) a i)) in
      let first = made_alike p r v size in
      let rest = parts_alike r parts hr lr in
      let out : (x : Address) → IsCovered (compacted p) r x → ¬ IsCovered (flat_map compacted parts) r x =
      λ x c d. meet p (joined parts) r x (apart_across p (joined parts) apart) ((first x).1 c) ((rest x).1 d) in
      let w = parts_valid parts hr in
      let wl = parts_coarse r parts hr lr in
      let u = made_valid p v in
      let ul : (c : Address) → Contains (compacted p) c → resolution c ≤ r =
      λ c m. (let here = made_coarse p v c m in omega (arith, here, size)) in
      apart_append (compacted p) (flat_map compacted parts) (made p v).apart
      (parts_apart r parts fine hr lr (apart_second p (joined parts) apart))
      (λ a b m n o. elim o [
        | inl above ↦ across_one r (compacted p) (flat_map compacted parts) fine w wl out a b m n above
        | inr above ↦ across_one r (flat_map compacted parts) (compacted p) fine u ul (λ x d c. out x c d) b a n m above
      ])

  -- members of a part and of the others overlap only where what they give does
  parts_across : (r : ℕ) (p : List Address) (parts : List (List Address)) → r ≤ 15
      → ((c : Address) → Contains (p ++ joined parts) c → IsCell c)
      → ((c : Address) → Contains (p ++ joined parts) c → resolution c ≤ r)
      → IsApart (compacted p ++ flat_map compacted parts) → (a b : Address) → Contains p a → Contains (joined parts) b
      → ¬ Overlap a b
  parts_across r p parts fine h le apart a b m n o =
      let v : (c : Address) → Contains p c → IsCell c = λ c i. h c (Contains-append_left p (joined parts) c i) in
      let vl : (c : Address) → Contains p c → resolution c ≤ r =
      λ c i. le c (Contains-append_left p (joined parts) c i) in
      let w : (c : Address) → Contains (joined parts) c → IsCell c =
      λ c i. h c (Contains-append_right p (joined parts) c i) in
      let wl : (c : Address) → Contains (joined parts) c → resolution c ≤ r =
      λ c i. le c (Contains-append_right p (joined parts) c i) in
      let first = made_alike p r v (finest_within r p vl) in
      let rest = parts_alike r parts w wl in
      let out : (x : Address) → IsCovered p r x → ¬ IsCovered (joined parts) r x =
      λ x c d.
      meet (compacted p) (flat_map compacted parts) r x
      (apart_across (compacted p) (flat_map compacted parts) apart) ((first x).0 c) ((rest x).0 d) in
      elim o [
        | inl above ↦ across_one r p (joined parts) fine w wl out a b m n above
        | inr above ↦ across_one r (joined parts) p fine v vl (λ x d c. out x c d) b a n m above
      ]

  -- no two members of the whole overlap where none do in any part and in what the parts give
  whole_apart : (r : ℕ) (parts : List (List Address)) → r ≤ 15 → ((c : Address) → Contains (joined parts) c → IsCell c)
      → ((c : Address) → Contains (joined parts) c → resolution c ≤ r) → All IsApart parts
      → IsApart (flat_map compacted parts) → IsApart (joined parts)
  whole_apart r [] fine h le each apart = apart
  whole_apart r (p ∷ parts) fine h le each apart =
      apart_append p (joined parts) (each 0 p (omega arith))
      (whole_apart r parts fine (λ c i. h c (Contains-append_right p (joined parts) c i))
      (λ c i. le c (Contains-append_right p (joined parts) c i)) (λ k d lt. each (suc k) d (omega (arith, lt)))
      (apart_second (compacted p) (flat_map compacted parts) apart))
      (parts_across r p parts fine h le apart)

  pub in_parts : ListsCompactInParts
  in_parts cells parts valid cut_up =
      let same = members_permuted cells (joined parts) cut_up in
      let v : (c : Address) → Contains cells c → IsCell c = λ c m. All-contains IsCell cells c valid m in
      let h : (c : Address) → Contains (joined parts) c → IsCell c = λ c m. v c ((same c).1 m) in
      let le : (c : Address) → Contains (joined parts) c → resolution c ≤ finest cells =
      λ c m. no_finer cells c ((same c).1 m) in
      let fine = fine_within cells v in
      let alike = parts_alike (finest cells) parts h le in
      let w = parts_valid parts h in
      record {
        apart = (
          (λ apart.
              let all_apart = apart_permuted cells (joined parts) cut_up apart in
              (parts_each parts all_apart, parts_apart (finest cells) parts fine h le all_apart)),
          (λ both.
              apart_permuted (joined parts) cells (IsPermutation-sym cells (joined parts) cut_up)
              (whole_apart (finest cells) parts fine h le both.0 both.1)),
        );
        same =
            one_list cells (flat_map compacted parts) v w
            (finest_within (finest cells) (flat_map compacted parts) (parts_coarse (finest cells) parts h le))
            (λ x. (
              (λ c. (alike x).0 (record { by = c.by; member = (same c.by).0 c.member; below = c.below })),
              (λ c. (let d = (alike x).1 c in record { by = d.by; member = (same d.by).1 d.member; below = d.below })),
            ));
      }
