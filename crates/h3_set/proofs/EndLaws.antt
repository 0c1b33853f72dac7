-- The siblings at the end of a list, and the writes of the pass that closes their sets.
use Rattle.std.proofs.Common.{ℕ, zero, suc, ◌≡◌, ◌+◌, ◌-◌, ◌<◌, ◌≤◌, List, [], ◌∷◌, ◌++◌, length, take, drop, set, refl, Contains, IsPermutation, arith, ◌∙◌, sym, ap, subst, inl, inr, get_or, append_assoc}
use Rattle.std.proofs.lemmas.List.{append-nil, drop-set-lt, drop_all, drop_more as drop_at, get_or-drop, get_or-take, length-append, length-drop, length-set, length-take, length-take-le, take-append-drop, take-append-le, take_all, take_at, take_more, take_more_set, take_rest}
use Rattle.std.proofs.Math.Seq.{drop-append_seam}
use Rattle.std.proofs.lemmas.List.Elements.{All-contains, Contains-append_left, Contains-append_right, Contains-get_or}
use Rattle.std.proofs.lemmas.Slice.{drop-append-drop}
use Rattle.h3_index.specs.Cell.{Address, IsCell}
use Rattle.h3_index.specs.Count.{CellsUpToAreListed}
use Rattle.h3_index.specs.Descendants.{center_descendant, child, children, ancestor_at, descendants}
use Rattle.h3_tree.specs.Laws.{CellsFormTrees}
use Rattle.h3_tree.specs.PostOrder.{CellsFormIntervals}
use Rattle.h3_set.specs.Closing.{IsClosing, HasNoSet, IsReduction, IsRising, ReducesTo, StandsFor}
use Rattle.h3_set.specs.Compacted.{compacted, parent_of, HasChildren}
use Rattle.h3_set.specs.Order.{IsBeforeBlock}
use Rattle.h3_set.proofs.ChildLaws.{above_is, above_level, at_most_one, first_is, how_many, later_is, last_digit, Skips}
use Rattle.h3_set.proofs.ClosingLaws.{exchanged, same_list, then_on}
use Rattle.h3_set.proofs.OverlapLaws.{rising_apart}
use Rattle.h3_set.proofs.PairLaws.{pairs_first}
use Rattle.h3_set.proofs.PartitionLaws.{coverages_decide, finest_is_fine, reduced_reordered}
use Rattle.h3_set.proofs.TreeLaws.{address_same}

parent_of_step : (p : Address) (d : ℕ) → parent_of (child p d) ≡ p
parent_of_step p d =
    let e : length (p.digits ++ d ∷ []) - 1 ≡ length p.digits = omega (arith, length-append p.digits (d ∷ [])) in
    ap (λ n. ancestor_at (child p d) n) e
    ∙ address_same (ancestor_at (child p d) (length p.digits)) p refl (take_at p.digits (d ∷ []) (length p.digits) refl)

pub front_within : (xs : List Address) (a b : ℕ) (y : Address) → a ≤ b → Contains (take a xs) y → Contains (take b xs) y
front_within xs a b y le m =
    let less : m.0 < a = omega (arith, m.1, length-take a xs) in (
      m.0,
      omega (arith, m.1, le, length-take a xs, length-take b xs),
      get_or-take b xs m.0 y (omega (arith, less, le)) ∙ sym (get_or-take a xs m.0 y less) ∙ m.2,
    )

-- the first cell of what is left of a list
pub first_left : (cells : List Address) (i : ℕ) (x : Address) → x ≡ get_or cells i x
    → get_or (take (length cells - i) (drop i cells)) 0 x ≡ x
first_left cells i x is =
    let none : i + 0 ≡ i = omega arith in
    ap (λ l. get_or l 0 x) (take_rest cells i) ∙ get_or-drop i cells 0 x ∙ ap (λ n. get_or cells n x) none ∙ sym is

-- the last cell of a list, and of one that ends where a cell is written
pub last_left : (cells : List Address) (x : Address) → 0 < length cells → x ≡ get_or cells (length cells - 1) x
    → drop (length cells - 1) cells ≡ x ∷ []
last_left cells x some is =
    drop_at cells (length cells - 1) x (omega (arith, some)) ∙ ap (λ y. y ∷ drop (length cells - 1 + 1) cells) (sym is)
    ∙ ap (λ l. x ∷ l) (drop_all (length cells - 1 + 1) cells (omega (arith, some)))

pub last_written : (cells : List Address) (w : ℕ) (x : Address) → w < length cells
    → drop (length (take (w + 1) (set cells w x)) - 1) (take (w + 1) (set cells w x)) ≡ x ∷ []
last_written cells w x lt =
    let same : length (take (w + 1) (set cells w x)) - 1 ≡ length (take w cells) =
    omega (arith, length-take (w + 1) (set cells w x), length-set cells w x, length-take w cells, lt) in
    ap (λ n. drop n (take (w + 1) (set cells w x))) same
    ∙ ap (λ l. drop (length (take w cells)) l) (take_more_set cells w x lt) ∙ drop-append_seam (take w cells) (x ∷ [])

-- a list is its last cell after the others
pub last_split : (cells : List Address) (x : Address) → 0 < length cells → x ≡ get_or cells (length cells - 1) x
    → take (length cells - 1) cells ++ x ∷ [] ≡ cells
last_split cells x some is =
    let all : length cells - 1 + 1 ≡ length cells = omega (arith, some) in
    ap (λ y. take (length cells - 1) cells ++ y ∷ []) is
    ∙ sym (take_more cells (length cells - 1) x (omega (arith, some)))
    ∙ take_all (length cells - 1 + 1) cells (omega (arith, all))

module _ (tree : CellsFormTrees) (cells : List Address) (x : Address) (tail : drop (length cells - 1) cells ≡ x ∷ [])
    (q s : ℕ) (level : length x.digits ≡ q) (pos : 0 < q) (kind : Skips (parent_of x) s) where
  some : 0 < length cells
  some = omega (arith, ap length tail, length-drop (length cells - 1) cells)

  last_at : (d : Address) → get_or cells (length cells - 1) d ≡ x
  last_at d =
      let none : length cells - 1 + 0 ≡ length cells - 1 = omega arith in
      sym (rw none at (get_or-drop (length cells - 1) cells 0 d)) ∙ ap (λ l. get_or l 0 d) tail

  up : q ≡ length (parent_of x).digits + 1
  up = above_level tree x q level pos

  few : s ≤ 1
  few = at_most_one (parent_of x) s kind

  size : length (children (parent_of x)) ≡ 7 - s
  size = subst (λ n. length (descendants (parent_of x) n) ≡ 7 - s) up (how_many (parent_of x) q s up kind)

  module _ (i : ℕ) (is : drop i cells ≡ children (parent_of x)) where
    place : length cells ≡ i + (7 - s)
    place = omega (arith, ap length is, size, length-drop i cells, few)

    at : (k : ℕ) (d : Address) → get_or cells (i + k) d ≡ get_or (descendants (parent_of x) q) k d
    at k d =
        sym (get_or-drop i cells k d) ∙ ap (λ l. get_or l k d) is
        ∙ ap (λ n. get_or (descendants (parent_of x) n) k d) (sym up)

    -- its last digit is 6
    pub ends_in_six : get_or x.digits (q - 1) 7 ≡ 6
    ends_in_six =
        let e : i + (6 - s) ≡ length cells - 1 = omega (arith, place, few) in
        let is_child : x ≡ child (parent_of x) 6 =
        sym (last_at x) ∙ ap (λ n. get_or cells n x) (sym e) ∙ at (6 - s) x
        ∙ later_is (parent_of x) q s up kind 6 x (omega (arith, few)) (omega arith) in
        last_digit x q 6 level pos is_child

    pub enough : 7 - s ≤ length cells
    enough = omega (arith, place)

    -- the set is found from its first one
    module _ (f : Address) (here : f ≡ get_or cells (length cells - (7 - s)) f) where
      first_child : f ≡ child (parent_of x) 0
      first_child =
          let e : length cells - (7 - s) ≡ i + 0 = omega (arith, place) in
          here ∙ ap (λ n. get_or cells n f) e ∙ at 0 f ∙ first_is (parent_of x) q s up kind f

      same_parent : parent_of f ≡ parent_of x
      same_parent = ap parent_of first_child ∙ parent_of_step (parent_of x) 0

      pub first_level : length f.digits ≡ q
      first_level =
          omega (arith, ap (λ z. length z.digits) first_child, length-append (parent_of x).digits (0 ∷ []), up)

      pub first_count : length (descendants (parent_of f) q) ≡ 7 - s
      first_count = ap (λ z. length (descendants z q)) same_parent ∙ how_many (parent_of x) q s up kind

      pub first_finds : take (length (descendants (parent_of f) q)) (drop (length cells - (7 - s)) cells)
          ≡ descendants (parent_of f) q
      first_finds =
          let e : length cells - (7 - s) ≡ i = omega (arith, place) in
          let whole : drop (length cells - (7 - s)) cells ≡ descendants (parent_of f) q =
          ap (λ n. drop n cells) e ∙ is ∙ ap (λ n. descendants (parent_of x) n) (sym up)
          ∙ ap (λ z. descendants z q) (sym same_parent) in
          take_all (length (descendants (parent_of f) q)) (drop (length cells - (7 - s)) cells)
          (omega (arith, ap length whole))
          ∙ whole

  -- where a set of as many is found from the first, it is that of the last
  module _ (f : Address) (room : 7 - s ≤ length cells) (t : ℕ) (kind_f : Skips (parent_of f) t)
      (at_f : length f.digits ≡ q) (count : 7 - s ≡ length (descendants (parent_of f) q))
      (found : take (7 - s) (drop (length cells - (7 - s)) cells) ≡ descendants (parent_of f) q) where
    up_f : q ≡ length (parent_of f).digits + 1
    up_f = above_level tree f q at_f pos

    few_f : t ≤ 1
    few_f = at_most_one (parent_of f) t kind_f

    equal : t ≡ s
    equal = omega (arith, count, how_many (parent_of f) q t up_f kind_f, few, few_f)

    whole : drop (length cells - (7 - s)) cells ≡ descendants (parent_of f) q
    whole =
        sym (take_all (7 - s) (drop (length cells - (7 - s)) cells)
        (omega (arith, length-drop (length cells - (7 - s)) cells, room)))
        ∙ found

    last_child_is : x ≡ child (parent_of f) 6
    last_child_is =
        let e : length cells - (7 - s) + (6 - t) ≡ length cells - 1 = omega (arith, room, equal, few) in
        sym (last_at x) ∙ ap (λ n. get_or cells n x) (sym e)
        ∙ sym (get_or-drop (length cells - (7 - s)) cells (6 - t) x) ∙ ap (λ l. get_or l (6 - t) x) whole
        ∙ later_is (parent_of f) q t up_f kind_f 6 x (omega (arith, few_f)) (omega arith)

    pub found_last : drop (length cells - (7 - s)) cells ≡ children (parent_of x)
    found_last =
        whole ∙ ap (λ z. descendants z q) (sym (ap parent_of last_child_is ∙ parent_of_step (parent_of f) 6))
        ∙ ap (λ n. descendants (parent_of x) n) up

module _ (tree : CellsFormTrees) (intervals : CellsFormIntervals) where
  -- the parent is written over the first of a set at the end
  pub set_leads : (cells : List Address) (from : ℕ) (p : Address) → from < length cells → IsCell p
      → length p.digits < 15 → drop from cells ≡ children p → ReducesTo cells (take (from + 1) (set cells from p))
  set_leads cells from p lt valid coarse is rest h =
      let whole : take from cells ++ (drop from cells ++ rest) ≡ cells ++ rest =
      sym (append_assoc (take from cells) (drop from cells) rest)
      ∙ ap (λ l. l ++ rest) (take-append-drop from cells) in
      let r =
      exchanged tree intervals (take from cells) (drop from cells) rest p (subst IsRising (sym whole) h)
      (inr (coarse, valid, is)) in
      let after : take from cells ++ (p ∷ rest) ≡ take (from + 1) (set cells from p) ++ rest =
      sym (ap (λ l. l ++ rest) (take_more_set cells from p lt) ∙ append_assoc (take from cells) (p ∷ []) rest) in
      subst (λ l. IsReduction (cells ++ rest) l) after
      (subst (λ l. IsReduction l (take from cells ++ (p ∷ rest))) whole r)

pub leads_on : (a b c : List Address) → ReducesTo a b → ReducesTo b c → ReducesTo a c
leads_on a b c f g rest h =
    let r = f rest h in
    then_on (a ++ rest) (b ++ rest) (c ++ rest) r (g rest r.rising)

-- and with nothing after it
pub leads_rising : (a b : List Address) → ReducesTo a b → IsRising a → IsRising b
leads_rising a b f h =
    subst IsRising (append-nil b) (f [] (subst IsRising (sym (append-nil a)) h)).rising

drop_more : (i n : ℕ) (xs : List Address) → drop (i + n) xs ≡ drop n (drop i xs)
drop_more zero n xs = let e : 0 + n ≡ n = omega arith in rw e refl
drop_more (suc i) n [] = drop_all (suc i + n) [] (omega arith) ∙ sym (drop_all n [] (omega arith))
drop_more (suc i) n (x ∷ xs) = let e : suc i + n ≡ suc (i + n) = omega arith in rw e (drop_more i n xs)

-- the first cells of a list that rises
rising_first : (xs ys : List Address) → IsRising (xs ++ ys) → IsRising xs
rising_first xs ys h =
    record {
      valid = λ k d lt.
          All-contains IsCell (xs ++ ys) (get_or xs k d) h.valid
          (Contains-append_left xs ys (get_or xs k d) (Contains-get_or xs k d lt));
      rises = pairs_first IsBeforeBlock xs ys h.rises;
    }

module _ (tree : CellsFormTrees) (intervals : CellsFormIntervals) (all cells : List Address) (w i n : ℕ) (p : Address)
    (inv : IsClosing all cells w i) (lt : i < length cells) (some : 0 < n) (fits : n ≤ length (drop i cells))
    (stands : StandsFor p (take n (drop i cells))) where
  behind_all : drop n (drop i all) ≡ drop (i + n) all
  behind_all = sym (drop_more i n all)

  next_written : IsReduction all (take (w + 1) (set cells w p) ++ drop (i + n) all)
  next_written =
      let here : take n (drop i all) ++ drop (i + n) all ≡ drop i all =
      ap (λ l. take n (drop i all) ++ l) (sym behind_all) ∙ take-append-drop n (drop i all) in
      let split : take w cells ++ drop i all ≡ take w cells ++ (take n (drop i all) ++ drop (i + n) all) =
      ap (λ l. take w cells ++ l) (sym here) in
      let stands' : StandsFor p (take n (drop i all)) = subst (λ l. StandsFor p (take n l)) inv.rest stands in
      let r =
      exchanged tree intervals (take w cells) (take n (drop i all)) (drop (i + n) all) p
      (subst IsRising split inv.reduced.rising) stands' in
      let before : IsReduction all (take w cells ++ (take n (drop i all) ++ drop (i + n) all)) =
      subst (IsReduction all) split inv.reduced in
      let after : take w cells ++ (p ∷ drop (i + n) all) ≡ take (w + 1) (set cells w p) ++ drop (i + n) all =
      sym (ap (λ l. l ++ drop (i + n) all) (take_more_set cells w p (omega (arith, inv.behind, lt)))
      ∙ append_assoc (take w cells) (p ∷ []) (drop (i + n) all)) in
      subst (IsReduction all) after (then_on all (take w cells ++ (take n (drop i all) ++ drop (i + n) all))
      (take w cells ++ (p ∷ drop (i + n) all)) before r)

  pub written_rises : IsRising (take (w + 1) (set cells w p))
  written_rises = rising_first (take (w + 1) (set cells w p)) (drop (i + n) all) next_written.rising

  pub pass_goes_on : (S : List Address) (m : ℕ) → length S ≡ length (take (w + 1) (set cells w p))
      → m ≤ length (take (w + 1) (set cells w p)) → ReducesTo (take (w + 1) (set cells w p)) (take m S)
      → HasNoSet (take m S) → IsClosing all (S ++ drop (w + 1) (set cells w p)) m (i + n)
  pass_goes_on S m same le leads closed =
      let whole : length (set cells w p) ≡ length cells = length-set cells w p in
      let long : length (take (w + 1) (set cells w p)) ≡ w + 1 =
      length-take-le (w + 1) (set cells w p) (omega (arith, inv.behind, lt, whole)) in
      let front : take m (S ++ drop (w + 1) (set cells w p)) ≡ take m S =
      take-append-le m S (drop (w + 1) (set cells w p)) (omega (arith, same, le)) in
      let joined : length (S ++ drop (w + 1) (set cells w p)) ≡ length cells =
      omega (
        arith,
        length-append S (drop (w + 1) (set cells w p)),
        length-drop (w + 1) (set cells w p),
        whole,
        same,
        long,
        inv.behind,
        lt,
      ) in
      let r = leads (drop (i + n) all) next_written.rising in
      record {
        behind = omega (arith, le, long, inv.behind, some);
        within = omega (arith, joined, fits, length-drop i cells, lt);
        size = joined ∙ inv.size;
        rest =
            drop-append-drop (w + 1) (set cells w p) S (i + n) (omega (arith, inv.behind, some)) (same ∙ long)
            ∙ drop-set-lt (i + n) cells w p (omega (arith, inv.behind, some)) ∙ drop_more i n cells
            ∙ ap (drop n) inv.rest ∙ behind_all;
        reduced =
            subst (λ l. IsReduction all (l ++ drop (i + n) all)) (sym front) (then_on all
            (take (w + 1) (set cells w p) ++ drop (i + n) all) (take m S ++ drop (i + n) all) next_written r);
        closed = subst HasNoSet (sym front) closed;
      }

-- what is written before the last
pub before_written : (cells : List Address) (w : ℕ) (p : Address) → w < length cells
    → take (length (take (w + 1) (set cells w p)) - 1) (take (w + 1) (set cells w p)) ≡ take w cells
before_written cells w p lt =
    let is = take_more_set cells w p lt in
    let size : length (take w cells) ≡ length (take (w + 1) (set cells w p)) - 1 =
    omega (arith, ap length is, length-append (take w cells) (p ∷ [])) in
    ap (λ l. take (length (take (w + 1) (set cells w p)) - 1) l) is
    ∙ take_at (take w cells) (p ∷ []) (length (take (w + 1) (set cells w p)) - 1) size

-- the next cell stands for itself, and the parent of a set that comes next for the set
module _ (tree : CellsFormTrees) (all cells : List Address) (w i : ℕ) (inv : IsClosing all cells w i)
    (lt : i < length cells) (f : Address) (is : f ≡ get_or cells i f) where
  next_at : get_or (drop i cells) 0 f ≡ f
  next_at =
      let none : i + 0 ≡ i = omega arith in
      rw none at (get_or-drop i cells 0 f) ∙ sym is

  some_left : 0 < length (drop i cells)
  some_left = omega (arith, length-drop i cells, lt)

  pub next_valid : IsCell f
  next_valid =
      All-contains IsCell (take w cells ++ drop i all) f inv.reduced.rising.valid (Contains-append_right (take w cells)
      (drop i all) f (subst (λ l. Contains l f) inv.rest (0, some_left, next_at)))

  pub one_stands : StandsFor f (take 1 (drop i cells))
  one_stands = inl (take_more (drop i cells) 0 f some_left ∙ ap (λ x. x ∷ []) next_at)

  pub set_stands : (level n : ℕ) (p : Address) → 0 < level → length f.digits ≡ level → p ≡ ancestor_at f (level - 1)
      → IsCell p → take n (drop i cells) ≡ descendants (parent_of f) level → StandsFor p (take n (drop i cells))
  set_stands level n p pos at is_cut valid found =
      let above = above_is f p level at is_cut in
      let up = above_level tree f level at pos in
      inr (
        omega (arith, ap (λ z. length z.digits) above, up, at, next_valid.coarse),
        valid,
        found ∙ ap (λ m. descendants (parent_of f) m) up ∙ ap children (sym above),
      )

pub pass_begins : CellsFormTrees → (all : List Address) → IsRising all → IsClosing all all 0 0
pass_begins tree all h =
    record {
      behind = omega arith;
      within = omega arith;
      size = refl;
      rest = refl;
      reduced = same_list all h;
      closed = λ p c. no_child p c;
    }
  where
    no_child : (p : Address) → HasChildren (Contains {X = Address} []) p → ⊥
    no_child p c =
        let m =
        c.all (center_descendant p (length p.digits + 1))
        (tree.center_descendant p (length p.digits + 1) c.valid (omega arith) (omega (arith, c.coarse))) in
        omega (arith, m.1)

-- at its end
module _ (tree : CellsFormTrees) (listed : CellsUpToAreListed) (intervals : CellsFormIntervals) where
  pub pass_ends : (all cells : List Address) (w : ℕ) → IsRising all → IsClosing all cells w (length cells)
      → IsRising (take w cells) × IsPermutation (compacted all) (take w cells)
  pass_ends all cells w h inv =
      let none : drop (length cells) all ≡ [] = drop_all (length cells) all (omega (arith, inv.size)) in
      let out : IsReduction all (take w cells) =
      subst (IsReduction all) (ap (λ l. take w cells ++ l) none ∙ append-nil (take w cells)) inv.reduced in
      let same : compacted all ≡ compacted (take w cells) =
      coverages_decide tree listed all (take w cells) 15 h.valid out.rising.valid (finest_is_fine all h.valid)
      (finest_is_fine (take w cells) out.rising.valid) (omega arith) out.alike in (
        out.rising,
        subst (λ l. IsPermutation l (take w cells)) (sym same) (reduced_reordered tree listed (take w cells)
            out.rising.valid (rising_apart intervals (take w cells) out.rising.valid out.rising.rises) inv.closed),
      )
