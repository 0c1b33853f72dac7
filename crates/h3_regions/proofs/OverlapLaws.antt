-- The first cells of a list that overlap.
use Rattle.std.proofs.Common.{ℕ, ◌≡◌, ◌+◌, ◌<◌, List, length, take, All, true, false, arith, ◌∙◌, sym, inl, inr, get_or}
use Rattle.std.proofs.lemmas.Bool.{cases_lt}
use Rattle.std.proofs.lemmas.List.{get_or-take, length-take}
use Rattle.h3_index.specs.Cell.{Address}
use Rattle.h3_set.specs.Coverage.{IsApart, Overlap}
use Rattle.h3_set.specs.Laws.{OverlapsAreFound}
use Rattle.h3_set.specs.Refusals.{has_overlap}
use Rattle.h3_regions.specs.Overlap.{IsFirstOverlap, IsFirstToOverlap}
use Rattle.h3_regions.proofs.ListLaws.{any_default}

module _ (cells : List Address) (n : ℕ) (room : n < length cells) where
  -- one cell more, which overlaps none of the first n
  apart_more : (x : Address) → get_or cells n x ≡ x → IsApart (take n cells) → All (λ c. ¬ Overlap c x) (take n cells)
      → IsApart (take (n + 1) cells)
  apart_more x is apart none i j d lt lj over =
      let short : j < n + 1 = omega (arith, lj, length-take (n + 1) cells) in
      let at_i = get_or-take (n + 1) cells i d (omega (arith, lt, short)) in
      let at_j = get_or-take (n + 1) cells j d short in
      let both : Overlap (get_or cells i d) (get_or cells j d) = rw (at_i, at_j) at over in
      let in_front : i < length (take n cells) = omega (arith, lt, short, room, length-take n cells) in
      let first = get_or-take n cells i d (omega (arith, lt, short)) in
      elim (cases_lt j n) [
        | inl less ↦
            apart i j d lt (omega (arith, less, room, length-take n cells))
            (rw (first, get_or-take n cells j d less) both)
        | inr not ↦
            let e : j ≡ n = omega (arith, short, not) in
            none i d in_front (rw first (rw (e, any_default cells n d x room ∙ is) at both))
      ]

  pub never_apart : OverlapsAreFound → (x : Address) → get_or cells n x ≡ x → IsApart (take n cells)
      → All (λ c. ¬ Overlap c x) (take n cells) → has_overlap (take (n + 1) cells) ≡ true → ⊥
  never_apart overlaps x is apart none some =
      let found = (overlaps (take (n + 1) cells)).1 (apart_more x is apart none) in
      let never : true ≡ false = sym some ∙ found in
      absurd (cc)

  -- the first of the first n that overlaps the cell after them
  pub first_of_all : (i : ℕ) (x : Address) → get_or cells n x ≡ x → IsApart (take n cells)
      → IsFirstToOverlap (take n cells) x i → IsFirstOverlap cells n i
  first_of_all i x is apart h =
      let short : i < n = omega (arith, h.within, length-take n cells) in
      record {
        within = room;
        apart = apart;
        earlier = short;
        overlap = λ d. rw (sym (get_or-take n cells i d short), any_default cells n d x room ∙ is) (h.overlap d);
        first = λ k d lt over.
            h.first k d lt (rw (get_or-take n cells k d (omega (arith, lt, short)))
            (rw (any_default cells n d x room ∙ is) at over));
      }
