use Rattle.std.proofs.Common.{sym, subst, ◌∙◌, arith}
use Rattle.std.proofs.Math.Seq.{take-length}
use Rattle.std.proofs.lemmas.List.Sorted.{length_permutation}
use Rattle.h3_set.specs.Compaction.{HoldsPart}
use Rattle.h3_set.specs.Coverage.{IsApart, IsCompactable}
use Rattle.h3_set.proofs.OverlapLaws.{apart_where}
use Rattle.h3_set.proofs.PartLaws.{starts}
use Rattle.h3_set.proofs.PermutedLaws.{apart_permuted, members_permuted}
use Rattle.h3_set.proofs.ResolutionLaws.{none_finer}
use Rattle.h3_set.proofs.rounds.Compaction.start_in_place.Goals as goal

pub returns-clause-started : goal.returns-clause-started
returns-clause-started c =
    let cells = c.args.cells.now in
    let q = c.survey-level.result.0 in
    let same = c.sort_and_find_overlap.ensures.same in
    let front = take-length c.sort_and_find_overlap.new.cells in
    let fits : IsCompactable q cells = record {
      cells_valid = c.survey-level.ensures.valid;
      coarse = λ k d lt. omega (arith, none_finer cells k d lt, c.survey-level.ensures.finest);
      apart = apart_where cells (sym c.sort_and_find_overlap.ensures.overlap ∙ c.if-sort_and_find_overlap.false);
    } in
    let at = starts c.cells_form_trees.ensures cells q fits in
    let members = members_permuted _ _ same in
    record {
      in_use = length_permutation _ _ same;
      level = c.survey-level.ensures.finest;
      at_most_fifteen = c.survey-level.ensures.at_most_fifteen;
      compactable = fits;
      apart = subst IsApart (sym front) (apart_permuted _ _ same fits.apart);
      part =
          subst (λ l. HoldsPart l cells q q) (sym front)
          (λ x. ((λ m. (at x).0 ((members x).1 m)), (λ p. (members x).0 ((at x).1 p))));
    }
