-- What is printed of counts adds up.
use Rattle.std.proofs.Common.{◌≡◌, ◌+◌, ℕ, List, [], ◌∷◌, ◌++◌, None, map, sum, ap, refl, ◌∙◌}
use Rattle.std.proofs.lemmas.List.Sums.{sum_by_push}
use Rattle.h3_index.specs.Cell.{Address}
use Rattle.h3_regions.specs.Counting.{count_in, count_outside}
use Rattle.h3_regions.specs.Laws.{CountsAddUp}
use Rattle.h3_regions.specs.Zones.{by_number}
use Rattle.h3_command.specs.Files.{CountsPrintedAddUp, zone_counts}

numbers : (zones cells : List Address) (others : ℕ)
    → map (λ line. line.1) (zone_counts zones cells ++ (None, others) ∷ [])
    ≡ map (λ zone. count_in zone cells) zones ++ others ∷ []
numbers [] cells others = refl
numbers (z ∷ zones) cells others = ap (λ l. count_in z cells ∷ l) (numbers zones cells others)

total : (zones cells : List Address) (others : ℕ)
    → sum (map (λ line. line.1) (zone_counts zones cells ++ (None, others) ∷ []))
    ≡ sum (map (λ zone. count_in zone cells) zones) + others
total zones cells others =
    ap sum (numbers zones cells others) ∙ sum_by_push (λ n. n) (map (λ zone. count_in zone cells) zones) others

pub printed_counts : CountsAddUp → CountsPrintedAddUp
printed_counts law zones cells valid apart =
    total (by_number zones) cells (count_outside zones cells) ∙ law.ascending zones cells valid apart
