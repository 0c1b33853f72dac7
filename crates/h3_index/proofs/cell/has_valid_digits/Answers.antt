use Rattle.std.specs.List.{list_all}
use Rattle.std.proofs.Common.{◌≡◌, ◌==◌, ◌&&◌, nat_lt, not, true, false, Bool, refl, ap, ◌∙◌, take, drop}
use Rattle.h3_index.specs.Cell.{is_pentagon_base, leading}
use Rattle.h3_index.specs.CellNumber.{digits_in}
use Rattle.h3_index.proofs.DigitBitLaws.{digits_lead}
use Rattle.h3_index.proofs.cell.has_valid_digits.Goals as goal

swapped : (a b : Bool) → a && b ≡ b && a
swapped true true = refl
swapped true false = refl
swapped false true = refl
swapped false false = refl

-- which digit leads matters only where those above the resolution are 7
tests : (a b d e l : Bool) → (b ≡ true → l ≡ d) → (a && b) && not (l && e) ≡ (a && b) && not (e && d)
tests true true d e l h = ap not (ap (λ x. x && e) (h refl) ∙ swapped d e)
tests true false d e l h = refl
tests false b d e l h = refl

pub returns : goal.returns
unfolding digits_in
returns c =
    let r = c.args.resolution in
    let ds = digits_in c.args.raw in
    rw (c.is_seven_after.ensures, c.leads_with_one.ensures, c.is_pentagon_base.ensures)
    (tests (list_all (λ d. nat_lt d 7) (take r ds)) (list_all (λ d. d == 7) (drop r ds)) (leading (take r ds) == 1)
    (is_pentagon_base c.args.base) (leading ds == 1) (digits_lead r c.args.raw c.requires))
