use Rattle.std.proofs.Common.{◌==◌, ◌∙◌, sym}
use Rattle.std.proofs.lemmas.List.Folds.{Any-from_list_any, list_any_at}
use Rattle.h3_regions.proofs.ListLaws.{contains_at}
use Rattle.h3_regions.proofs.ClashLaws.{is_same, same_is}
use Rattle.h3_regions.proofs.areas.has.Goals as goal

pub returns : goal.returns
returns c = (
  (λ t.
      let w = Any-from_list_any (λ y. y == c.args.number) c.args.numbers.now (sym c.contains.ensures.value ∙ t) in
      contains_at c.args.numbers.now w.0 w.1 c.args.number w.2 (w.3 ∙ is_same w.1 c.args.number w.4)),
  (λ m.
      c.contains.ensures.value
      ∙ list_any_at (λ y. y == c.args.number) c.args.numbers.now m.0 c.args.number m.1 (same_is _ c.args.number m.2)),
)
