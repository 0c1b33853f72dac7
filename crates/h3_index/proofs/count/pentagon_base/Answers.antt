use Rattle.std.proofs.Common.{◌≡◌, Some, rules, tests, refl, sym, ◌∙◌, ap, filter, slice_get, w32}
use Rattle.std.specs.List.{range_with_len}
use Rattle.std.proofs.lemmas.Int.{to_z-of_z}
use Rattle.std.proofs.lemmas.Iterator.{YieldsList-from_range}
use Rattle.std.proofs.lemmas.Iterator.Adapters.{option_map_id}
use Rattle.std.proofs.lemmas.Iterator.Consumers.{YieldsList-from_filter, nth_from_yields_List}
use Rattle.h3_index.specs.Cell.{is_pentagon_base, pentagon_bases}
use Rattle.h3_index.specs.Count.{number_below}
use Rattle.h3_index.proofs.CountLaws.{match_some}
use Rattle.h3_index.proofs.count.pentagon_base.Goals as goal

pub returns-clause-nth : goal.returns-clause-nth
returns-clause-nth c =
    let n_is : number_below 12 c.args.n ≡ Some c.in_ok-n.n =
    rw (to_z-of_z w32 c.args.n (search rules)) at (sym c.in_ok-n.ensures.is) in
    let all =
    nth_from_yields_List c.nth.result c.nth.new.self c.from.result c.nth.ensures.ran (YieldsList-from_filter _
    is_pentagon_base (YieldsList-from_range 0 122 122 (cc) refl) c.filter.ensures.closure
    (λ x r q k. search (rules, tests))) in
    let listed : filter is_pentagon_base (range_with_len 0 122) ≡ pentagon_bases = refl in
    match_some _ c.in_ok-n.n _ _ n_is (sym (sym (option_map_id c.nth.result) ∙ all
    ∙ ap (slice_get (filter is_pentagon_base (range_with_len 0 122))) c.from.ensures
    ∙ ap (λ bs. slice_get bs c.in_ok-n.n) listed))
