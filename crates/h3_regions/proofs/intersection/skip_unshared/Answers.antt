use Rattle.std.proofs.Common.{◌≡◌, ◌<◌, ◌∙◌, arith, get_or, length, sym}
use Rattle.h3_index.specs.Cell.{Address}
use Rattle.h3_regions.proofs.IntersectionLaws.{skipped_to, turned}
use Rattle.h3_regions.proofs.ListLaws.{any_default}
use Rattle.h3_regions.proofs.intersection.skip_unshared.Goals as goal

pub returns-then-p-first-clause-seen : goal.returns-then-p-first-clause-seen
returns-then-p-first-clause-seen c = λ slots w seen.
    let b = c.args.second.now in
    let y = c.index-second-j.result in
    let lj = c.requires.within_second in
    let y_is : (d : Address) → get_or b c.args.j d ≡ y = λ d. any_default b c.args.j d y lj ∙ sym c.index-second-j.is in
    skipped_to c.cells_form_trees.ensures c.cells_form_intervals.ensures c.args.first.now b slots c.requires.first_list
    c.requires.second_list c.args.i c.skip_to-p.result c.args.j w y lj y_is c.skip_to-p.ensures.on
    c.skip_to-p.ensures.within c.skip_to-p.ensures.far seen

pub returns-clause-seen : goal.returns-clause-seen
returns-clause-seen c = λ slots w seen.
    let a = c.args.first.now in
    let b = c.args.second.now in
    let p = c.skip_to-p.result in
    let x = c.index-first-p.result in
    let lp : p < length a = omega (arith, c.skip_to-p.ensures.within, c.if-p-first.false) in
    let x_is : (d : Address) → get_or a p d ≡ x = λ d. any_default a p d x lp ∙ sym c.index-first-p.is in
    let y = c.index-second-j.result in
    let lj = c.requires.within_second in
    let y_is : (d : Address) → get_or b c.args.j d ≡ y = λ d. any_default b c.args.j d y lj ∙ sym c.index-second-j.is in
    let first = skipped_to c.cells_form_trees.ensures c.cells_form_intervals.ensures a b slots c.requires.first_list
    c.requires.second_list c.args.i p c.args.j w y lj y_is c.skip_to-p.ensures.on c.skip_to-p.ensures.within
    c.skip_to-p.ensures.far seen in
    let so_far = turned a b slots p c.args.j w first in
    turned b a slots c.skip_to.result p w (skipped_to c.cells_form_trees.ensures c.cells_form_intervals.ensures b a
    slots
    c.requires.second_list c.requires.first_list c.args.j c.skip_to.result p w x lp x_is c.skip_to.ensures.on
    c.skip_to.ensures.within c.skip_to.ensures.far so_far)
