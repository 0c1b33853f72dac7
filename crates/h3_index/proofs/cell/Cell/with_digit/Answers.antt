use Rattle.std.proofs.Common.{arith, refl, ◌∙◌}
use Rattle.h3_index.proofs.MoveLaws.{inside_is, made_valid, made_is}
use Rattle.h3_index.proofs.ReplaceLaws.{IsDigitForm, digit_form, inside_cell}
use Rattle.h3_index.proofs.cell.Cell.with_digit.Goals as goal

shown : (c : goal.After-from-2)
    → IsDigitForm c.args.self c.self.inside.raw c.args.r c.args.digit c.from.result c.from-2.result
shown c =
    digit_form c.args.self c.self.inside.raw c.args.r c.args.digit _ _ (inside_cell _ _ c.self.invariant c.self.view_is)
    (inside_is _ _ c.self.invariant c.self.view_is) c.requires.some c.requires.at_most c.requires.at_most_six
    c.requires.hexagon (c.from.ensures ∙ c.digit.ensures) (omega (arith, c.from.ensures, c.digit.type_inv))
    c.from-2.ensures

pub overflow_sub-result : goal.overflow_sub-result
overflow_sub-result c =
    (digit_form c.args.self c.self.inside.raw c.args.r c.args.digit _ _
    (inside_cell _ _ c.self.invariant c.self.view_is) (inside_is _ _ c.self.invariant c.self.view_is)
    c.requires.some c.requires.at_most c.requires.at_most_six c.requires.hexagon (c.from.ensures ∙ c.digit.ensures)
    (omega (arith, c.from.ensures, c.digit.type_inv)) refl).enough

pub overflow_add-result : goal.overflow_add-result
overflow_add-result c = record { fits = (shown c).fits }

pub invariant_of-result : goal.invariant_of-result
invariant_of-result c = made_valid _ _ (shown c).valid (shown c).is

pub returns-clause-is : goal.returns-clause-is
returns-clause-is c = made_is _ _ (shown c).valid (shown c).is

pub returns-clause-valid : goal.returns-clause-valid
returns-clause-valid c = rw (made_is _ _ (shown c).valid (shown c).is) (shown c).valid
