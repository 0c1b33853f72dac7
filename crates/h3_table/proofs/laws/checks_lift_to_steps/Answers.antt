use Rattle.h3_table.proofs.LiftedLaws.{corners_lift, reversals_lift}
use Rattle.h3_table.proofs.laws.checks_lift_to_steps.Goals as goal

pub returns : goal.returns
returns c =
    let t = c.turns_add_up.ensures in
    let s = c.sums_are_lawful.ensures in
    record {
      reversals = reversals_lift t.digits t.six_of_digits t.none_of_digits s.reverse s.turn s.triangles;
      corners = corners_lift t.digits t.six_of_digits t.none_of_digits s.reverse s.turn s.triangles;
    }
