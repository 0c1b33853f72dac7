use Rattle.std.proofs.Common.{◌≡◌, length, true, nat_le, if◌then◌else◌, ap, ◌∙◌, arith, rules}
use Rattle.std.proofs.lemmas.Bool.{le-leb}
use Rattle.std.proofs.lemmas.List.Sorted.{length_permutation}
use Rattle.h3_c.proofs.zones.put_zones.Goals as goal
use Rattle.h3_c.proofs.zones.put_zones.Goals.{After-put_slice}

-- there is room, so the code is 0
done : (c : After-put_slice) → c.put_slice.result ≡ 0
done c =
    let fits : nat_le (length c.order_zones.new.cells) (length c.args.zones.now) ≡ true =
    le-leb (length c.order_zones.new.cells) (length c.args.zones.now) (omega (
      arith,
      length_permutation c.args.cells.now c.order_zones.new.cells c.order_zones.ensures.same,
      c.requires,
    )) in
    c.put_slice.ensures.code ∙ ap (λ b. if b then 0 else 14) fits

pub returns-in-Ok-clause-code : goal.returns-in-Ok-clause-code
returns-in-Ok-clause-code c = search (rules, done c.before.before.before, c.in-Ok.ensures.refused)

pub returns-in-Ok-clause-kept : goal.returns-in-Ok-clause-kept
returns-in-Ok-clause-kept c = λ some. absurd (some (done c.before.before.before))
