use Rattle.std.proofs.Common.{◌<◌, ◌+◌, length, length-take, length-drop, arith, ℕ}
use Rattle.std.proofs.lemmas.List.{take_rest}
use Rattle.h3_lines.proofs.Scan.{cut_here, found_mark, inside_more, is_no_quote, quiet_to_end, quiet_up_to, quote_more}
use Rattle.h3_lines.proofs.splitting.find_outside_quotes.Goals as goal
use Rattle.h3_lines.proofs.splitting.find_outside_quotes.Goals.{then-bytes-found-eq34, else-bytes-found-eq34+else-not-here}

pub returns-then-not-here-clause-cut : goal.returns-then-not-here-clause-cut
returns-then-not-here-clause-cut c =
    let bytes = c.args.bytes.now in
    let at = c.loop-next.at in
    let next = c.in-Some.next in
    let (first, passes) = c.in-Some.ensures in
    let within : at + next < length bytes = omega (arith, first.high, length-take {A = ℕ}, length-drop {A = ℕ}) in
    cut_here c.args.mark c.args.inside c.loop-next.here bytes (at + next) within (found_mark c.args.mark _ bytes at next
    (take_rest bytes at) passes c.if-bytes-found-eq34.false) c.if-not-here.true
    (quiet_up_to c.args.mark c.args.inside c.loop-next.here bytes at _ next (take_rest bytes at)
    (omega (arith, first.high)) first.before c.loop-next.invariant.uncut)

pub loop-next-preserved : goal.loop-next-preserved
loop-next-preserved c =
    let bytes = c.args.bytes.now in
    let at = c.loop-next.at in
    let next = c.in-Some.next in
    let (first, passes) = c.in-Some.ensures in
    let within : at + next < length bytes = omega (arith, first.high, length-take {A = ℕ}, length-drop {A = ℕ}) in
    let u =
    quiet_up_to c.args.mark c.args.inside c.loop-next.here bytes at _ next (take_rest bytes at)
    (omega (arith, first.high)) first.before c.loop-next.invariant.uncut in
    record {
      within = omega arith;
      uncut = elim c.if-bytes-found-eq34.branch [
        | then-bytes-found-eq34 w ↦
            rw w.here-is (quote_more c.args.mark c.args.inside c.loop-next.here bytes
            (at + next) within w.if-bytes-found-eq34.true c.requires u)
        | else-bytes-found-eq34+else-not-here w ↦
            rw w.here-is (inside_more c.args.mark c.args.inside c.loop-next.here bytes (at + next) within
            (is_no_quote _ w.if-bytes-found-eq34.false) w.if-not-here.false u)
      ];
    }

pub returns-clause-uncut : goal.returns-clause-uncut
returns-clause-uncut c =
    quiet_to_end c.args.mark c.args.inside c.loop-next.here c.args.bytes.now c.loop-next.at _
    (take_rest c.args.bytes.now c.loop-next.at) (c.in_default.ensures {u = tt}) c.loop-next.invariant.uncut
