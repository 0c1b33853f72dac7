use Rattle.std.proofs.Common.{◌≡◌, ◌<◌, ◌≤◌, ◌+◌, ◌-◌, ◌*◌, ◌∙◌, ℕ, List, ap, drop, length, length-take, take, refl, subst, sym, inl, inr, arith}
use Rattle.std.proofs.lemmas.Result.{err_from_is_err_and}
use Rattle.std.proofs.lemmas.Slice.{take-put_mid_below}
use Rattle.h3_streams.specs.Counted.{reads_allowed, source_of}
use Rattle.h3_lines.specs.Splitting.{TakesEnded}
use Rattle.h3_lines.proofs.Pages.{one_less, page_kept}
use Rattle.h3_lines.proofs.RowStarts.{part_length, read_behind}
use Rattle.h3_lines.proofs.TakenRows.{goes_on, refused_on, took_ended, took_more, took_none, took_refused, took_stopped}
use Rattle.h3_lines.proofs.splitting.drive_to_end.Goals as goal

pub loop-count-init : goal.loop-count-init
loop-count-init g c = record {
  took = took_none c.args.quotes g.J.JobContract.taken _ _ _ _ (g.met.J.JobContract.none_taken _);
  uncut = record { uncut = refl; inside_is = refl };
  outside = λ e. refl;
  short = omega arith;
  within = omega arith;
  room = omega arith;
  settled = c.requires.settled;
  few = omega arith;
  sound = refl;
  same = refl;
}

pub returns-in_default-clause-err : goal.returns-in_default-clause-err
returns-in_default-clause-err g c =
    let s = c.loop-count.start in
    let size = c.args.size in
    let page : List ℕ = c.as_mut_slice-page.result.now in
    let i = c.loop-count.invariant in
    let same : take s.held page ≡ take s.held c.loop-count.page.items =
    ap (take s.held) c.as_mut_slice-page.ensures.value ∙ c.lengthen.ensures.kept s.held i.within in
    let took = rw (← same) at i.took in
    let uncut = rw (← same) at i.uncut in
    let begun : length (take s.held page) ≤ g.J.JobContract.longest = omega (arith, length-take {A = ℕ}, i.short) in
    inl (
      refl,
      took_stopped c.args.quotes g.J.JobContract.taken g.J.JobContract.longest g.J.JobContract.settled uncut begun took
          i.settled (g.R.Source.has_failed (source_of c.read.new.self) ≡ _) _ c.in_default.ensures.err
          c.in_default.ensures.refused,
    )

pub returns-in_default-clause-room : goal.returns-in_default-clause-room
returns-in_default-clause-room g c = omega (arith, c.lengthen.ensures.room, c.loop-count.invariant.room)

pub returns-then-count-eq0-clause-ok : goal.returns-then-count-eq0-clause-ok
returns-then-count-eq0-clause-ok g c =
    let s = c.loop-count.start in
    let size = c.args.size in
    let page : List ℕ = c.as_mut_slice-page.result.now in
    let i = c.loop-count.invariant in
    let same : take s.held page ≡ take s.held c.loop-count.page.items =
    ap (take s.held) c.as_mut_slice-page.ensures.value ∙ c.lengthen.ensures.kept s.held i.within in
    let took = rw (← same) at i.took in
    let uncut = rw (← same) at i.uncut in
    let begun : length (take s.held page) ≤ g.J.JobContract.longest = omega (arith, length-take {A = ℕ}, i.short) in
    let part = c.read.new.page in
    let fits : s.held + size ≤ length page =
    omega (arith, ap length c.as_mut_slice-page.ensures.value, c.lengthen.ensures.long) in
    let full : length part ≡ size = part_length s.held size page part c.read.auto.page fits in
    let some : 0 < (reads_allowed c.loop-count.reader) = omega (arith, c.in-Ok.ensures.counted) in
    let kept =
    page_kept s.held c.lengthen.new.page.len _ _ (omega (arith, fits, c.as_mut_slice-page.ensures.len))
    (omega (arith, fits, length-take {A = ℕ}))
    ∙ take-put_mid_below s.held (s.held + size - s.held) page part s.held (omega arith) (omega (arith, fits)) in
    subst (λ l. TakesEnded c.args.quotes g.J.JobContract.longest g.J.JobContract.taken c.args.job.now c.loop-count.job l
    s.inside (g.R.Source.left (source_of c.args.reader.now)) (g.R.Source.left (source_of c.read.new.self))
    (reads_allowed c.args.reader.now) c.args.size) (sym kept)
    (took_ended c.args.quotes g.J.JobContract.taken g.J.JobContract.longest uncut begun took _ part c.in-Ok.count
    c.in-Ok.ensures.bytes c.if-count-eq0.true (omega (arith, full, c.requires.some)) some)

pub returns-then-count-eq0-clause-room : goal.returns-then-count-eq0-clause-room
returns-then-count-eq0-clause-room g c = omega (arith, c.lengthen.ensures.room, c.loop-count.invariant.room)

pub loop-count-preserved : goal.loop-count-preserved
loop-count-preserved g c =
    let s = c.loop-count.start in
    let size = c.args.size in
    let page : List ℕ = c.as_mut_slice-page.result.now in
    let i = c.loop-count.invariant in
    let same : take s.held page ≡ take s.held c.loop-count.page.items =
    ap (take s.held) c.as_mut_slice-page.ensures.value ∙ c.lengthen.ensures.kept s.held i.within in
    let took = rw (← same) at i.took in
    let uncut = rw (← same) at i.uncut in
    let begun : length (take s.held page) ≤ g.J.JobContract.longest = omega (arith, length-take {A = ℕ}, i.short) in
    let part = c.read.new.page in
    let fits : s.held + size ≤ length page =
    omega (arith, ap length c.as_mut_slice-page.ensures.value, c.lengthen.ensures.long) in
    let full : length part ≡ size = part_length s.held size page part c.read.auto.page fits in
    let some : 0 < (reads_allowed c.loop-count.reader) = omega (arith, c.in-Ok.ensures.counted) in
    let count : 0 < c.in-Ok.count = omega (arith, c.if-count-eq0.false) in
    let less : (reads_allowed c.loop-count.reader) * size ≡ (reads_allowed c.read.new.self) * size + size =
    one_less (reads_allowed c.loop-count.reader) (reads_allowed c.read.new.self) size c.in-Ok.ensures.counted in
    let before : g.J.JobContract.count c.loop-count.job + s.held + (reads_allowed c.loop-count.reader) * size
    ≤ g.J.JobContract.count c.args.job.now + (reads_allowed c.args.reader.now) * size =
    i.few in
    let goes =
    goes_on c.args.quotes g.J.JobContract.taken (take s.held page)
    (take c.in-Ok.count part) _ c.in_ok-start.ensures.ok
    (read_behind s.held c.in-Ok.count page part _ (omega (arith, fits)) c.in-Ok.ensures.bound) in
    let next = c.in_ok-start.start in
    let rest : List ℕ = drop (length c.take_page.new.page) c.lengthen.new.page.items in
    let kept =
    page_kept next.held c.lengthen.new.page.len c.take_page.new.page rest (omega (
      arith,
      fits,
      c.as_mut_slice-page.ensures.len,
      c.in_ok-start.ensures.within,
      c.in-Ok.ensures.bound,
      full,
    )) (omega (
      arith,
      fits,
      c.take_page.auto.page,
      c.in_ok-start.ensures.within,
      c.in-Ok.ensures.bound,
      full,
    )) in
    let all =
    took_more c.args.quotes g.J.JobContract.taken g.met.J.JobContract.taken_then took _ (reads_allowed
    c.read.new.self) part c.in-Ok.count _ _ c.in-Ok.ensures.bytes count c.in-Ok.ensures.bound full
    c.in-Ok.ensures.counted goes in
    record {
      took = rw kept all;
      uncut = rw kept c.in_ok-start.ensures.uncut;
      outside = c.in_ok-start.ensures.outside;
      short = c.in_ok-start.ensures.short;
      within =
          omega (
            arith,
            ap length kept,
            length-take {A = ℕ},
            fits,
            c.as_mut_slice-page.ensures.len,
            c.take_page.auto.page,
            c.in_ok-start.ensures.within,
            c.in-Ok.ensures.bound,
            full,
          );
      room = omega (arith, c.lengthen.ensures.room, i.room);
      settled = c.in_ok-start.ensures.settled;
      few = omega (arith, less, before, c.in_ok-start.ensures.counted, c.in-Ok.ensures.bound, full);
      sound = c.in-Ok.ensures.ok ∙ i.sound;
      same = c.in-Ok.ensures.same ∙ i.same;
    }

pub returns-in_err-start-clause-err : goal.returns-in_err-start-clause-err
returns-in_err-start-clause-err g c =
    let p = err_from_is_err_and c.from_residual.result c.from_residual.ensures.1 in
    let s = c.loop-count.start in
    let size = c.args.size in
    let page : List ℕ = c.as_mut_slice-page.result.now in
    let i = c.loop-count.invariant in
    let same : take s.held page ≡ take s.held c.loop-count.page.items =
    ap (take s.held) c.as_mut_slice-page.ensures.value ∙ c.lengthen.ensures.kept s.held i.within in
    let took = rw (← same) at i.took in
    let uncut = rw (← same) at i.uncut in
    let begun : length (take s.held page) ≤ g.J.JobContract.longest = omega (arith, length-take {A = ℕ}, i.short) in
    let part = c.read.new.page in
    let fits : s.held + size ≤ length page =
    omega (arith, ap length c.as_mut_slice-page.ensures.value, c.lengthen.ensures.long) in
    let full : length part ≡ size = part_length s.held size page part c.read.auto.page fits in
    let some : 0 < (reads_allowed c.loop-count.reader) = omega (arith, c.in-Ok.ensures.counted) in
    let refuses =
    refused_on c.args.quotes g.J.JobContract.refused (take s.held page)
    (take c.in-Ok.count part) c.in_err-start.ensures.err
    (read_behind s.held c.in-Ok.count page part _ (omega (arith, fits)) c.in-Ok.ensures.bound) in
    rw (p.1, p.2) (inr (
      λ rows_in completes. took_refused c.args.quotes g.J.JobContract.taken g.J.JobContract.longest
          g.J.JobContract.refused g.J.JobContract.settled uncut begun took i.settled _ part c.in-Ok.count
          c.in-Ok.ensures.bytes (omega (arith, full, c.in-Ok.ensures.bound)) some refuses rows_in completes,
      c.in-Ok.ensures.ok ∙ i.sound,
    ))

pub returns-in_err-start-clause-room : goal.returns-in_err-start-clause-room
returns-in_err-start-clause-room g c = omega (arith, c.lengthen.ensures.room, c.loop-count.invariant.room)
