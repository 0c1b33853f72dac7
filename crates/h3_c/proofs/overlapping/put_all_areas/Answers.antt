use Rattle.std.proofs.Common.{◌≡◌, ◌∙◌, ◌++◌, ◌∷◌, [], ◌+◌, Ok, length, take, nat_le, slice_index_or, refl, sym, ap, arith}
use Rattle.std.specs.Int.{from_bool}
use Rattle.std.specs.Result.{result_unwrap_or}
use Rattle.h3_functions.specs.Inspection.{cell_from, for_value}
use Rattle.h3_regions.specs.Areas.{areas_of}
use Rattle.h3_c.specs.Lists.{laid_over}
use Rattle.h3_c.specs.Overlapping.{all_areas, area_counts}
use Rattle.h3_c.specs.Starts.{fitting, greatest_place, sizes_of, starts_from}
use Rattle.h3_c.proofs.Columns.{few-next}
use Rattle.h3_c.proofs.OverlappingLaws.{all_fitting, areas-full, areas-next, counted, fitting-next, length-all_areas, length-areas}
use Rattle.h3_c.proofs.StartLaws.{ended, ended-starts, length-sizes, sizes-next, starts-first, starts-next, stopped, stopped-starts, total, total-nil, total-snoc}
use Rattle.h3_c.proofs.overlapping.put_all_areas.Goals as goal

pub loop-i-init : goal.loop-i-init
unfolding fitting laid_over
loop-i-init c =
    record {
      few = omega arith;
      fits = refl;
      end = sym total-nil;
      within = omega arith;
      put = starts-first c.args.starts.now (omega (arith, c.requires.room));
      listed = refl;
    }

pub loop-i-preserved : goal.loop-i-preserved
loop-i-preserved c =
    let hs = c.args.indexes.now in
    let areas = c.args.areas.now in
    let i = c.loop-i.i in
    let h = slice_index_or hs i 0 in
    let size = c.areas_of_index-size.result in
    let ns = sizes_of (area_counts areas (take i hs)) in
    let many : size ≡ result_unwrap_or (for_value (λ x. Ok (length (areas_of areas x))) (cell_from h)) 0 =
    counted areas (slice_index_or c.args.indexes.now c.loop-i.i 0) c.areas_of_index-size.result
    c.areas_of_index-size.new.found c.areas_of_index-size.ensures.fewer c.areas_of_index-size.ensures.are
    ∙ length-areas areas h in
    let next : sizes_of (area_counts areas (take (i + 1) hs)) ≡ ns ++ size ∷ [] =
    sizes-next (λ k. for_value (λ x. Ok (length (areas_of areas x))) (cell_from k)) hs i
    (for_value (λ x. Ok (length (areas_of areas x))) (cell_from h)) c.loop-i-test.true refl
    ∙ ap (λ n. ns ++ n ∷ []) (sym many) in
    let long : length ns ≡ i =
    length-sizes (λ k. for_value (λ x. Ok (length (areas_of areas x))) (cell_from k)) hs i
    (omega (arith, c.loop-i-test.true)) in
    let sum : total (sizes_of (area_counts areas (take (i + 1) hs))) ≡ total ns + size =
    ap total next ∙ total-snoc ns size in
    let before = all_areas areas (take i hs) in
    let room = length c.args.numbers.now in
    let same : length c.put_numbers_from.new.out ≡ room = c.put_numbers_from.auto.out ∙ c.loop-i.auto.numbers in
    record {
      few = rw c.from-fitting.ensures (few-next c.loop-i.fitting i _ c.loop-i.invariant.few);
      fits = ap (λ n. c.loop-i.fitting + n) c.from-fitting.ensures
          ∙ ap (λ k. c.loop-i.fitting + from_bool (nat_le (c.loop-i.end + size) k)) same
          ∙ ap (λ e. c.loop-i.fitting + from_bool (nat_le (e + size) room)) c.loop-i.invariant.end
          ∙ ap (λ n. n + from_bool (nat_le (total ns + size) room)) c.loop-i.invariant.fits
          ∙ sym (fitting-next ns size room)
          ∙ ap (fitting room) (sym next);
      end = omega (arith, sum, c.loop-i.invariant.end);
      within = omega (arith, c.if-size-end.false, c.loop-i.invariant.within);
      put =
          starts-next ns size i c.loop-i.end c.args.starts.now c.loop-i.starts long
          (omega (arith, c.loop-i-test.true, c.requires.room)) c.loop-i.invariant.end c.loop-i.invariant.put
          ∙ ap (λ l. laid_over (starts_from 0 l) c.args.starts.now) (sym next);
      listed =
          c.put_numbers_from.ensures before c.args.numbers.now
          (length-all_areas areas (take i hs) ∙ sym c.loop-i.invariant.end) c.loop-i.invariant.listed
          ∙ ap (λ l. laid_over (before ++ l) c.args.numbers.now) c.areas_of_index-size.ensures.are
          ∙ ap (λ l. laid_over l c.args.numbers.now) (sym (areas-next areas hs i c.loop-i-test.true));
    }

pub returns-then-size-end-clause-fitting : goal.returns-then-size-end-clause-fitting
returns-then-size-end-clause-fitting c =
    let areas = c.args.areas.now in
    let hs = c.args.indexes.now in
    let many =
    counted areas (slice_index_or c.args.indexes.now c.loop-i.i 0) c.areas_of_index-size.result
    c.areas_of_index-size.new.found c.areas_of_index-size.ensures.fewer c.areas_of_index-size.ensures.are
    ∙ length-areas areas (slice_index_or hs c.loop-i.i 0) in
    c.loop-i.invariant.fits
    ∙ all_fitting (λ k. for_value (λ x. Ok (length (areas_of areas x))) (cell_from k)) hs c.loop-i.i c.loop-i.end
    c.areas_of_index-size.result (length c.args.numbers.now) c.loop-i-test.true c.loop-i.invariant.end many
    (omega (arith, c.if-size-end.true, c.loop-i.invariant.within, c.are_few.ensures))

pub returns-then-size-end-clause-starts : goal.returns-then-size-end-clause-starts
returns-then-size-end-clause-starts c =
    let areas = c.args.areas.now in
    let hs = c.args.indexes.now in
    let many =
    counted areas (slice_index_or c.args.indexes.now c.loop-i.i 0) c.areas_of_index-size.result
    c.areas_of_index-size.new.found c.areas_of_index-size.ensures.fewer c.areas_of_index-size.ensures.are
    ∙ length-areas areas (slice_index_or hs c.loop-i.i 0) in
    let fits =
    stopped (λ k. for_value (λ x. Ok (length (areas_of areas x))) (cell_from k)) hs c.loop-i.i c.loop-i.end
    c.areas_of_index-size.result greatest_place c.loop-i-test.true c.loop-i.invariant.end c.loop-i.invariant.within
    many (omega (arith, c.if-size-end.true, c.loop-i.invariant.within)) in
    c.loop-i.invariant.put
    ∙ ap (λ l. laid_over l c.args.starts.now) (sym (stopped-starts
    (λ k. for_value (λ x. Ok (length (areas_of areas x))) (cell_from k)) hs c.loop-i.i _ c.loop-i-test.true fits))

pub returns-then-size-end-clause-numbers : goal.returns-then-size-end-clause-numbers
returns-then-size-end-clause-numbers c =
    let areas = c.args.areas.now in
    let hs = c.args.indexes.now in
    let before = all_areas areas (take c.loop-i.i hs) in
    c.put_numbers_from.ensures before c.args.numbers.now
    (length-all_areas areas (take c.loop-i.i hs) ∙ sym c.loop-i.invariant.end) c.loop-i.invariant.listed
    ∙ ap (λ l. laid_over (before ++ l) c.args.numbers.now) c.areas_of_index-size.ensures.are
    ∙ areas-full areas hs c.args.numbers.now c.loop-i.i c.loop-i.end c.areas_of_index-size.result c.loop-i-test.true
    c.loop-i.invariant.end (counted areas (slice_index_or c.args.indexes.now c.loop-i.i 0)
    c.areas_of_index-size.result c.areas_of_index-size.new.found c.areas_of_index-size.ensures.fewer
    c.areas_of_index-size.ensures.are)
    (omega (arith, c.if-size-end.true, c.loop-i.invariant.within, c.are_few.ensures))

pub returns-clause-starts : goal.returns-clause-starts
returns-clause-starts c =
    let areas = c.args.areas.now in
    let hs = c.args.indexes.now in
    let last : c.loop-i.i ≡ length hs = omega (arith, c.loop-i.auto.i-end, c.loop-i-test.false) in
    let fits =
    ended (λ k. for_value (λ x. Ok (length (areas_of areas x))) (cell_from k)) hs c.loop-i.i c.loop-i.end
    greatest_place last c.loop-i.invariant.end c.loop-i.invariant.within in
    c.loop-i.invariant.put
    ∙ ap (λ l. laid_over l c.args.starts.now) (sym
    (ended-starts (λ k. for_value (λ x. Ok (length (areas_of areas x))) (cell_from k)) hs c.loop-i.i _ last fits))
