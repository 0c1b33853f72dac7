use Rattle.std.proofs.Common.{w32, rules, of_z, to_z, ℕ, ℤ, ◌≡◌, ◌≤◌, ◌∙◌, ◌++◌, ◌∷◌, List, [], Option, Some, Result, Ok, Err, is_err, ◌+◌, length, take, slice_index_or, refl, sym, ap, arith}
use Rattle.std.proofs.lemmas.Int.{to_z-of_z}
use Rattle.std.proofs.lemmas.List.{length-append}
use Rattle.std.specs.Result.{result_unwrap_or}
use Rattle.h3_index.specs.Cell.{Address}
use Rattle.h3_index.specs.declared.error.H3Error.{H3Error}
use Rattle.h3_functions.specs.Hierarchy.{cell_to_children, cell_to_children_size}
use Rattle.h3_functions.specs.Inspection.{for_value}
use Rattle.h3_c.specs.Column.{first_code}
use Rattle.h3_c.specs.Descendants.{end_after}
use Rattle.h3_c.specs.Lists.{indexes, laid_over}
use Rattle.h3_c.specs.Starts.{all_children, child_sizes, fitting, sizes_of}
use Rattle.h3_c.proofs.Columns.{few-next, missed-next, up_to-next}
use Rattle.h3_c.proofs.Laid.{indexes-full, is_no_more}
use Rattle.h3_c.proofs.StartLaws.{children-next, children-split, ended, has_no_room, has_room, is_err-size, length-children, length-own, stopped}
use Rattle.h3_c.proofs.starts.put_children.Goals as goal

-- the place after the children, and where there is an error after none
placed : (r : Result (List Address) H3Error) (place room : ℕ) (a : Result (Option ℕ) H3Error)
    → a ≡ for_value (λ all. Ok (end_after place (length all) room)) r → place ≤ room
    → result_unwrap_or a (Some place) ≡ end_after place (length (result_unwrap_or r [])) room
placed (Ok all) place room a is within = ap (λ b. result_unwrap_or b (Some place)) is
placed (Err e) place room a is within =
    let none : place + 0 ≡ place = omega arith in
    ap (λ b. result_unwrap_or b (Some place)) is ∙ rw (none, is_no_more place room within) refl

is_err-placed : (r : Result (List Address) H3Error) (place room : ℕ) (a : Result (Option ℕ) H3Error)
    → a ≡ for_value (λ all. Ok (end_after place (length all) room)) r → is_err a ≡ is_err r
is_err-placed (Ok all) place room a is = ap is_err is
is_err-placed (Err e) place room a is = ap is_err is

pub loop-i-init : goal.loop-i-init
unfolding first_code laid_over
loop-i-init c = record { few = omega arith; whole = refl; place = refl; within = omega arith; put = refl }

pub loop-i-preserved : goal.loop-i-preserved
loop-i-preserved c =
    let hs = c.args.cells.now in
    let res : ℤ = to_z w32 (of_z w32 c.args.res) in
    let i = c.loop-i.i in
    let h = slice_index_or hs i 0 in
    let own = result_unwrap_or (cell_to_children h res) [] in
    let rs = child_sizes res (take i hs) in
    let before = all_children res (take i hs) in
    let same : length c.loop-i.out ≡ length c.args.out.now = c.loop-i.auto.out in
    let answer = c.put_children_of-children.result in
    let is = c.put_children_of-children.ensures.end in
    let fits_before : c.loop-i.place ≤ length c.loop-i.out = omega (arith, same, c.loop-i.invariant.within) in
    let more : child_sizes res (take (i + 1) hs) ≡ rs ++ cell_to_children_size h res ∷ [] =
    up_to-next (λ k. cell_to_children_size k res) hs i (cell_to_children_size h res) c.loop-i-test.true refl in
    let errs : is_err answer ≡ is_err (cell_to_children_size h res) =
    is_err-placed (cell_to_children h res) c.loop-i.place (length c.loop-i.out) answer is ∙ is_err-size h res in
    let (at, fits) =
    has_room (c.loop-i.place + length own) _ c.in-Some.end (c.in-Some.ensures
    ∙ placed (cell_to_children h res) c.loop-i.place (length c.loop-i.out) answer is fits_before) in
    let next : all_children res (take (i + 1) hs) ≡ before ++ own = children-next res hs i c.loop-i-test.true in
    let long : length (all_children res (take (i + 1) hs)) ≡ length before + length own =
    ap length next ∙ length-append before own in
    record {
      few = rw c.from-missed.ensures (few-next c.loop-i.missed i _ c.loop-i.invariant.few);
      whole =
          rw (more, c.from-missed.ensures, c.is_err.ensures.value, errs)
          (missed-next c.loop-i.missed rs (cell_to_children_size h res) c.loop-i.invariant.whole);
      place = omega (arith, at, long, c.loop-i.invariant.place);
      within = omega (arith, at, fits, same);
      put =
          c.put_children_of-children.ensures.put before c.args.out.now
          (sym c.loop-i.invariant.place) c.loop-i.invariant.put
          ∙ ap (λ l. laid_over (indexes l) c.args.out.now) (sym next);
    }

pub returns-in-None-clause-fitting : goal.returns-in-None-clause-fitting
returns-in-None-clause-fitting c =
    let hs = c.args.cells.now in
    let res : ℤ = to_z w32 (of_z w32 c.args.res) in
    let h = slice_index_or hs c.loop-i.i 0 in
    let own = result_unwrap_or (cell_to_children h res) [] in
    let same : length c.loop-i.out ≡ length c.args.out.now = c.loop-i.auto.out in
    let fits_before : c.loop-i.place ≤ length c.loop-i.out = omega (arith, same, c.loop-i.invariant.within) in
    let full =
    has_no_room (c.loop-i.place + length own) _ (c.in-None.ensures ∙ placed (cell_to_children h res) c.loop-i.place
    (length c.loop-i.out) c.put_children_of-children.result c.put_children_of-children.ensures.end fits_before) in
    sym (stopped (λ k. cell_to_children_size k res) hs c.loop-i.i c.loop-i.place (length own) (length c.args.out.now)
    c.loop-i-test.true
    (c.loop-i.invariant.place ∙ length-children res (take c.loop-i.i hs)) c.loop-i.invariant.within (length-own h res)
    (omega (arith, full, same)))
    ∙ ap (λ (z : ℤ). fitting (length c.args.out.now) (sizes_of (child_sizes z hs)))
    (to_z-of_z w32 c.args.res (search rules))

pub returns-in-None-clause-children : goal.returns-in-None-clause-children
returns-in-None-clause-children c =
    let hs = c.args.cells.now in
    let res : ℤ = to_z w32 (of_z w32 c.args.res) in
    let i = c.loop-i.i in
    let h = slice_index_or hs i 0 in
    let own = result_unwrap_or (cell_to_children h res) [] in
    let before = all_children res (take i hs) in
    let same : length c.loop-i.out ≡ length c.args.out.now = c.loop-i.auto.out in
    let fits_before : c.loop-i.place ≤ length c.loop-i.out = omega (arith, same, c.loop-i.invariant.within) in
    let full =
    has_no_room (c.loop-i.place + length own) _ (c.in-None.ensures ∙ placed (cell_to_children h res) c.loop-i.place
    (length c.loop-i.out) c.put_children_of-children.result c.put_children_of-children.ensures.end fits_before) in
    let long : length (before ++ own) ≡ length before + length own = length-append before own in
    c.put_children_of-children.ensures.put before c.args.out.now (sym c.loop-i.invariant.place) c.loop-i.invariant.put
    ∙ sym (ap (λ l. laid_over (indexes l) c.args.out.now) (children-split res hs i c.loop-i-test.true)
    ∙ indexes-full (before ++ own) _ c.args.out.now (omega (arith, long, full, same, c.loop-i.invariant.place)))
    ∙ ap (λ (z : ℤ). laid_over (indexes (all_children z hs)) c.args.out.now) (to_z-of_z w32 c.args.res (search rules))

pub returns-clause-fitting : goal.returns-clause-fitting
returns-clause-fitting c =
    let hs = c.args.cells.now in
    let res : ℤ = to_z w32 (of_z w32 c.args.res) in
    let last : c.loop-i.i ≡ length hs = omega (arith, c.loop-i.auto.i-end, c.loop-i-test.false) in
    sym (ended (λ k. cell_to_children_size k res) hs c.loop-i.i c.loop-i.place (length c.args.out.now) last
    (c.loop-i.invariant.place ∙ length-children res (take c.loop-i.i hs)) c.loop-i.invariant.within)
    ∙ ap (λ (z : ℤ). fitting (length c.args.out.now) (sizes_of (child_sizes z hs)))
    (to_z-of_z w32 c.args.res (search rules))
