use Rattle.std.proofs.Common.{w32, rules, arith, of_z, to_z, ◌≡◌, ◌∙◌, ◌+◌, ◌-◌, ◌++◌, ◌∷◌, [], ℤ, length, take, drop, suc, slice_index_or, refl, sym, ap, append_assoc, append-nil, take_all}
use Rattle.std.proofs.lemmas.Int.{to_z-of_z}
use Rattle.std.proofs.lemmas.List.{length-append}
use Rattle.h3_c.specs.Disks.{all_disks, disks, walk_items, whole_walks}
use Rattle.h3_c.specs.Lists.{indexes, laid_over}
use Rattle.h3_c.specs.Tables.{grid_disk_unsafe}
use Rattle.h3_c.specs.Walks.{given, items_code}
use Rattle.h3_c.proofs.DiskLaws.{code-ended, code-whole, flat-next, flat-split, given-whole_more, length-given, map-next, map-split, put-ended, walks-ended, walks-whole}
use Rattle.h3_c.proofs.disks.h3w_gridDisksUnsafe.Goals as goal

pub loop-i-init : goal.loop-i-init
unfolding given laid_over
loop-i-init c =
    let same : length c.args.out.now - 0 ≡ length c.args.out.now = omega arith in
    record {
      code = λ more. ap (items_code more) (sym same);
      cells = λ more. refl;
      place = refl;
      within = omega arith;
      put = refl;
      walks = λ more. omega (arith, ap (λ n. whole_walks n more) same);
    }

pub loop-i-preserved : goal.loop-i-preserved
loop-i-preserved c =
    let hs = c.args.cells.now in
    let k : ℤ = to_z w32 (of_z w32 c.args.k) in
    let table = c.args.table.now in
    let i = c.loop-i.i in
    let room = length c.args.out.now in
    let place = c.loop-i.place in
    let before = all_disks table (take i hs) k in
    let own = walk_items (grid_disk_unsafe table (slice_index_or hs i 0) k) in
    let same : length c.loop-i.out ≡ room = c.loop-i.auto.out in
    let none : items_code own (room - place) ≡ 0 =
    ap (λ n. items_code own (n - place)) (sym same) ∙ sym c.put_disk_of-code.ensures.code ∙ c.if-code-ne0.false in
    let next : all_disks table (take (i + 1) hs) k ≡ before ++ own =
    flat-next (λ h. walk_items (grid_disk_unsafe table h k)) hs i c.loop-i-test.true in
    let end : c.put_disk_of-code.result.1 ≡ place + length own = c.put_disk_of-code.ensures.end c.if-code-ne0.false in
    let left : room - place - length own ≡ room - c.put_disk_of-code.result.1 = omega (arith, end) in
    let cells : given (all_disks table (take (i + 1) hs) k) ≡ given before ++ given own =
    ap given next ∙ c.loop-i.invariant.cells own in
    let long = ap length cells ∙ length-append (given before) (given own) in
    record {
      code =
          λ more. ap (λ l. items_code (l ++ more) room) next
          ∙ ap (λ l. items_code l room) (append_assoc before own more) ∙ c.loop-i.invariant.code (own ++ more)
          ∙ code-whole own more (room - place) none ∙ ap (items_code more) left;
      cells =
          λ more. ap (λ l. given (l ++ more)) next ∙ ap given (append_assoc before own more)
          ∙ c.loop-i.invariant.cells (own ++ more)
          ∙ ap (λ l. given before ++ l) (given-whole_more own more (room - place) none)
          ∙ sym (append_assoc (given before) (given own) (given more)) ∙ ap (λ l. l ++ given more) (sym cells);
      place = omega (arith, end, c.loop-i.invariant.place, long, length-given own (room - place) none);
      within = omega (arith, same, c.put_disk_of-code.ensures.within);
      put =
          c.put_disk_of-code.ensures.put (given before) c.args.out.now
          (sym c.loop-i.invariant.place) c.loop-i.invariant.put
          ∙ ap (λ l. laid_over (indexes l) c.args.out.now) (sym cells);
      walks = λ more.
          let all =
          ap (λ l. whole_walks room (l ++ more))
          (map-next (λ h. walk_items (grid_disk_unsafe table h k)) hs i c.loop-i-test.true)
          ∙ ap (whole_walks room) (append_assoc (disks table (take i hs) k) (own ∷ []) more)
          ∙ c.loop-i.invariant.walks (own ∷ more) in
          omega (arith, all, walks-whole own more (room - place) none, ap (λ n. whole_walks n more) left);
    }

pub returns-then-code-ne0-clause-code : goal.returns-then-code-ne0-clause-code
returns-then-code-ne0-clause-code c =
    let hs = c.args.cells.now in
    let k : ℤ = to_z w32 (of_z w32 c.args.k) in
    let table = c.args.table.now in
    let room = length c.args.out.now in
    let place = c.loop-i.place in
    let own = walk_items (grid_disk_unsafe table (slice_index_or hs c.loop-i.i 0) k) in
    let rest = all_disks table (drop (suc c.loop-i.i) hs) k in
    let same : length c.loop-i.out ≡ room = c.loop-i.auto.out in
    let code : items_code own (room - place) ≡ c.put_disk_of-code.result.0 =
    ap (λ n. items_code own (n - place)) (sym same) ∙ sym c.put_disk_of-code.ensures.code in
    sym (ap (λ l. items_code l room)
    (flat-split (λ h. walk_items (grid_disk_unsafe table h k)) hs c.loop-i.i c.loop-i-test.true)
    ∙ c.loop-i.invariant.code (own ++ rest)
    ∙ code-ended own rest (room - place) (λ z. c.if-code-ne0.true (sym code ∙ z)) ∙ code)
    ∙ ap (λ (z : ℤ). items_code (all_disks table hs z) room) (to_z-of_z w32 c.args.k (search rules))

pub returns-then-code-ne0-clause-list : goal.returns-then-code-ne0-clause-list
returns-then-code-ne0-clause-list c =
    let hs = c.args.cells.now in
    let k : ℤ = to_z w32 (of_z w32 c.args.k) in
    let table = c.args.table.now in
    let room = length c.args.out.now in
    let place = c.loop-i.place in
    let before = all_disks table (take c.loop-i.i hs) k in
    let own = walk_items (grid_disk_unsafe table (slice_index_or hs c.loop-i.i 0) k) in
    let rest = all_disks table (drop (suc c.loop-i.i) hs) k in
    let same : length c.loop-i.out ≡ room = c.loop-i.auto.out in
    let code : items_code own (room - place) ≡ c.put_disk_of-code.result.0 =
    ap (λ n. items_code own (n - place)) (sym same) ∙ sym c.put_disk_of-code.ensures.code in
    c.put_disk_of-code.ensures.put (given before) c.args.out.now (sym c.loop-i.invariant.place) c.loop-i.invariant.put
    ∙ sym (ap (λ l. laid_over (indexes (given l)) c.args.out.now)
    (flat-split (λ h. walk_items (grid_disk_unsafe table h k)) hs c.loop-i.i c.loop-i-test.true)
    ∙ ap (λ l. laid_over (indexes l) c.args.out.now) (c.loop-i.invariant.cells (own ++ rest))
    ∙ put-ended own rest (given before) c.args.out.now (room - place) (λ z. c.if-code-ne0.true (sym code ∙ z))
    (omega (arith, c.loop-i.invariant.place, c.loop-i.invariant.within)))
    ∙ ap (λ (z : ℤ). laid_over (indexes (given (all_disks table hs z))) c.args.out.now)
    (to_z-of_z w32 c.args.k (search rules))

pub returns-then-code-ne0-clause-place : goal.returns-then-code-ne0-clause-place
returns-then-code-ne0-clause-place c =
    let hs = c.args.cells.now in
    let k : ℤ = to_z w32 (of_z w32 c.args.k) in
    let table = c.args.table.now in
    let room = length c.args.out.now in
    let place = c.loop-i.place in
    let own = walk_items (grid_disk_unsafe table (slice_index_or hs c.loop-i.i 0) k) in
    let rest = disks table (drop (suc c.loop-i.i) hs) k in
    let same : length c.loop-i.out ≡ room = c.loop-i.auto.out in
    let code : items_code own (room - place) ≡ c.put_disk_of-code.result.0 =
    ap (λ n. items_code own (n - place)) (sym same) ∙ sym c.put_disk_of-code.ensures.code in
    let all =
    ap (whole_walks room)
    (map-split (λ h. walk_items (grid_disk_unsafe table h k)) hs c.loop-i.i c.loop-i-test.true)
    ∙ c.loop-i.invariant.walks (own ∷ rest) in
    let ended = walks-ended own rest (room - place) (λ z. c.if-code-ne0.true (sym code ∙ z)) in
    let stopped : c.loop-i.i ≡ whole_walks room (disks table hs k) = omega (arith, all, ended) in
    stopped ∙ ap (λ (z : ℤ). whole_walks room (disks table hs z)) (to_z-of_z w32 c.args.k (search rules))

pub returns-clause-code : goal.returns-clause-code
unfolding items_code
returns-clause-code c =
    let hs = c.args.cells.now in
    let k : ℤ = to_z w32 (of_z w32 c.args.k) in
    let table = c.args.table.now in
    let room = length c.args.out.now in
    let whole : take c.loop-i.i hs ≡ hs = take_all c.loop-i.i hs (omega (arith, c.loop-i-test.false)) in
    sym (ap (λ l. items_code l room) (sym (append-nil (all_disks table hs k)))
    ∙ ap (λ l. items_code (all_disks table l k ++ []) room) (sym whole) ∙ c.loop-i.invariant.code [])
    ∙ ap (λ (z : ℤ). items_code (all_disks table hs z) room) (to_z-of_z w32 c.args.k (search rules))

pub returns-clause-place : goal.returns-clause-place
unfolding whole_walks
returns-clause-place c =
    let hs = c.args.cells.now in
    let k : ℤ = to_z w32 (of_z w32 c.args.k) in
    let table = c.args.table.now in
    let room = length c.args.out.now in
    let whole : take c.loop-i.i hs ≡ hs = take_all c.loop-i.i hs (omega (arith, c.loop-i-test.false)) in
    let last : c.loop-i.i ≡ length hs = omega (arith, c.loop-i.auto.i-end, c.loop-i-test.false) in
    let all =
    ap (whole_walks room) (sym (append-nil (disks table hs k)))
    ∙ ap (λ l. whole_walks room (disks table l k ++ [])) (sym whole) ∙ c.loop-i.invariant.walks [] in
    let stopped : length hs ≡ whole_walks room (disks table hs k) = omega (arith, all, last) in
    stopped ∙ ap (λ (z : ℤ). whole_walks room (disks table hs z)) (to_z-of_z w32 c.args.k (search rules))
