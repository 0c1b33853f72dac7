use Rattle.std.proofs.Common.{◌≡◌, ◌∙◌, ◌++◌, ap, codes, inl, inr, refl, rules, subst, unwrap_or, w32}
use Rattle.std.proofs.KnownBytes.{Keeps-refl}
use Rattle.std.proofs.lemmas.Int.{to_z-of_z}
use Rattle.std.proofs.lemmas.Result.{err_from_is_err_and}
use Rattle.h3_lines.specs.Answer.{written}
use Rattle.h3_lines.specs.Write.{sink_use}
use Rattle.h3_command.specs.ParentEntries.{amounts_of}
use Rattle.h3_command.specs.ParentSums.{parent_sums}
use Rattle.h3_command.specs.Run.{WritesUnlessMemory}
use Rattle.h3_command.specs.SumAnswers.{amounts_among, sum_titles, title_or_sum}
use Rattle.h3_command.specs.SumRows.{titles_of}
use Rattle.h3_command.specs.SumTables.{sums_table}
use Rattle.h3_command.proofs.parent_sums.sum_by_parents.Goals as goal

pub returns-in_err-amounts : goal.returns-in_err-amounts
returns-in_err-amounts g c =
    let p = err_from_is_err_and c.from_residual.result c.from_residual.ensures.1 in
    let refused = rw (to_z-of_z w32 c.args.res (search rules)) at c.in_err-amounts.ensures.refused in
    rw (p.1, p.2) (inr (refused, (Keeps-refl _, refl)))

pub returns : goal.returns
returns g c =
    let (rows, all, more) = rw (to_z-of_z w32 c.args.res (search rules)) at c.in_ok-amounts.ensures.taken in
    let out = sink_use g.W.Sink.taken g.W.Sink.has_failed c.args.out.now c.write_parent_sums.new.out in
    let list = c.args.list.now in
    let pairs = c.in_ok-amounts.amounts.pairs.items in
    let same : amounts_of pairs ≡ amounts_among list.quotes rows =
    more.more ∙ ap (λ l. amounts_of l ++ amounts_among list.quotes rows) c.new.ensures.items in
    let sum_is : c.sum_title.result.now ≡ title_or_sum rows =
    c.sum_title.ensures ∙ ap (λ t. unwrap_or t (codes "sum")) more.title_is in
    let titled = c.titles_if-titles.ensures ∙ ap (λ t. titles_of list.has_header (codes "cell") t) sum_is in
    let wrote = rw (titled, c.deref_mut.ensures.value) at c.write_parent_sums.ensures in
    let answered =
    subst (λ l. WritesUnlessMemory (written
    (sums_table list.separator (sum_titles list.has_header (codes "cell") rows) (parent_sums l)))
    c.write_parent_sums.result out) same wrote in
    inl (rows, (c.in_ok-amounts.ensures.sound, all), answered)
