use Rattle.std.proofs.Common.{[], ◌++◌, Result, Ok, Err, ap, ◌∙◌}
use Rattle.std.specs.Result.{IfOk}
use Rattle.h3_rows.specs.AreaLaws.{numbers_are_areas, rows_after}
use Rattle.h3_rows.specs.Areas.{cells_among, names_after, names_in, numbered}
use Rattle.h3_rows.proofs.AreaRows.{rows_are_first}
use Rattle.h3_rows.proofs.areas.read_areas.Goals as goal

if_ok : {A E : Type 0} (P Q : A → Type 0) → ((a : A) → P a → Q a) → (r : Result A E) → IfOk r P → IfOk r Q
if_ok P Q more (Ok a) p = more a p
if_ok P Q more (Err e) p = tt

pub returns-clause-areas : goal.returns-clause-areas
returns-clause-areas g c =
    let names = names_in c.new.result.bytes.items c.new.result.spans.items in
    let quotes = c.args.rows.now.quotes in
    if_ok _ _ (λ areas p. (
      p.0,
      p.1,
      p.2.1 ∙ ap (λ q. names_after q names (cells_among p.0)) c.new.ensures.quotes
          ∙ ap (λ l. names_after quotes l (cells_among p.0)) c.new.ensures.names,
      p.2.2 ∙ ap (λ l. l ++ numbered c.new.result.quotes names (cells_among p.0)) c.new-2.ensures.items
          ∙ ap (λ q. numbered q names (cells_among p.0)) c.new.ensures.quotes
          ∙ ap (λ l. numbered quotes l (cells_among p.0)) c.new.ensures.names
          ∙ numbers_are_areas quotes [] (cells_among p.0),
      p.2.3 ∙ ap (λ l. rows_after c.new.result.quotes names l p.0) c.new-3.ensures.items
          ∙ ap (λ q. rows_after q names [] p.0) c.new.ensures.quotes
          ∙ ap (λ l. rows_after quotes l [] p.0) c.new.ensures.names ∙ rows_are_first quotes p.0,
      p.2.4,
    )) c.take_named_cells.result c.take_named_cells.ensures.taken

pub returns-clause-quotes : goal.returns-clause-quotes
returns-clause-quotes g c =
    if_ok _ _ (λ areas p. p.2.0 ∙ c.new.ensures.quotes) c.take_named_cells.result c.take_named_cells.ensures.taken
