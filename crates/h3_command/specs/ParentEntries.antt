-- Rows whose cells and numbers are kept one after another. Implementations that state these laws and proofs alone cite
-- this file.
use Rattle.std.proofs.Common.{◌≡◌, ◌∙◌, Bool, List, [], ◌++◌, Option, ap, append-nil, append_assoc, map, refl, sym, ℕ}
use Rattle.h3_index.specs.Cell.{Address}
use Rattle.h3_numbers.specs.Number.{number_units}
use Rattle.h3_numbers.specs.declared.number.Number.{Number}
use Rattle.h3_rows.specs.Areas.{title_after}
use Rattle.h3_rows.specs.Named.{Entry}
use Rattle.h3_command.specs.AreaSums.{Amount}
use Rattle.h3_command.specs.SumAnswers.{amounts_among}
use Rattle.h3_command.specs.SumEntries.{amounts_both, title_both}

-- amount_of pair: a cell with its number, in units of 10^-18
abbrev pub amount_of : Address × Number → Amount
amount_of pair = (pair.0, number_units pair.1)

-- amounts_of pairs: the same of each
abbrev pub amounts_of : List (Address × Number) → List Amount
amounts_of pairs = map amount_of pairs

-- from these cells, with their numbers, and a title to others these entries were taken
pub record AmountsMore (quotes quotes' : Bool) (pairs pairs' : List (Address × Number))
    (title title' : Option (List ℕ)) (entries : List Entry) : Type 0 where
  pub quotes_kept : quotes' ≡ quotes
  pub title_is : title' ≡ title_after title entries
  pub more : amounts_of pairs' ≡ amounts_of pairs ++ amounts_among quotes entries

pub amounts_none : (quotes : Bool) (pairs : List (Address × Number)) (title : Option (List ℕ))
    → AmountsMore quotes quotes pairs pairs title title []
amounts_none quotes pairs title =
    record { quotes_kept = refl; title_is = refl; more = sym (append-nil (amounts_of pairs)) }

pub amounts_then : (quotes quotes' quotes'' : Bool) (p1 p2 p3 : List (Address × Number)) (t1 t2 t3 : Option (List ℕ))
    (xs ys : List Entry) → AmountsMore quotes quotes' p1 p2 t1 t2 xs → AmountsMore quotes' quotes'' p2 p3 t2 t3 ys
    → AmountsMore quotes quotes'' p1 p3 t1 t3 (xs ++ ys)
amounts_then quotes quotes' quotes'' p1 p2 p3 t1 t2 t3 xs ys p q = record {
  quotes_kept = q.quotes_kept ∙ p.quotes_kept;
  title_is = q.title_is ∙ ap (λ t. title_after t ys) p.title_is ∙ sym (title_both t1 xs ys);
  more =
      q.more ∙ ap (λ b. amounts_of p2 ++ amounts_among b ys) p.quotes_kept
      ∙ ap (λ l. l ++ amounts_among quotes ys) p.more
      ∙ append_assoc (amounts_of p1) (amounts_among quotes xs) (amounts_among quotes ys)
      ∙ ap (λ l. amounts_of p1 ++ l) (sym (amounts_both quotes xs ys));
}
