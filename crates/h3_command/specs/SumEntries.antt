-- Rows whose numbers are added up by areas one after another. Implementations that state these laws and proofs alone
-- cite this file.
use Rattle.std.proofs.Common.{◌≡◌, ◌∙◌, ℕ, Bool, List, [], ◌∷◌, ◌++◌, Option, None, Some, append-nil, append_assoc, ap, length, refl, subst, sym}
use Rattle.h3_index.specs.Cell.{Address}
use Rattle.h3_numbers.specs.declared.sum.Sum.{Sum}
use Rattle.h3_rows.specs.Areas.{title_after, title_with}
use Rattle.h3_rows.specs.Named.{Entry}
use Rattle.h3_command.specs.AreaSums.{Amount}
use Rattle.h3_command.specs.SumAnswers.{amount_before, amount_in, amounts_among}
use Rattle.h3_command.specs.SumTally.{AreAreaSums}

-- from sums and a title to others these entries were taken, whatever was taken before
pub record SumsMore (areas areas' : List (Address × ℕ)) (quotes quotes' : Bool) (sums : List Sum) (none : Sum)
    (sums' : List Sum)
    (none' : Sum) (title title' : Option (List ℕ)) (entries : List Entry) : Type 0 where
  pub areas_kept : areas' ≡ areas
  pub quotes_kept : quotes' ≡ quotes
  pub size : length sums' ≡ length sums
  pub title_is : title' ≡ title_after title entries
  pub more : (before : List Amount) → AreAreaSums areas before sums none
      → AreAreaSums areas (before ++ amounts_among quotes entries) sums' none'

pub sums_none : (areas : List (Address × ℕ)) (quotes : Bool) (sums : List Sum) (none : Sum) (title : Option (List ℕ))
    → SumsMore areas areas quotes quotes sums none sums none title title []
sums_none areas quotes sums none title = record {
  areas_kept = refl;
  quotes_kept = refl;
  size = refl;
  title_is = refl;
  more = λ before h. subst (λ l. AreAreaSums areas l sums none) (sym (append-nil before)) h;
}

pub amounts_both : (quotes : Bool) (xs ys : List Entry)
    → amounts_among quotes (xs ++ ys) ≡ amounts_among quotes xs ++ amounts_among quotes ys
amounts_both quotes [] ys = refl
amounts_both quotes (e ∷ xs) ys =
    let go : (cell : Option Address) → amount_before quotes cell e.field (amounts_among quotes (xs ++ ys))
    ≡ amount_before quotes cell e.field (amounts_among quotes xs) ++ amounts_among quotes ys =
    λ cell. elim cell as (λ cell. amount_before quotes cell e.field (amounts_among quotes (xs ++ ys))
    ≡ amount_before quotes cell e.field (amounts_among quotes xs) ++ amounts_among quotes ys) [
      | None ↦ amounts_both quotes xs ys
      | Some c ↦ ap (λ l. (c, amount_in quotes e.field) ∷ l) (amounts_both quotes xs ys)
    ] in
    go e.cell

pub title_both : (title : Option (List ℕ)) (xs ys : List Entry)
    → title_after title (xs ++ ys) ≡ title_after (title_after title xs) ys
title_both title [] ys = refl
title_both title (x ∷ xs) ys = title_both (title_with title x.cell x.field) xs ys

pub sums_then : (areas areas' areas'' : List (Address × ℕ)) (quotes quotes' quotes'' : Bool) (s1 s2 s3 : List Sum)
    (n1 n2 n3 : Sum)
    (t1 t2 t3 : Option (List ℕ)) (xs ys : List Entry) → SumsMore areas areas' quotes quotes' s1 n1 s2 n2 t1 t2 xs
    → SumsMore areas' areas'' quotes' quotes'' s2 n2 s3 n3 t2 t3 ys
    → SumsMore areas areas'' quotes quotes'' s1 n1 s3 n3 t1 t3 (xs ++ ys)
sums_then areas areas' areas'' quotes quotes' quotes'' s1 s2 s3 n1 n2 n3 t1 t2 t3 xs ys p q = record {
  areas_kept = q.areas_kept ∙ p.areas_kept;
  quotes_kept = q.quotes_kept ∙ p.quotes_kept;
  size = q.size ∙ p.size;
  title_is = q.title_is ∙ ap (λ t. title_after t ys) p.title_is ∙ sym (title_both t1 xs ys);
  more = λ before h. (
      let step : (l : List Amount) → AreAreaSums areas l s2 n2
      → AreAreaSums areas (l ++ amounts_among quotes ys) s3 n3 =
      subst (λ a. (l : List Amount) → AreAreaSums a l s2 n2
      → AreAreaSums a (l ++ amounts_among quotes ys) s3 n3) p.areas_kept
      (subst (λ b. (l : List Amount) → AreAreaSums areas' l s2 n2 → AreAreaSums areas' (l ++ amounts_among b ys) s3 n3)
      p.quotes_kept q.more) in
      subst (λ l. AreAreaSums areas l s3 n3)
      (append_assoc before (amounts_among quotes xs) (amounts_among quotes ys)
      ∙ ap (λ l. before ++ l) (sym (amounts_both quotes xs ys)))
      (step (before ++ amounts_among quotes xs) (p.more before h)));
}
