use Rattle.std.proofs.Common.{◌≡◌, subst, refl, Option, Some, None}
use Rattle.clap.specs.Words.{found_of}
use Rattle.h3_words.specs.Rows.{AreFileOptions, HasFieldBy, HasFileRows, found_texts}
use Rattle.h3_words.specs.declared.options.CommandOption.TheVariants.{ZoneName, ZoneNameField}
use Rattle.h3_words.proofs.Separators.{names_need_cells, none_fits}
use Rattle.h3_words.proofs.rows.area_options.Goals as goal

none : {A : Type 0} (o : Option A) → ((x : A) → o ≡ Some x → ⊥) → o ≡ None
none None other = refl
none (Some x) other = absurd (other x refl)

pub returns-in_default-2 : goal.returns-in_default-2
returns-in_default-2 c = λ agree region zone names.
    let text = found_texts (found_of c.args.matches.now) in
    let bare = subst (HasFileRows text) (none _ c.in_default-2.not-Some) (c.in_ok-rows.ensures agree region zone) in
    names_need_cells text agree bare.1.0 bare.1.1

pub returns : goal.returns
returns c = λ agree region zone names.
    let text = found_texts (found_of c.args.matches.now) in
    let rows : AreFileOptions text c.in-Some-2.rows =
    subst (HasFileRows text) c.in-Some-2.is (c.in_ok-rows.ensures agree region zone) in
    record {
      rows = rows;
      name = subst (HasFieldBy text ZoneNameField ZoneName) c.in-Some.is (c.in_ok-name.ensures.read names);
      none = c.in_ok-none.ensures.read (none_fits text c.in-Some-2.rows.separator rows.separator agree);
      overlapping = c.is_given.ensures;
    }
