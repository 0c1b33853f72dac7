use Rattle.h3_words.specs.declared.options.CommandOption.TheVariants.{ByField, Field, RegionField, SumField, ZoneField, ZoneNameField}
use Rattle.h3_words.proofs.rows.tables.Goals as goal

pub returns : goal.returns
returns c = λ agree accepted. (
  c.in_ok-row_options.ensures agree (accepted Field),
  c.in_ok-field_by.ensures.read (accepted SumField),
  c.in_ok-field_by-2.ensures.read (accepted ByField),
  c.in_ok-cell_options.ensures agree (accepted RegionField) (accepted ZoneField),
  c.in_ok-area_options.ensures agree (accepted RegionField) (accepted ZoneField) (accepted ZoneNameField),
)
