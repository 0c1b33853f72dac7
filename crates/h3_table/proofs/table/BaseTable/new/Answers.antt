use Rattle.std.proofs.Common.{◌∙◌, arith, sym}
use Rattle.h3_table.specs.Links.{links_in}
use Rattle.h3_table.proofs.SoundLaws.{links_within, sound_of}
use Rattle.h3_table.proofs.table.BaseTable.new.Goals as goal

pub invariant_of-result : goal.invariant_of-result
invariant_of-result c = record {
  within = c.requires;
  sound =
      sound_of (links_in c.args.links) (links_within c.args.links (omega arith) c.requires)
      (sym c.fault_of_links.ensures ∙ c.in-None.is);
}
