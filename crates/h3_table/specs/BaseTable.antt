-- The links of a table.
use Rattle.h3_table.specs.declared.table.BaseTable.{BaseTable}
use Rattle.h3_table.specs.Links.{Links, links_in}

-- link_of table: the links of a `BaseTable`
abbrev pub link_of : BaseTable → Links
link_of table = links_in table.links
