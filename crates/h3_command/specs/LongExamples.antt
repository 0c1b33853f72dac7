-- Answers of any number of lines at worked values, by computation.
use Rattle.std.specs.Prelude.{◌≡◌, [], ◌∷◌, ◌++◌, codes, pos, negsuc, None, Some, Ok, Err, refl}
use Rattle.std.specs.Fmt.{digits}
use Rattle.h3_index.specs.Cell.{number_of}
use Rattle.h3_index.specs.CellNumber.{address_in, cell_in}
use Rattle.h3_index.specs.Count.{base_cell, number_below}
use Rattle.h3_index.specs.Descendants.{descendants}
use Rattle.h3_index.specs.Paths.{paths}
use Rattle.h3_index.specs.Text.{text_of}
use Rattle.h3_index.specs.declared.error.H3Error.TheVariants.{Domain, Failed, Pentagon, ResDomain}
use Rattle.h3_table.specs.Vectors.{test_link}
use Rattle.h3_table.specs.declared.vectors.TestTable.TheVariants.{Plain}
use Rattle.h3_lines.specs.Answer.{refused, ring_line_by, whole_items, written}
use Rattle.h3_command.specs.LongAnswers.{children_for, disk_for, whole_walk}

-- the six children of a pentagon, and none above its resolution
pentagon : children_for (pos 1) (Some 0x8009fffffffffff)
    ≡ written (codes "81083ffffffffff" ++ 10 ∷ codes "8108bffffffffff" ++ 10 ∷ codes "8108fffffffffff" ++ 10
    ∷ codes "81093ffffffffff" ++ 10 ∷ codes "81097ffffffffff" ++ 10 ∷ codes "8109bffffffffff" ++ 10 ∷ [])
unfolding cell_in address_in number_of number_below descendants paths text_of
pentagon = refl

own_child : children_for (pos 5) (Some 0x85283473fffffff) ≡ written (codes "85283473fffffff" ++ 10 ∷ [])
unfolding cell_in address_in number_of number_below descendants paths text_of
own_child = refl

coarser : children_for (pos 4) (Some 0x85283473fffffff) ≡ refused ResDomain
unfolding cell_in address_in number_of number_below
coarser = refl

no_children : children_for (pos 1) None ≡ refused Failed
no_children = refl

-- a walk that is refused on its way has its error alone
refused_walk : whole_walk (Ok (Ok (base_cell 7) ∷ Ok (base_cell 8) ∷ Err Pentagon ∷ [])) ≡ Err Pentagon
refused_walk = refl

whole : whole_items (Ok (base_cell 7) ∷ Ok (base_cell 8) ∷ []) ≡ Ok (base_cell 7 ∷ base_cell 8 ∷ [])
whole = refl

-- the disk of a pentagon, and of a negative radius
no_disk : disk_for (test_link Plain) (pos 0) (Some 0x8009fffffffffff) ≡ refused Pentagon
unfolding cell_in address_in number_of
no_disk = refl

negative : disk_for (test_link Plain) (negsuc 0) (Some 0x85283473fffffff) ≡ refused Domain
unfolding cell_in address_in number_of
negative = refl

-- a cell and its ring, with a separator between them
parted : ring_line_by 44 (base_cell 20, 12) ≡ codes "8029fffffffffff,12" ++ 10 ∷ []
unfolding digits number_of text_of
parted = refl
