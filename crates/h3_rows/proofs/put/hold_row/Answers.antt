use Rattle.std.proofs.Common.{◌+◌, ◌-◌, arith, length}
use Rattle.h3_rows.proofs.Blocks.{all_put}
use Rattle.h3_rows.proofs.put.hold_row.Goals as goal

pub returns-clause-held : goal.returns-clause-held
returns-clause-held c =
    all_put c.args.block.now c.copy_from_slice.new.self c.args.row.now c.args.at
    (c.args.at + length c.args.row.now - c.args.at) c.args.last
    c.copy_from_slice.ensures.after (omega arith) (omega (arith, c.told-block, c.requires))
