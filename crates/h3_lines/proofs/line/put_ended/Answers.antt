use Rattle.std.proofs.Common.{◌+◌, ◌-◌, arith, length}
use Rattle.h3_lines.specs.BlockLaws.{bytes_put}
use Rattle.h3_lines.proofs.line.put_ended.Goals as goal

pub returns-clause-line : goal.returns-clause-line
returns-clause-line c =
    bytes_put c.args.block.now c.copy_from_slice.new.self c.args.bytes.now c.args.at c.args.count
    (c.args.at + length c.args.bytes.now - c.args.at) c.args.end
    c.copy_from_slice.ensures.after c.requires.within (omega arith) (omega (arith, c.told-block, c.requires.room))
