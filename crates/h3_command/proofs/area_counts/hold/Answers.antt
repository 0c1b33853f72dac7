use Rattle.std.proofs.Common.{◌≡◌, ◌+◌, ◌-◌, ◌++◌, ◌∷◌, [], arith, ap, ◌∙◌, length, take, take_all}
use Rattle.h3_lines.specs.BlockLaws.{bytes_put}
use Rattle.h3_command.proofs.area_counts.hold.Goals as goal

pub returns-clause-held : goal.returns-clause-held
returns-clause-held c =
    let block = c.args.block.now in
    let bytes = c.args.bytes.now in
    let at = c.args.at in
    let all : take (length bytes) bytes ≡ bytes = take_all (length bytes) bytes (omega arith) in
    bytes_put block c.copy_from_slice.new.self bytes at (length bytes) (at + length bytes - at) c.args.last
    c.copy_from_slice.ensures.after (omega arith) (omega arith) (omega (arith, c.told-block, c.requires))
    ∙ ap (λ l. take at block ++ (l ++ c.args.last ∷ [])) all
