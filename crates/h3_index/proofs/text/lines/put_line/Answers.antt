use Rattle.std.proofs.Common.{◌++◌, arith, ap, drop, take, ◌∙◌}
use Rattle.std.proofs.lemmas.Simd.{put_chunk_is}
use Rattle.h3_index.proofs.text.lines.put_line.Goals as goal

pub returns : goal.returns
returns c =
    let at = c.args.at in
    let bytes = c.args.bytes.now in
    put_chunk_is at bytes c.args.line (omega (arith, c.requires.room, c.requires.sixteen))
    ∙ ap (λ n. take at bytes ++ (c.args.line ++ drop n (drop at bytes))) c.requires.sixteen
