use Rattle.std.proofs.Common.{map}
use Rattle.std.specs.Prelude.{string_bytes}
use Rattle.h3_words.proofs.Reading.{fault_reported, names_command, passed, stands_whole}
use Rattle.h3_words.proofs.words.without_command.Goals as goal

pub unreachable-requires : goal.unreachable-requires
unreachable-requires c =
    let ws = map string_bytes c.args.words.now in
    names_command ws
    (passed _ ws (stands_whole _ ws c.in-Ok.ensures) c.in-Ok-try_get_matches_from.ensures.kinds) c.requires.unnamed

pub returns : goal.returns
returns c =
    let ws = map string_bytes c.args.words.now in
    fault_reported _ ws c.in-Err-try_get_matches_from.error (stands_whole _ ws c.in-Ok.ensures)
    c.in-Err-try_get_matches_from.ensures.kinds c.from_parse.result c.from_parse.ensures
