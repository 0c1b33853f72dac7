use Rattle.std.proofs.Common.{inl}
use Rattle.h3_command.proofs.sets.UniteListListFunction.write.Goals as goal

pub returns : goal.returns
returns g c = inl c.write_united.ensures
