use Rattle.std.proofs.Common.{sym, subst}
use Rattle.loop_file.specs.Files.{NoneUnfit}
use Rattle.loop_file.proofs.commands.Commands.of.Goals as goal

pub invariant_of-result : goal.invariant_of-result
invariant_of-result c = record { fit = subst NoneUnfit (sym c.of.ensures.lines) c.requires }
