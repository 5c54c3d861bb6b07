use Rattle.loop_file.proofs.Turns.{left_fits, given}
use Rattle.loop_file.proofs.commands.next_of.Goals as goal

pub returns-clause-gives : goal.returns-clause-gives
returns-clause-gives c = given c.command_of.result _ _ c.in_ok-next.field-0.now c.requires c.in_ok-next.ensures.steps c.command_of.ensures.said

pub returns-clause-fit : goal.returns-clause-fit
returns-clause-fit c = left_fits c.next.result _ _ c.requires c.next.ensures.steps
