use Rattle.loop_file.proofs.Unique.{one_order}
use Rattle.loop_file.proofs.parse.one_order.Goals as goal

pub returns : goal.returns
returns c = one_order
