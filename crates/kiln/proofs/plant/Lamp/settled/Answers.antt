use Rattle.std.proofs.Common.{rules}
use Rattle.kiln.proofs.plant.Lamp.settled.Goals as goal

pub returns : goal.returns
returns c = record { fed_switch = search rules; timer = search rules }
