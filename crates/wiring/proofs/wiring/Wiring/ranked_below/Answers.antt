use Rattle.std.proofs.Common.{rules}
use Rattle.wiring.proofs.Whole.{lawful}
use Rattle.wiring.proofs.wiring.Wiring.ranked_below.Goals as goal

pub returns : goal.returns
returns c = record { first = search rules; lawful = lawful c.args.self.now }
