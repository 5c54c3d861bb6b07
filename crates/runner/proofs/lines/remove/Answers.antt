use Rattle.family.specs.Meaning.{meaning}
use Rattle.diagram.specs.Calls.{remove}
use Rattle.runner.proofs.Tries.{one_name}
use Rattle.runner.proofs.lines.remove.Goals as goal

pub returns : goal.returns
returns g c records signals said room = one_name (meaning g.F.Family) (λ _. 0) _ c.remove.result _ _ _ _ c.in_ok-handle.ensures.0 c.in_ok-handle.ensures.1 remove (c.remove.ensures records signals)
