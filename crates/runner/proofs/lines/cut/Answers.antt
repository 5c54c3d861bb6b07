use Rattle.family.specs.Meaning.{meaning}
use Rattle.diagram.specs.Calls.{cut}
use Rattle.runner.proofs.Tries.{one_name}
use Rattle.runner.proofs.lines.cut.Goals as goal

pub returns : goal.returns
returns g c records signals said room = one_name (meaning g.F.Family) (λ _. 0) _ c.cut.result _ _ _ _ c.in_ok-handle.ensures.0 c.in_ok-handle.ensures.1 (λ h. cut h c.args.port) (c.cut.ensures records signals)
