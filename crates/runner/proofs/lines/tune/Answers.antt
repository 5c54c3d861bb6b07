use Rattle.family.specs.Meaning.{meaning}
use Rattle.diagram.specs.Calls.{edit, tune}
use Rattle.runner.proofs.Tries.{one_name}
use Rattle.runner.proofs.lines.tune.Goals as goal

pub returns : goal.returns
returns g c signals said room = one_name (meaning g.F.Family) (λ _. 0) _ c.tune.result _ _ _ _ c.in_ok-handle.ensures.0 c.in_ok-handle.ensures.1 (λ h. edit h (tune c.args.params)) (c.tune.ensures signals)
