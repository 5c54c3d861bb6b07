use Rattle.std.proofs.Common.{rules}
use Rattle.family.specs.Meaning.{meaning}
use Rattle.diagram.specs.Calls.{wire}
use Rattle.runner.proofs.Tries.{two_names}
use Rattle.runner.proofs.lines.wire.Goals as goal

pub returns : goal.returns
returns g c records signals said room =
    two_names (meaning g.F.Family) (λ _. 0) _ c.wire.result _ _ _ _ c.in_ok-to.to c.in-Some.from c.in_ok-to.ensures.0 c.in_ok-to.ensures.1 (search rules) (λ t s. wire t c.args.port s) (c.wire.ensures records signals)
