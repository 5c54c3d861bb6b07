use Rattle.std.proofs.Common.{ap}
use Rattle.family.specs.Meaning.{meaning}
use Rattle.diagram.specs.Chart.{Chart}
use Rattle.diagram_tests.proofs.Calls.{given_back}
use Rattle.diagram_tests.proofs.scans.offered.Goals as goal

pub returns-clause-err : goal.returns-clause-err
returns-clause-err g c = given_back (meaning g.F.Family) _ _ c.settle.result _ _ c.settle.ensures.made c.settle.ensures.back (λ e. ap (λ (h : Chart). h.scan) e)
