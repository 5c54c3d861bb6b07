use Rattle.std.proofs.Common.{ap}
use Rattle.std.proofs.lemmas.Result.{on_err_weaker}
use Rattle.family.specs.Meaning.{meaning}
use Rattle.diagram.specs.Calls.{solve}
use Rattle.diagram.specs.Chart.{Chart}
use Rattle.diagram_tests.proofs.Calls.{barred}
use Rattle.diagram_tests.proofs.open_scan.Goals as goal

pub returns-clause-err : goal.returns-clause-err
returns-clause-err g c = on_err_weaker c.solve.result (λ e. (ap (λ (h : Chart). h.scan) e, ap (λ (h : Chart). h.scans) e)) (barred (meaning g.F.Family) solve _ _ c.solve.result _ c.solve.ensures)
