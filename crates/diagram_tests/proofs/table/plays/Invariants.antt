use Rattle.std.proofs.Common.{◌≡◌}
use Rattle.diagram.specs.View.{chart}
use Rattle.diagram_tests.proofs.table.plays.Given as goal

abbrev pub invariant-loop-call : goal.invariant-loop-call
invariant-loop-call g l = (chart l.diagram).scan ≡ (chart l.initial.diagram).scan
