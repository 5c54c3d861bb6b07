use Rattle.std.proofs.Common.{◌≡◌, true, false, List, is_some}
use Rattle.family.specs.Meaning.{meaning}
use Rattle.passes.specs.Scan.{long}
use Rattle.diagram.specs.Calls.{Event}
use Rattle.diagram.specs.View.{chart, lent}
use Rattle.runner.specs.Scans.{Scanned}
use Rattle.runner.proofs.scans.scan.Given as goal

-- so many scans were made, and none is open
abbrev pub invariant-loop-n : goal.invariant-loop-n
invariant-loop-n g l =
    (is_some (chart l.diagram).scan ≡ false)
    × (long l.records l.signals ≡ true)
    × ((es : List (Event g.row.F-Signal.Denot)) × Scanned (meaning g.F.Family) (lent l.initial.diagram l.initial.records l.initial.signals) l._n es (lent l.diagram l.records l.signals))
