use Rattle.family.specs.Meaning.{meaning}
use Rattle.wiring.specs.View.{layout}
use Rattle.passes.proofs.Sweeping.{Sweeping}
use Rattle.passes.proofs.sweep.Given as goal

abbrev pub invariant-loop-slot : goal.invariant-loop-slot
invariant-loop-slot g l = Sweeping (meaning g.F.Family) (layout l.wiring) l.records.entries.now l.initial.signals l.signals l.slot-index
