use Rattle.family.specs.Meaning.{meaning}
use Rattle.wiring.specs.View.{layout}
use Rattle.passes.proofs.Advancing.{Advancing}
use Rattle.passes.proofs.advance.Given as goal

abbrev pub invariant-loop-slot : goal.invariant-loop-slot
invariant-loop-slot g l = Advancing (meaning g.F.Family) (layout l.wiring) l.signals.entries.now l.initial.records l.records l.slot-index
