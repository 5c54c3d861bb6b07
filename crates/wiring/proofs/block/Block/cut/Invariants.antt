use Rattle.std.proofs.Common.{◌≡◌, ℕ, ◌<◌, ◌≤◌, get_or, None}
use Rattle.wiring.specs.Change.{off}
use Rattle.wiring.proofs.block.Block.cut.Given as goal

-- the ports so far have lost their wires from the slot, and the others are as they were
abbrev pub invariant-loop-source : goal.invariant-loop-source
invariant-loop-source l =
    ((k : ℕ) → k < l.source-index → get_or l.source-items k None ≡ off l.slot (get_or l.initial.source-items k None))
    × ((k : ℕ) → l.source-index ≤ k → get_or l.source-items k None ≡ get_or l.initial.source-items k None)
