use Rattle.std.proofs.Common.{◌≡◌, ◌+◌, ◌≤◌, false, length}
use Rattle.wiring.specs.Sound.{rank_in}
use Rattle.wiring.specs.Layout.{rank_of}
use Rattle.wiring.specs.Pass.{Marks, marked, segment}
use Rattle.wiring.specs.View.{layout}
use Rattle.wiring.proofs.wiring.Wiring.pass.Given as goal

-- the ranks so far are marked and counted
abbrev pub invariant-loop-slot : goal.invariant-loop-slot
invariant-loop-slot l =
    (length l.marks ≡ 256)
    × Marks (layout l.self) (rank_in l.self.rank) l.target (l.from + l.slot-index) l.marks
    × (l.others ≡ length (marked l.marks false (segment l.self.order (rank_of (layout l.self) l.target) (l.from + l.slot-index))))
    × (l.others ≤ (l.from + l.slot-index))
