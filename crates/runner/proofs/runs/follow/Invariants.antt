use Rattle.std.proofs.Common.{◌≡◌, ℕ, ◌≤◌, true, List, ◌++◌, length, drop}
use Rattle.family.specs.Meaning.{meaning}
use Rattle.passes.specs.Scan.{long}
use Rattle.diagram.specs.Calls.{Event}
use Rattle.diagram.specs.View.{lent}
use Rattle.words.specs.Left.{lines_left}
use Rattle.runner.specs.Desks.{desk_of}
use Rattle.runner.specs.Runs.{Followed}
use Rattle.runner.proofs.runs.follow.Given as goal

-- so many lines were followed, the others are ahead, and the reply stands up to what was written
abbrev pub invariant-loop-before : goal.invariant-loop-before
invariant-loop-before g l =
    (done : List (List ℕ)) × (es : List (Event g.row.F-Signal.Denot))
    × (lines_left l.fn.commands.lines ≡ done ++ lines_left l.before-iterator.iter.lines)
    × Followed (meaning g.F.Family) (desk_of (lent l.initial.diagram l.initial.records l.initial.signals) l.initial.names l.initial.reply 0) done es (desk_of (lent l.diagram l.records l.signals) l.names l.reply l.written)
    × (length done ≡ l.before-iterator.count)
    × (long l.records l.signals ≡ true)
    × (l.written ≤ length l.reply)
    × (drop l.written l.reply ≡ drop l.written l.initial.reply)
