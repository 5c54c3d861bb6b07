use Rattle.std.proofs.Common.{◌≡◌, ◌≤◌, length, drop}
use Rattle.words.specs.Left.{lines_left}
use Rattle.words.specs.Parts.{lines_of}
use Rattle.loop_file.specs.Files.{FitBelow}
use Rattle.loop_file.proofs.lines.count_lines.Given as goal

-- so many lines fit, and the others are left
abbrev pub invariant-loop-before : goal.invariant-loop-before
invariant-loop-before l =
    (lines_left l.before-iterator.iter ≡ drop l.lines (lines_of l.file))
    × FitBelow l.lines (lines_of l.file)
    × (l.lines ≤ length (lines_of l.file))
    × (l.before-iterator.count ≡ l.lines)
