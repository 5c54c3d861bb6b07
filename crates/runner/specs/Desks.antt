-- A desk, and what a line's answer says, in a clause.
use Rattle.std.specs.Prelude.{ℕ, ◌≤◌, List, length, take, Some, None, Ok, Err, Option, Result}
use Rattle.refusal.specs.declared.refusals.Refusal.{Refusal}
use Rattle.diagram.specs.declared.diagram.Diagram.{Diagram}
use Rattle.diagram.specs.View.{Lent, lent}
use Rattle.loop_file.specs.Orders.{Order, nothing, block, wire, cut, remove, tune, feed, scan, show}
use Rattle.runner.specs.declared.names.Names.{Names}
use Rattle.runner.specs.Lines.{Desk}

-- a desk of these parts
abbrev pub desk : {F R S : Type 0} → Diagram F → List R → List S → Names → List ℕ → ℕ → Desk F R S
desk d records signals names said room = record { lent = lent d records signals; names = names; said = said; room = room }

-- a desk whose reply stands in a buffer up to a place
abbrev pub desk_of : {F R S : Type 0} → Lent F R S → Names → List ℕ → ℕ → Desk F R S
desk_of l names reply at = record { lent = l; names = names; said = take at reply; room = length reply }

-- why a line was refused, if it was
abbrev pub verdict : Result ℕ Refusal → Option Refusal
verdict (Ok on) = None
verdict (Err e) = Some e

-- up to where the reply stands after a line
abbrev pub place : ℕ → Result ℕ Refusal → ℕ
place at (Ok on) = on
place at (Err e) = at

-- a new name has at most 12 bytes
abbrev pub Short : Order → Type 0
Short nothing = 0 ≤ 12
Short (block n k p q r) = length n ≤ 12
Short (wire t p s) = 0 ≤ 12
Short (cut t p) = 0 ≤ 12
Short (remove n) = 0 ≤ 12
Short (tune n p q r) = 0 ≤ 12
Short (feed n z) = 0 ≤ 12
Short (scan n) = 0 ≤ 12
Short (show n) = 0 ≤ 12
