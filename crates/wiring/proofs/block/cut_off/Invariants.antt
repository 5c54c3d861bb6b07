use Rattle.std.proofs.Common.{◌≡◌, ℕ, ◌<◌, ◌≤◌, length, get_or}
use Rattle.wiring.specs.Change.{off}
use Rattle.wiring.specs.Layout.{ports_at, late_at, source_at, no_block}
use Rattle.wiring.proofs.block.cut_off.Given as goal

-- all blocks have their ports, those so far have lost their wires from the slot, and the others are as they were
abbrev pub invariant-loop-block : goal.invariant-loop-block
invariant-loop-block l =
    (length l.block-items ≡ 256)
    × ((k : ℕ) → ports_at l.block-items k ≡ ports_at l.initial.block-items k)
    × ((k p : ℕ) → late_at l.block-items k p ≡ late_at l.initial.block-items k p)
    × ((k p : ℕ) → k < l.block-index → source_at l.block-items k p ≡ off l.slot (source_at l.initial.block-items k p))
    × ((k : ℕ) → l.block-index ≤ k → get_or l.block-items k no_block ≡ get_or l.initial.block-items k no_block)
