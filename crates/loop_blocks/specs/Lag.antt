-- The lag: its state follows a thousand times its input.
use Rattle.std.specs.Prelude.{ℤ, pos, ◌+ℤ◌, ◌-ℤ◌, ◌*ℤ◌}
use Rattle.loop_blocks.specs.Whole.{thousandth}

-- how far the state is from a thousand times the input
abbrev pub gap : ℤ → ℤ → ℤ
gap a u = pos 1000 *ℤ a -ℤ u

-- the next state: nearer by p thousandths of the gap, rounded down
abbrev pub lag_next : ℤ → ℤ → ℤ → ℤ
lag_next p a u = u +ℤ thousandth (p *ℤ gap a u)
