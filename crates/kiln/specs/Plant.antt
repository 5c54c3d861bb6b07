-- A closed loop and an interlock, drawn by hand: what a scan reads, and what it leaves.
use Rattle.std.specs.Prelude.{◌≡◌, Bool, false, ℤ, pos, int_le}
use Rattle.family.specs.declared.values.Inputs.{Inputs}
use Rattle.loop_blocks.specs.Loops.{output, next}
use Rattle.interlock_blocks.specs.Interlocks.{bit, fed, output as switched, next as moved}
use Rattle.kiln.specs.declared.plant.Heating.{Heating}
use Rattle.kiln.specs.declared.plant.Readings.{Readings}
use Rattle.kiln.specs.declared.plant.Lamp.{Lamp}

-- three inputs of numbers
abbrev pub numbers : ℤ → ℤ → ℤ → Inputs ℤ
numbers a b c = record { a = a; b = b; c = c }

-- one input that is true or false
abbrev pub switch : Bool → Inputs Bool
switch a = record { a = a; b = false; c = false }

-- the readings are the outputs of the blocks as they are wired; late ports are at rest until the scan is settled
pub record Solved (k : Heating) (r : Readings) : Type 0 where
  pub set : r.set ≡ output k.set (numbers (pos 0) (pos 0) (pos 0))
  pub kiln : r.kiln ≡ output k.kiln (numbers (pos 0) (pos 0) (pos 0))
  pub control : r.control ≡ output k.control (numbers r.set r.kiln (pos 0))
  pub valve : r.valve ≡ output k.limit (numbers r.control (pos 0) (pos 0))

-- each record is its next one on the readings
pub record Settled (k : Heating) (r : Readings) (e : Heating) : Type 0 where
  pub set : e.set ≡ next k.set (numbers (pos 0) (pos 0) (pos 0))
  pub control : e.control ≡ next k.control (numbers r.set r.kiln r.valve)
  pub limit : e.limit ≡ next k.limit (numbers r.control (pos 0) (pos 0))
  pub kiln : e.kiln ≡ next k.kiln (numbers r.valve (pos 0) (pos 0))

-- the lamp: on once the switch has been on for a while
abbrev pub lit : Lamp → Bool
lit k = switched k.timer (switch (switched k.switch (switch false)))

-- after a scan the switch is fed whether the reading has come to the level, and the timer has counted
pub record Moved (k : Lamp) (level reading : ℤ) (e : Lamp) : Type 0 where
  pub fed_switch : e.switch ≡ fed k.switch (bit (int_le level reading))
  pub timer : e.timer ≡ moved k.timer (switch (switched k.switch (switch false)))
