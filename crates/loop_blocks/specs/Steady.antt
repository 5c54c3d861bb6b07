-- What the rules come to: a root is exact, and a lag on a steady input settles.
use Rattle.std.specs.Prelude.{◌≡◌, ℕ, zero, suc, ◌*◌, ◌≤◌, ◌⊎◌, ℤ, pos, ◌-ℤ◌, unsigned_abs}
use Rattle.family.specs.declared.values.Inputs.{Inputs}
use Rattle.loop_blocks.specs.declared.record.Kind.TheVariants.{Root, Lag}
use Rattle.loop_blocks.specs.declared.record.LoopRecord.{LoopRecord}
use Rattle.loop_blocks.specs.Root.{IsRoot}
use Rattle.loop_blocks.specs.Counts.{heard}
use Rattle.loop_blocks.specs.Loops.{kind_in, output, next}

-- where the record counts as a root and its input is a, not below 0, s is the root of 1,000,000 × a, rounded down
abbrev pub RootExact : LoopRecord → Inputs ℤ → ℤ → Type 0
RootExact k x s = (a : ℕ) → kind_in k ≡ Root → heard x.a ≡ pos a → IsRoot (1000000 * a) (unsigned_abs s)

-- the record after n scans of the same inputs
unfoldable pub after : ℕ → LoopRecord → Inputs ℤ → LoopRecord
after zero k x = k
after (suc n) k x = after n (next k x) x

-- From n scans of a steady input on, a lag's output is its input or one unit below it, whatever its record was.
abbrev pub LagSettles : ℕ → Type 0
LagSettles n = (k : LoopRecord) (x : Inputs ℤ) (m : ℕ) → kind_in k ≡ Lag → n ≤ m →
    (output (after m k x) x ≡ heard x.a) ⊎ (output (after m k x) x ≡ heard x.a -ℤ pos 1)
