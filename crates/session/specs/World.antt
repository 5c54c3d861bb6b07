-- A diagram with its ranks and two rows of at least 256 entries, and what each call does to them.
use Rattle.std.specs.Prelude.{◌≡◌, ℕ, ◌<◌, true, is_some}
use Rattle.family.specs.Meaning.{Meaning}
use Rattle.diagram.specs.Calls.{Call, Answer}
use Rattle.diagram.specs.World as lent

-- a diagram and two rows of at least 256 entries
pub record World (R S : Type 0) : Type 0 where
  pub lent : lent.World R S  -- the diagram and its rows
  pub long : (s : ℕ) → s < 256 → is_some (lent.records s) ≡ true

-- the call c, made in the world w, is answered by a and leaves the world v
abbrev pub Does : {R S : Type 0} → Meaning R S → Call → World R S → Answer → World R S → Type 0
Does m c w a v = lent.Does m c w.lent a v.lent
