-- What wires lead to.
use Rattle.std.specs.Prelude.{ℕ}

-- t is s, or wires lead from s to t
pub data Reaches (Wire : ℕ → ℕ → Type 0) (s : ℕ) : ℕ → Type 0 where
  here : Reaches Wire s s
  step : {u t : ℕ} → Reaches Wire s u → Wire u t → Reaches Wire s t
