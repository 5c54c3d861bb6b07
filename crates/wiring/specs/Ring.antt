-- Rings of wires.
use Rattle.std.specs.Prelude.{ℕ, List, [], ◌∷◌}

-- each of x and xs has a wire to the next, and the last to y
abbrev pub Chain : (ℕ → ℕ → Type 0) → ℕ → List ℕ → ℕ → Type 0
Chain Wire x [] y = Wire x y
Chain Wire x (z ∷ zs) y = Wire x z × Chain Wire z zs y

-- one or more blocks, each with a wire to the next, and the last to the first
abbrev pub IsRing : (ℕ → ℕ → Type 0) → List ℕ → Type 0
IsRing Wire [] = ⊥
IsRing Wire (x ∷ xs) = Chain Wire x xs x

-- some ring
abbrev pub HasRing : (ℕ → ℕ → Type 0) → Type 0
HasRing Wire = (xs : List ℕ) × IsRing Wire xs
