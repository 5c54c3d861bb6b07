-- The tests that parameters and states are put to.
use Rattle.std.specs.Prelude.{ℕ, Bool, cond, ◌&&◌, ℤ, Some, None, Option, int_le, nat_le, unsigned_abs}
use Rattle.family.specs.declared.values.Params.{Params}

-- -n ≤ z ≤ n
abbrev pub within : ℤ → ℕ → Bool
within z n = nat_le (unsigned_abs z) n

-- low ≤ z ≤ high
abbrev pub among : ℤ → ℤ → ℤ → Bool
among low z high = int_le low z && int_le z high

-- the number of the first parameter whose test fails
abbrev pub first_bad : Bool → Bool → Bool → Option ℕ
first_bad p q r = cond p (cond q (cond r None (Some 2)) (Some 1)) (Some 0)

-- the first bad parameter, where p has to pass a test, and q and r have to be 0
abbrev pub bad_but : Bool → Params → Option ℕ
bad_but p x = first_bad p (within x.q 0) (within x.r 0)
