-- The square root, rounded down.
use Rattle.std.specs.Prelude.{ℕ, zero, suc, ◌+◌, ◌*◌, ◌<◌, ◌≤◌, cond, ℤ, pos, int_lt, nat_le, unsigned_abs}

-- r is the root of n, rounded down
pub record IsRoot (n r : ℕ) : Type 0 where
  pub low : r * r ≤ n
  pub high : n < (r + 1) * (r + 1)

-- the root of n, where that of the number before is r
abbrev pub rise : ℕ → ℕ → ℕ
rise r n = cond (nat_le ((r + 1) * (r + 1)) n) (r + 1) r

-- the root of a number, from those of the numbers below it
unfoldable pub root_of : ℕ → ℕ
root_of zero = 0
root_of (suc n) = rise (root_of n) (suc n)

-- the root of 1,000,000 times the input; 0 below 0
abbrev pub root_out : ℤ → ℤ
root_out a = cond (int_lt a (pos 0)) (pos 0) (pos (root_of (1000000 * unsigned_abs a)))
