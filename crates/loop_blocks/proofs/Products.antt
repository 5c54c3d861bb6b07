-- Products of bounded numbers.
use Rattle.std.proofs.Common.{ℕ, ◌*◌, ◌^◌, ◌≤◌, ℤ, ◌*ℤ◌, unsigned_abs, w32, w64, FitsSigned, arith}
use Rattle.std.proofs.lemmas.Int.{ints, unsigned_abs-mul, fits_signed_mul}
use Rattle.std.proofs.lemmas.Nat.{mul-le}

-- a product is at most the product of the bounds
pub small_product : (a b : ℤ) (m n : ℕ) → unsigned_abs a ≤ m → unsigned_abs b ≤ n → unsigned_abs (a *ℤ b) ≤ m * n
small_product a b m n h k = rw unsigned_abs-mul (mul-le (unsigned_abs a) (unsigned_abs b) m n h k)

-- a number of 32 bits is at most 2 ^ 31
small : (a : ℤ) → FitsSigned w32 a → unsigned_abs a ≤ 2 ^ 31
small a f = omega (arith, ints, f.sfits)

-- the product of two numbers of 32 bits fits 64
pub product_fits : (a b : ℤ) → FitsSigned w32 a → FitsSigned w32 b → FitsSigned w64 (a *ℤ b)
product_fits a b f g = fits_signed_mul w64 a b (2 ^ 31) (2 ^ 31) (small a f) (small b g) (omega arith)
