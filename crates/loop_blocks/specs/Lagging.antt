-- One step of a lag goes toward its input, and not past it.
use Rattle.std.specs.Prelude.{◌≡◌, ℕ, zero, suc, ◌+◌, ◌*◌, ◌/◌, ◌≤◌, ℤ, pos, negsuc, ◌+ℤ◌, ◌*ℤ◌, neg_ℤ, ◌≤ℤ◌, unsigned_abs, refl}
use Rattle.std.proofs.Common.{subst, arith, suc-mul}
use Rattle.std.proofs.lemmas.Int.{ints}
use Rattle.std.proofs.lemmas.Nat.{mul-le}
use Rattle.loop_blocks.specs.Whole.{thousandth}
use Rattle.loop_blocks.specs.Lag.{gap, lag_next}

-- a step q lies between no step and the whole gap
abbrev Toward : ℤ → ℤ → Type 0
Toward (pos d) q = (pos 0 ≤ℤ q) × (q ≤ℤ pos d)
Toward (negsuc d) q = (negsuc d ≤ℤ q) × (q ≤ℤ pos 0)

toward : (p : ℕ) (D : ℤ) → 1 ≤ p → p ≤ 1000 → Toward D (thousandth (pos p *ℤ D))
toward p (pos d) lo hi =
    let above : p * d ≤ 1000 * d = mul-le p d 1000 d hi (omega arith) in
    (omega (arith, ints), omega (arith, ints))
toward zero (negsuc d) lo hi = absurd (omega arith)
toward (suc p) (negsuc d) lo hi =
    let y : ℕ = p * suc d + d in
    let same : suc y ≡ suc p * suc d = omega (arith, suc-mul p (suc d)) in
    let top : suc p * suc d ≤ 1000 * suc d = mul-le (suc p) (suc d) 1000 (suc d) hi (omega arith) in
    let low : y / 1000 ≤ d = omega arith in
    subst (λ (n : ℕ). Toward (negsuc d) (thousandth (neg_ℤ (pos n)))) same (omega (arith, ints), omega (arith, ints))

between : (a u q D : ℤ) → gap a u ≡ D → Toward D q → unsigned_abs a ≤ 1000000 → unsigned_abs u ≤ 1000000000 → unsigned_abs (u +ℤ q) ≤ 1000000000
between a u q (pos d) e h ha hu = omega (arith, ints)
between a u q (negsuc d) e h ha hu = omega (arith, ints)

-- so a state stays a state
pub stays : (p a u : ℤ) → pos 1 ≤ℤ p → p ≤ℤ pos 1000 → unsigned_abs a ≤ 1000000 → unsigned_abs u ≤ 1000000000 → unsigned_abs (lag_next p a u) ≤ 1000000000
stays (pos p) a u lo hi ha hu =
    between a u (thousandth (pos p *ℤ gap a u)) (gap a u) refl (toward p (gap a u) (omega (arith, ints)) (omega (arith, ints))) ha hu
stays (negsuc p) a u lo hi ha hu = absurd (omega (arith, ints))
