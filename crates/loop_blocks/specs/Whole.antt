-- Whole numbers: limits, and division rounded down.
use Rattle.std.specs.Prelude.{ℤ, pos, neg_ℤ}
use Rattle.std.specs.Int.{int_min, int_max, int_div_euclid}

-- n, limited to low..high
abbrev pub limit : ℤ → ℤ → ℤ → ℤ
limit low high n = int_max low (int_min n high)

-- n, limited to what a signal can be
abbrev pub span : ℤ → ℤ
span n = limit (neg_ℤ (pos 1000000)) (pos 1000000) n

-- n, limited to what a state in thousandths can be
abbrev pub wide : ℤ → ℤ
wide n = limit (neg_ℤ (pos 1000000000)) (pos 1000000000) n

-- n / 1000, rounded down
abbrev pub thousandth : ℤ → ℤ
thousandth n = int_div_euclid n (pos 1000)
