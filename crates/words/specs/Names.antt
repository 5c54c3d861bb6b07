-- What a word is: a name or a number.
use Rattle.std.specs.Prelude.{◌≡◌, ℕ, ◌≤◌, Bool, true, ◌||◌, List, length, ℤ, slice_index, unsigned_abs}
use Rattle.std.specs.Char.{is_ascii_digit, is_ascii_lowercase}
use Rattle.std.specs.Fmt.{signed_decimal}
use Rattle.std.specs.List.{list_all}
use Rattle.std.specs.Str.{all_ascii_digits}

-- each byte is a letter a–z or a digit
abbrev pub all_name : List ℕ → Bool
all_name = list_all (λ b. is_ascii_lowercase b || is_ascii_digit b)

-- a name: 1 to 12 letters and digits, a letter first
abbrev pub IsName : List ℕ → Type 0
IsName bs = (1 ≤ length bs) × (length bs ≤ 12) × (is_ascii_lowercase (slice_index bs 0) ≡ true) × (all_name bs ≡ true)

-- one to seven digits, without a 0 before another
abbrev pub Numeral : List ℕ → Type 0
Numeral bs = (1 ≤ length bs) × (length bs ≤ 7) × (slice_index bs 0 ≡ 48 → length bs ≡ 1) × (all_ascii_digits bs ≡ true)

-- the bytes are the numeral of z, which has at most seven digits
abbrev pub IsNumber : List ℕ → ℤ → Type 0
IsNumber bs z = (unsigned_abs z ≤ 9999999) × (bs ≡ signed_decimal z)
