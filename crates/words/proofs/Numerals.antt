-- What digits write.
use Rattle.std.proofs.Common.{◌≡◌, ℕ, zero, suc, Bool, ◌+◌, ◌-◌, ◌*◌, ◌^◌, ◌<◌, ◌≤◌, true, false, ◌&&◌, Some, None, Option, is_some, IfSome, MatchOption, Decides, ◌≢◌, List, [], ◌∷◌, length, get_or, drop, ℤ, pos, negsuc, nat_abs, decimal, sym, ap, ◌∙◌, subst, pow-suc, add-one, arith, rules}
use native.Mathlib.Nat.{pow-le-pow_right}
use Rattle.std.specs.Char.{is_ascii_digit, is_ascii_lowercase}
use Rattle.std.specs.Fmt.{signed_decimal}
use Rattle.std.specs.Str.{all_ascii_digits}
use Rattle.std.specs.Str.Parse.{digits_value}
use Rattle.std.proofs.lemmas.Fmt.{decimal-digits_value, digits_decimal, decimal_nonempty, first_decimal, length-decimal-le, decimal_digit}
use Rattle.std.proofs.lemmas.List.{at_drop_more}
use Rattle.std.proofs.lemmas.Str.Parse.{IsNumeralModel, numerals_by_value, numerals_by_fold, tells_all_ascii_digits}
use Rattle.std.proofs.lemmas.Bool.Decides.{nat_tests}
use Rattle.words.specs.Names.{IsName, Numeral, IsNumber}

-- `digits_value 10` reads what digits write
pub own : IsNumeralModel (λ ds. all_ascii_digits ds ≡ true) (digits_value 10)
own = numerals_by_value _ tells_all_ascii_digits

-- the number that digits write after a number
abbrev pub read_on : ℕ → List ℕ → ℕ
read_on n [] = n
read_on n (c ∷ cs) = read_on (n * 10 + (c - 48)) cs

-- `read_on 0` reads it too, one digit after another
by_digits : IsNumeralModel (λ ds. all_ascii_digits ds ≡ true) (read_on 0)
by_digits = numerals_by_fold _ (search rules) read_on (search rules)

-- one more digit
pub below : (n d i : ℕ) → n < 10 ^ i → d ≤ 9 → n * 10 + d < 10 ^ (i + 1)
below n d i h k = let e : 10 ^ (i + 1) ≡ 10 ^ i * 10 = ap (λ x. 10 ^ x) (add-one i) ∙ pow-suc 10 i in omega arith

-- seven digits are enough
pub small : (i : ℕ) → i ≤ 7 → 10 ^ i ≤ 10000000
small i h = pow-le-pow_right (omega arith) h

-- the byte at i is a digit, and so are those after it
pub digit_here : (s : List ℕ) (i : ℕ) → i < length s → all_ascii_digits (drop i s) ≡ true → (48 ≤ get_or s i 0) × (get_or s i 0 ≤ 57) × (all_ascii_digits (drop (i + 1) s) ≡ true)
digit_here s i h a =
    let e : all_ascii_digits (drop i s) ≡ (is_ascii_digit (get_or s i 0) && all_ascii_digits (drop (i + 1) s)) = at_drop_more all_ascii_digits s i 0 h in
    (grind (arith, nat_tests, e), grind (arith, nat_tests, e), grind (arith, nat_tests, e))

-- a numeral is what `decimal` writes of its value
pub numeral_is : (s : List ℕ) → Numeral s → read_on 0 s < 10 ^ 7 → s ≡ decimal (read_on 0 s)
numeral_is s h small = sym (decimal-digits_value by_digits s h.3 (omega arith) h.2 (omega arith))

-- what `decimal` writes of a number of at most seven digits is a numeral
pub is_numeral : (n : ℕ) → n ≤ 9999999 → Numeral (decimal n)
is_numeral n h = (
  decimal_nonempty n (omega arith),
  length-decimal-le 7 n (omega arith) (omega arith) (omega arith),
  alone n h,
  digits_decimal own n (omega arith),
)
  where
    alone : (n : ℕ) → n ≤ 9999999 → get_or (decimal n) 0 0 ≡ 48 → length (decimal n) ≡ 1
    alone zero h e = ap length (decimal_digit 0 (omega arith))
    alone (suc n) h e = absurd (omega (arith, first_decimal (suc n) (omega arith) (omega arith)))

-- a number without a sign begins with a digit
pub decimal_first : (n : ℕ) → n ≤ 9999999 → (48 ≤ get_or (decimal n) 0 0) × (get_or (decimal n) 0 0 ≤ 57)
decimal_first n h = let k = digit_here (decimal n) 0 (decimal_nonempty n (omega arith)) (digits_decimal own n (omega arith)) in (k.0, k.1)

-- the digits after a `-` write a number from 1 on
pub minus : (s : List ℕ) (z : ℤ) → IsNumber (45 ∷ s) z → (n : ℕ) × (1 ≤ n) × (n ≤ 9999999) × (s ≡ decimal n)
minus s (pos n) h = absurd (omega (arith, decimal_first n h.0, ap (λ l. get_or l 0 0) h.1))
minus s (negsuc n) h = (suc n, omega arith, h.0, ap (drop 1) h.1)

-- a number begins with a digit or a `-`
number_first : (z : ℤ) → nat_abs z ≤ 9999999 → is_ascii_lowercase (get_or (signed_decimal z) 0 0) ≡ true → ⊥
number_first (pos n) h l = grind (arith, nat_tests, decimal_first n h)
number_first (negsuc n) h l = let k : is_ascii_lowercase 45 ≡ true = l in grind (arith, nat_tests)

-- so no name is a number
pub name_no_number : (bs : List ℕ) → IsName bs → (z : ℤ) → IsNumber bs z → ⊥
name_no_number bs n z h = number_first z h.0 (subst (λ s. is_ascii_lowercase (get_or s 0 0) ≡ true) h.1 n.2)

-- a test of a numeral, and its value where it is one
pub read_or_none : (s : List ℕ) (b : Bool) (r : Option ℕ) → Decides b (Numeral s) → is_some r ≡ b → IfSome r (λ n. (n ≤ 9999999) × (s ≡ decimal n)) → MatchOption r ((n : ℕ) → n ≤ 9999999 → s ≢ decimal n) (λ n. (n ≤ 9999999) × (s ≡ decimal n))
read_or_none s b (Some n) d e h = h
read_or_none s b None d e h = λ n k f. let z : false ≡ true = e ∙ d.1 (subst Numeral (sym f) (is_numeral n k)) in cc
