-- The words after one word, and numbers by their numerals.
use Rattle.std.proofs.Common.{◌≡◌, ℕ, ◌^◌, ◌<◌, ◌≤◌, List, [], ◌∷◌, get_or, drop, ℤ, pos, negsuc, decimal, sym, ap, ◌∙◌, arith, rules}
use lib.Signed.{mag}
use Rattle.std.specs.Prelude.{Some, Ok, Err, Result, unsigned_abs}
use Rattle.std.specs.Int.{w32, FitsUnsigned}
use Rattle.std.specs.Result.{OkIff, result_ok}
use Rattle.std.specs.Fmt.{signed_decimal}
use Rattle.std.proofs.lemmas.Fmt.{signed_decimal_injective}
use Rattle.loop_file.specs.Orders.{Number}

-- what follows equal words
pub rest : {w v : List ℕ} {ws vs : List (List ℕ)} → w ∷ ws ≡ v ∷ vs → ws ≡ vs
rest e = ap (drop 1) e

-- what follows the first word, as the reader has it
pub next : {w v : List ℕ} {left ws vs : List (List ℕ)} → left ≡ w ∷ ws → left ≡ v ∷ vs → ws ≡ vs
next e f = rest (sym e ∙ f)

-- a number is small enough to have one numeral
mag_small : (z : ℤ) → Number z → mag z < 2 ^ 63
mag_small (pos n) h = omega arith
mag_small (negsuc n) h = omega arith

-- the number whose numeral comes first
pub same_number : {left on ws : List (List ℕ)} (z : ℤ) (n : ℕ) → left ≡ signed_decimal z ∷ on → left ≡ decimal n ∷ ws → Number z → n ≤ 9999999 → z ≡ pos n
same_number z n e f h k = signed_decimal_injective z (pos n) (mag_small z h) (mag_small (pos n) k) (ap (λ ws. get_or ws 0 []) (sym e ∙ f))

-- what `u32::try_from` makes of a number
pub natural : {E : Type 0} (z : ℤ) (n : ℕ) (r : Result ℕ E) → OkIff r (FitsUnsigned w32 z) (unsigned_abs z) → result_ok r ≡ Some n → z ≡ pos n
natural z n (Err e) h k = absurd (cc)
natural (pos m) n (Ok x) h k = let e : x ≡ n = cc in ap pos (sym h.1 ∙ e)
natural (negsuc m) n (Ok x) h k = absurd (search (rules, h.0))
