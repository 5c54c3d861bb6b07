-- What is taken from the words that are left of a line.
use Rattle.std.specs.Prelude.{◌≡◌, ℕ, ◌⊎◌, List, [], ◌∷◌, ℤ, pos, ◌≢◌}
use Rattle.std.specs.Fmt.{signed_decimal}
use Rattle.loop_file.specs.Orders.{Number}

-- z is the number of the first word, and `on` are the words after it; or there is no word, and z is 0
abbrev pub Took : List (List ℕ) → ℤ → List (List ℕ) → Type 0
Took left z on = Number z × ((left ≡ signed_decimal z ∷ on) ⊎ ((left ≡ []) × (on ≡ []) × (z ≡ pos 0)))

-- there is a first word, and it is not that of a number
abbrev pub NotTaken : List (List ℕ) → Type 0
NotTaken left = (left ≢ []) × ((z : ℤ) (ws : List (List ℕ)) → left ≡ signed_decimal z ∷ ws → Number z → ⊥)
