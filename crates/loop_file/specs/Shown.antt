-- The line that a `show` adds to the reply.
use Rattle.std.specs.Prelude.{ℕ, List, [], ◌∷◌, ◌++◌, ℤ, codes}
use Rattle.std.specs.Fmt.{signed_decimal}

-- after the name: a space, the number and byte 10
abbrev pub numbered : ℤ → List ℕ
numbered number = codes " " ++ (signed_decimal number ++ (10 ∷ []))

-- the line
abbrev pub shown : List ℕ → ℤ → List ℕ
shown name number = name ++ numbered number
