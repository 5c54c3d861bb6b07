-- What a word is read as.
use Rattle.std.specs.Prelude.{◌≡◌, ℕ, List, ℤ}
use Rattle.words.specs.Names.{IsName, IsNumber}
use Rattle.words.specs.declared.word.Word.{Word}
use Rattle.words.specs.declared.word.Word.TheVariants.{Name, Number, Other}

-- the bytes of a word are read as a name just where they are one, and as a number just where they are its numeral
abbrev pub Reads : List ℕ → Word → Type 0
Reads bs (Name n) = (n.now ≡ bs) × IsName bs × ((z : ℤ) → IsNumber bs z → ⊥)
Reads bs (Number z) = IsNumber bs z × (IsName bs → ⊥)
Reads bs Other = (IsName bs → ⊥) × ((z : ℤ) → IsNumber bs z → ⊥)
