-- What a command line says, and the words that it is written in.
use Rattle.std.specs.Prelude.{◌≡◌, ℕ, ◌≤◌, List, [], ◌∷◌, map, length, ℤ, pos, codes, decimal, slice_index_or, unsigned_abs}
use Rattle.std.specs.Fmt.{signed_decimal}
use Rattle.words.specs.Names.{IsName}

-- what a line says
pub data Order : Type 0 where
  nothing : Order
  block : (name kind : List ℕ) (p q r : ℤ) → Order
  wire : (target : List ℕ) (port : ℕ) (source : List ℕ) → Order
  cut : (target : List ℕ) (port : ℕ) → Order
  remove : (name : List ℕ) → Order
  tune : (name : List ℕ) (p q r : ℤ) → Order
  feed : (name : List ℕ) (number : ℤ) → Order
  scan : (times : ℕ) → Order
  show : (name : List ℕ) → Order

-- a number has at most seven digits
abbrev pub Number : ℤ → Type 0
Number z = unsigned_abs z ≤ 9999999

-- the words are none to three numerals, those of p, q and r; of these three a missing one is 0
abbrev pub Numbers : List (List ℕ) → ℤ → ℤ → ℤ → Type 0
Numbers ws p q r =
    (zs : List ℤ) × (length zs ≤ 3) × (p ≡ slice_index_or zs 0 (pos 0)) × (q ≡ slice_index_or zs 1 (pos 0)) × (r ≡ slice_index_or zs 2 (pos 0)) × (ws ≡ map signed_decimal zs)

-- the words of each command's line
abbrev pub Words : Order → List (List ℕ) → Type 0
Words nothing ws = ⊥
Words (block n k p q r) ws = (more : List (List ℕ)) × (ws ≡ codes "block" ∷ n ∷ k ∷ more) × IsName n × IsName k × Numbers more p q r × Number p × Number q × Number r
Words (wire t p s) ws = (ws ≡ codes "wire" ∷ t ∷ decimal p ∷ s ∷ []) × IsName t × (p ≤ 2) × IsName s
Words (cut t p) ws = (ws ≡ codes "cut" ∷ t ∷ decimal p ∷ []) × IsName t × (p ≤ 2)
Words (remove n) ws = (ws ≡ codes "drop" ∷ n ∷ []) × IsName n
Words (tune n p q r) ws = (ws ≡ codes "tune" ∷ n ∷ signed_decimal p ∷ signed_decimal q ∷ signed_decimal r ∷ []) × IsName n × Number p × Number q × Number r
Words (feed n z) ws = (ws ≡ codes "feed" ∷ n ∷ signed_decimal z ∷ []) × IsName n × Number z
Words (scan n) ws = (ws ≡ codes "scan" ∷ decimal n ∷ []) × (1 ≤ n) × (n ≤ 1000)
Words (show n) ws = (ws ≡ codes "show" ∷ n ∷ []) × IsName n
