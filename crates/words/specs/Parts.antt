-- The lines of a file, and the words of a line.
use Rattle.std.specs.Prelude.{◌≡◌, ℕ, ◌+◌, ◌<◌, ◌≤◌, min, Bool, cond, List, [], ◌∷◌, length, drop, ◌==◌, MatchBool}
use Rattle.std.specs.List.{position_or_len, before_first, after_first, slice_split, onto_first}

-- whether a byte is b
abbrev pub is : ℕ → ℕ → Bool
is b x = x == b

-- each byte 10 ends a line, and what follows the last one is a line if it has a byte
unfoldable pub lines_of : List ℕ → List (List ℕ)
lines_of [] = []
lines_of (x ∷ xs) = cond (is 10 x) ([] ∷ lines_of xs) (onto_first x (lines_of xs))

-- the parts between spaces: one more than there are spaces
abbrev pub words_of : List ℕ → List (List ℕ)
words_of = slice_split (is 32)

-- a text has a byte b; the first one stands between these two parts of it
abbrev pub Halves : ℕ → List ℕ → List ℕ → List ℕ → Type 0
Halves b text front back = (position_or_len (is b) text < length text) × (front ≡ before_first (is b) text) × (back ≡ after_first (is b) text)

-- the lines that a reader at a place of a file has yet to give
abbrev pub lines_left : List ℕ → ℕ → List (List ℕ)
lines_left file at = lines_of (drop at file)

-- the words that a reader at a place of a line has yet to give: none once the last was given
abbrev pub words_left : List ℕ → ℕ → Bool → List (List ℕ)
words_left line at over = cond over [] (words_of (drop at line))

-- the place after a part that begins at a place: past the byte that ends it, or else the text's end
abbrev pub past : List ℕ → ℕ → List ℕ → ℕ
past text at part = min (length text) (at + length part + 1)

-- the part at a place of a text goes to the text's end, since no byte b follows, or else to the first one; `on` is the place after it
abbrev pub Parted : ℕ → List ℕ → ℕ → List ℕ → ℕ → Bool → Type 0
Parted b text at part on last = MatchBool last ((length (drop at text) ≤ position_or_len (is b) (drop at text)) × (part ≡ drop at text) × (on ≡ length text)) ((on ≡ at + length part + 1) × (on ≤ length text) × Halves b (drop at text) part (drop on text))
