-- Which files a check accepts, and how it refuses the others.
use Rattle.std.specs.Prelude.{◌≡◌, ℕ, ◌+◌, ◌<◌, ◌≤◌, ◌⊎◌, List, [], length, slice_index_or}
use Rattle.refusal.specs.declared.refusals.Refusal.{Refusal}
use Rattle.refusal.specs.declared.refusals.Refusal.TheVariants.{FileTooLong, BadLine}
use Rattle.words.specs.Parts.{lines_of}
use Rattle.loop_file.specs.Lines.{Fits}

-- each of the first n lines fits
abbrev pub FitBelow : ℕ → List (List ℕ) → Type 0
FitBelow n lines = (k : ℕ) → k < n → Fits (slice_index_or lines k [])

-- the file fits: it has at most 16,384 bytes, and each of its lines fits
abbrev pub FitsFile : List ℕ → Type 0
FitsFile file = (length file ≤ 16384) × FitBelow (length (lines_of file)) (lines_of file)

-- how a file that does not fit is refused: by its length, or else by its first line that does not fit, counted from 1
abbrev pub Refused : List ℕ → Refusal → Type 0
Refused file refusal =
    ((16384 < length file) × (refusal ≡ FileTooLong))
    ⊎ ((n : ℕ) × (refusal ≡ BadLine (n + 1)) × (length file ≤ 16384) × (n < length (lines_of file)) × FitBelow n (lines_of file) × (Fits (slice_index_or (lines_of file) n []) → ⊥))

-- none of the lines fails to fit
abbrev pub NoneUnfit : List (List ℕ) → Type 0
NoneUnfit lines = (k : ℕ) → k < length lines → (Fits (slice_index_or lines k []) → ⊥) → ⊥
