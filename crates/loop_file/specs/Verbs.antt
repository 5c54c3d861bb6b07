-- The words of a command after its first.
use Rattle.std.specs.Prelude.{ℕ, List, ◌∷◌, ℤ, Some, None, codes, Option}
use Rattle.loop_file.specs.declared.command.Command.{Command}
use Rattle.loop_file.specs.declared.verb.Verb.{Verb}
use Rattle.loop_file.specs.declared.verb.Verb.TheVariants.{Block, Wire, Cut, Drop, Tune, Feed, Scan, Show}
use Rattle.loop_file.specs.Orders.{block, wire, cut, remove, tune, feed, scan, show, Words}
use Rattle.loop_file.specs.Lines.{order}

-- a command's first word
abbrev pub spelled : Verb → List ℕ
spelled Block = codes "block"
spelled Wire = codes "wire"
spelled Cut = codes "cut"
spelled Drop = codes "drop"
spelled Tune = codes "tune"
spelled Feed = codes "feed"
spelled Scan = codes "scan"
spelled Show = codes "show"

-- with the words `left` after the first there is no command of this verb
abbrev pub Misses : Verb → List (List ℕ) → Type 0
Misses Block left = (n k : List ℕ) (p q r : ℤ) → Words (block n k p q r) (codes "block" ∷ left) → ⊥
Misses Wire left = (t : List ℕ) (p : ℕ) (s : List ℕ) → Words (wire t p s) (codes "wire" ∷ left) → ⊥
Misses Cut left = (t : List ℕ) (p : ℕ) → Words (cut t p) (codes "cut" ∷ left) → ⊥
Misses Drop left = (n : List ℕ) → Words (remove n) (codes "drop" ∷ left) → ⊥
Misses Tune left = (n : List ℕ) (p q r : ℤ) → Words (tune n p q r) (codes "tune" ∷ left) → ⊥
Misses Feed left = (n : List ℕ) (z : ℤ) → Words (feed n z) (codes "feed" ∷ left) → ⊥
Misses Scan left = (n : ℕ) → Words (scan n) (codes "scan" ∷ left) → ⊥
Misses Show left = (n : List ℕ) → Words (show n) (codes "show" ∷ left) → ⊥

-- what the words `left` after the first are read as: the command that they say, if they say one
abbrev pub Parsed : Verb → List (List ℕ) → Option Command → Type 0
Parsed v left (Some c) = Words (order c) (spelled v ∷ left)
Parsed v left None = Misses v left
