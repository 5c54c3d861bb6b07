-- The closing line of a run.
use Rattle.std.specs.Prelude.{◌≡◌, ℕ, ◌+◌, ◌≤◌, List, [], ◌∷◌, ◌++◌, length, take, drop, codes, decimal, Ok, Err, Result}
use Rattle.refusal.specs.Numbers.{meaning}
use Rattle.refusal.specs.Sentences.{words}
use Rattle.loop_file.specs.declared.stop.Stop.{Stop}

-- the line: `end L` after a run of all L lines, or `stop L C` where the line L was refused by the refusal of number C
abbrev pub closing : Result ℕ Stop → List ℕ
closing (Ok lines) = codes "end " ++ decimal lines ++ (10 ∷ [])
closing (Err stop) = codes "stop " ++ decimal stop.line ++ codes " " ++ decimal (meaning stop.refusal).0 ++ (10 ∷ [])

-- the same of a refused line in words, for people
abbrev pub sentence : Stop → List ℕ
sentence stop = codes "line " ++ (decimal stop.line ++ (codes " was refused with " ++ (decimal (meaning stop.refusal).0 ++ (codes ": " ++ words stop.refusal))))

-- `xs` was written into `old` from `at` on, up to `on`, and all else is as it was
pub record Wrote (old : List ℕ) (at : ℕ) (xs : List ℕ) (new : List ℕ) (on : ℕ) : Type 0 where
  pub place : on ≡ at + length xs
  pub within : on ≤ length new
  pub front : take on new ≡ take at old ++ xs
  pub back : drop on new ≡ drop on old
