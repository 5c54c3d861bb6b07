-- What becomes of a file that is checked and run.
use Rattle.std.specs.Prelude.{◌≡◌, ℕ, ◌⊎◌, List, Err}
use Rattle.family.specs.Meaning.{Meaning}
use Rattle.refusal.specs.declared.refusals.Refusal.{Refusal}
use Rattle.refusal.specs.declared.refusals.Told.{Told}
use Rattle.refusal.specs.declared.refusals.Told.TheVariants.{Nothing, Line, Parameter}
use Rattle.refusal.specs.Numbers.{meaning}
use Rattle.words.specs.Parts.{lines_of}
use Rattle.diagram.specs.View.{Lent}
use Rattle.loop_file.specs.declared.stop.Stop.{Stop}
use Rattle.loop_file.specs.Files.{FitsFile, Refused}
use Rattle.runner.specs.declared.names.Names.{Names}
use Rattle.runner.specs.declared.report.Report.{Report}
use Rattle.runner.specs.Reports.{Reported}

-- the line that is told, or 0
abbrev pub line_told : Told → ℕ
line_told Nothing = 0
line_told (Line n) = n
line_told (Parameter p) = 0

-- where a check stops a file that it refuses
abbrev pub stopped_by : Refusal → Stop
stopped_by e = record { line = line_told (meaning e).1; refusal = e }

module _ {F R S : Type 0} (m : Meaning R S) where
  -- the check refused the file, and everything is as it was
  pub record Unread (file : List ℕ) (k : Lent F R S) (t : Names) (old : List ℕ) (r : Report) (l : Lent F R S) (t' : Names) (new : List ℕ) : Type 0 where
    pub refusal : Refusal
    pub why : Refused file refusal
    pub outcome : r.outcome ≡ Err (stopped_by refusal)
    pub written : r.written ≡ 0
    pub lent : l ≡ k
    pub names : t' ≡ t
    pub reply : new ≡ old

  -- a file that fits is run, and any other is refused by its check
  abbrev pub Served : List ℕ → Lent F R S → Names → List ℕ → Report → Lent F R S → Names → List ℕ → Type 0
  Served file k t old r l t' new = (FitsFile file × Reported m (lines_of file) k t old r l t' new) ⊎ Unread file k t old r l t' new
