-- What a run promises.
use Rattle.std.specs.Prelude.{◌≡◌, ℕ, ◌≤◌, true, false, List, length, drop}
use Rattle.family.specs.Meaning.{Meaning}
use Rattle.refusal.specs.declared.refusals.Refusal.TheVariants.{RowTooShort}
use Rattle.diagram.specs.View.{Lent}
use Rattle.runner.specs.declared.names.Names.{Names}
use Rattle.runner.specs.declared.report.Report.{Report}
use Rattle.runner.specs.Desks.{desk_of}
use Rattle.runner.specs.Runs.{stopped_at, Ran}
use Rattle.runner.specs.Scans.{rows_fit}

module _ {F R S : Type 0} (m : Meaning R S) where
  -- the lines were run from an empty reply; the bytes of the buffer past the reply stay
  pub record Worked (lines : List (List ℕ)) (k : Lent F R S) (t : Names) (old : List ℕ) (r : Report) (l : Lent F R S) (t' : Names) (new : List ℕ) : Type 0 where
    pub ran : Ran m lines (desk_of k t old 0) r.outcome (desk_of l t' new r.written)
    pub rest : drop r.written new ≡ drop r.written old
    pub within : r.written ≤ length new

  -- a run with a short row is refused before its first line, and everything is as it was
  pub record Reported (lines : List (List ℕ)) (k : Lent F R S) (t : Names) (old : List ℕ) (r : Report) (l : Lent F R S) (t' : Names) (new : List ℕ) : Type 0 where
    pub short : rows_fit k ≡ false → (r.outcome ≡ stopped_at 0 RowTooShort) × (r.written ≡ 0) × (l ≡ k) × (t' ≡ t) × (new ≡ old)
    pub worked : rows_fit k ≡ true → Worked lines k t old r l t' new
