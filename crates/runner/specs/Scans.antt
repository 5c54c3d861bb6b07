-- Scans of a run.
use Rattle.std.specs.Prelude.{◌≡◌, ℕ, zero, suc, Bool, true, false, List, [], ◌∷◌, is_some, Ok, Err, Result}
use Rattle.family.specs.Meaning.{Meaning}
use Rattle.passes.specs.Rows.{row}
use Rattle.passes.specs.Scan.{long}
use Rattle.refusal.specs.declared.refusals.Refusal.{Refusal}
use Rattle.refusal.specs.declared.refusals.Refusal.TheVariants.{DiagramOpen}
use Rattle.diagram.specs.Calls.{Call, solve, settle, Answer, ok, Event}
use Rattle.diagram.specs.Made.{Made}
use Rattle.diagram.specs.View.{chart, Lent}

-- a call, its answer, and the signals after it
abbrev pub event : {F R S : Type 0} → Meaning R S → Call → Answer → Lent F R S → Event S
event m c a l = record { call = c; answer = a; signals = row m l.signals }

-- both rows have an entry for each slot
abbrev pub rows_fit : {F R S : Type 0} → Lent F R S → Bool
rows_fit l = long l.records l.signals

module _ {F R S : Type 0} (m : Meaning R S) where
  -- a solve and its settle, both accepted, on rows of at least 256 entries
  pub record OneScan (k l : Lent F R S) : Type 0 where
    pub number : ℕ
    pub between : Lent F R S
    pub rows : (rows_fit k ≡ true) × (rows_fit between ≡ true)
    pub solved : Made m solve k (ok number) between
    pub settled : Made m (settle number) between (ok 0) l

  -- the events of a scan, the last one first
  abbrev pub scan_events : {k l : Lent F R S} → OneScan k l → List (Event S) → List (Event S)
  scan_events {l = l} s es = event m (settle s.number) (ok 0) l ∷ event m solve (ok s.number) s.between ∷ es

  -- n scans, with their events
  pub data Scanned (k : Lent F R S) : ℕ → List (Event S) → Lent F R S → Type 0 where
    none : Scanned k zero [] k
    more : {n : ℕ} {es : List (Event S)} {l v : Lent F R S} → Scanned k n es l → (s : OneScan l v) → Scanned k (suc n) (scan_events s es) v

  -- a `scan` line of n scans is answered by r: it is refused where a scan is open, and else makes them
  abbrev pub ScanLine : {A : Type 0} → Lent F R S → ℕ → Result A Refusal → Lent F R S → Type 0
  ScanLine k n (Ok a) l = (is_some (chart k.diagram).scan ≡ false) × ((es : List (Event S)) × Scanned k n es l)
  ScanLine k n (Err e) l = (is_some (chart k.diagram).scan ≡ true) × (e ≡ DiagramOpen) × (l ≡ k)
