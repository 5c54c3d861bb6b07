-- A diagram with its ranks and two rows of any length, and what each call does to them.
use Rattle.std.specs.Prelude.{◌≡◌, ℕ, ◌<◌, true, false, ◌⊎◌, List, length, Some, None, Option, slice_index}
use Rattle.family.specs.Meaning.{Meaning}
use Rattle.wiring.specs.Ring.{HasRing}
use Rattle.passes.specs.Rows.{put, on_some}
use Rattle.passes.specs.Scan.{swept, advanced}
use Rattle.refusal.specs.declared.refusals.Refusal.{Refusal}
use Rattle.refusal.specs.declared.refusals.Refusal.TheVariants.{MakesRing}
use Rattle.diagram.specs.Calls.{Call, place, remove, wire, cut, edit, solve, settle, Answer, ok, refused, amiss, edited}
use Rattle.slots.specs.Ledger.{free_of}
use Rattle.diagram.specs.Chart.{Chart, slot, checks, first, charted, given, free}

-- what holds of every diagram: the placed slots have the ranks 0, 1, .. and stand in the order by them, wires go between placed slots, and direct ones up the ranks
pub record Sound (c : Chart) (order : List ℕ) (rank : ℕ → ℕ) : Type 0 where
  pub small : (s : ℕ) → c.placed s ≡ true → s < 256
  pub empty : (s : ℕ) → free_of c.freed c.used ≡ Some s → (c.placed s ≡ false) × (s < 256)
  pub heads : (t p s : ℕ) → c.source t p ≡ Some s → c.placed s ≡ true
  pub tails : (t p s : ℕ) → c.source t p ≡ Some s → c.placed t ≡ true
  pub stands : (s : ℕ) → c.placed s ≡ true → (rank s < length order) × (slice_index order (rank s) ≡ s)
  pub ranked : (r : ℕ) → r < length order → (c.placed (slice_index order r) ≡ true) × (rank (slice_index order r) ≡ r)
  pub ascends : (t p s : ℕ) → c.direct t p ≡ true → c.source t p ≡ Some s → rank s < rank t

-- a diagram and its two rows, by the slot
pub record World (R S : Type 0) : Type 0 where
  pub chart : Chart
  pub order : List ℕ  -- the placed slots, by rank
  pub rank : ℕ → ℕ
  pub sound : Sound chart order rank
  pub records : ℕ → Option R  -- the record row
  pub signals : ℕ → S  -- the signal row

-- a direct wire from the slot s to the slot t
abbrev pub DirectSlots : Chart → ℕ → ℕ → Type 0
DirectSlots c s t = (p : ℕ) × (c.direct t p ≡ true) × (c.source t p ≡ Some s)

-- what a test says of what is there
abbrev pub look : {A B : Type 0} → (A → Option B) → Option A → Option B
look f None = None
look f (Some a) = f a

module _ {R S : Type 0} (m : Meaning R S) where
  -- the last check, on the record: of a feed or a tune
  abbrev pub refusing : Call → (ℕ → Option R) → Option Refusal
  refusing (place kind x) records = None
  refusing (remove h) records = None
  refusing (wire t p s) records = None
  refusing (cut t p) records = None
  refusing (edit h x) records = look (amiss m x) (records (slot h))
  refusing solve records = None
  refusing (settle n) records = None

  -- the record row after an accepted call
  abbrev pub recorded : Call → World R S → ℕ → Option R
  recorded (place kind x) w = put w.records (free w.chart) (Some (m.fresh kind x))
  recorded (remove h) w = w.records
  recorded (wire t p s) w = w.records
  recorded (cut t p) w = w.records
  recorded (edit h x) w = put w.records (slot h) (on_some (edited m x) (w.records (slot h)))
  recorded solve w = w.records
  recorded (settle n) w = advanced m w.chart.source w.signals w.chart.placed w.records

  -- the signal row after an accepted call
  abbrev pub signalled : Call → World R S → ℕ → S
  signalled (place kind x) w = put w.signals (free w.chart) m.rest
  signalled (remove h) w = w.signals
  signalled (wire t p s) w = w.signals
  signalled (cut t p) w = w.signals
  signalled (edit h x) w = w.signals
  signalled solve w = swept m w.chart.source w.records w.order w.signals
  signalled (settle n) w = w.signals

  -- the call c is accepted in w with the answer a, and leaves v
  pub record Accepted (c : Call) (w : World R S) (a : Answer) (v : World R S) : Type 0 where
    pub answer : a ≡ ok (given c w.chart)
    pub chart : v.chart ≡ charted m c w.chart
    pub records : (s : ℕ) → v.records s ≡ recorded c w s
    pub signals : (s : ℕ) → v.signals s ≡ signalled c w s

  -- the call closes a ring: only a wire does
  abbrev pub Closes : Call → World R S → Type 0
  Closes (place kind x) w = ⊥
  Closes (remove h) w = ⊥
  Closes (wire t p s) w = HasRing (DirectSlots (charted m (wire t p s) w.chart))
  Closes (cut t p) w = ⊥
  Closes (edit h x) w = ⊥
  Closes solve w = ⊥
  Closes (settle n) w = ⊥

  -- the call is refused, and everything is as it was
  pub record Refused (r : Refusal) (w : World R S) (a : Answer) (v : World R S) : Type 0 where
    pub answer : a ≡ refused r
    pub same : v ≡ w

  -- by the first check on the chart that applies, else by that on the record, else by whether a ring closes
  abbrev pub By : Option Refusal → Option Refusal → Call → World R S → Answer → World R S → Type 0
  By (Some r) later c w a v = Refused r w a v
  By None (Some r) c w a v = Refused r w a v
  By None None c w a v = (Closes c w × Refused MakesRing w a v) ⊎ Accepted c w a v

  -- the call c, made in the world w, is answered by a and leaves the world v
  abbrev pub Does : Call → World R S → Answer → World R S → Type 0
  Does c w a v = By (first (checks m c w.chart)) (refusing c w.records) c w a v
