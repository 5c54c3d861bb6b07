-- What a call of a diagram promises: which rows it takes, what it does, and how the order of blocks changes.
use Rattle.std.specs.Prelude.{◌≡◌, ℕ, Bool, true, false, not, List, [], ◌∷◌, ◌++◌, length, Some, None, Ok, Err, filter, Option, Result, ◌==◌, nat_le, MatchResult}
use Rattle.family.specs.Meaning.{Meaning}
use Rattle.wiring.specs.Order.{NewOrder}
use Rattle.wiring.specs.View.{layout}
use Rattle.passes.specs.Scan.{long}
use Rattle.refusal.specs.declared.refusals.Refusal.{Refusal}
use Rattle.refusal.specs.declared.refusals.Refusal.TheVariants.{RowTooShort}
use Rattle.diagram.specs.declared.diagram.Diagram.{Diagram}
use Rattle.diagram.specs.declared.token.ScanToken.{ScanToken}
use Rattle.diagram.specs.Calls.{Call, place, remove, wire, cut, edit, solve, settle, Answer, ok, refused}
use Rattle.diagram.specs.Chart.{Chart, slot, free, first, checks}
use Rattle.diagram.specs.World.{Does}
use Rattle.diagram.specs.View.{chart, Lent, lent, world}

-- an answer, where f is what an accepted call gives out
abbrev pub answer : {A : Type 0} → (A → ℕ) → Result A Refusal → Answer
answer f (Ok a) = ok (f a)
answer f (Err r) = refused r

-- the value that a question is answered by, unless it is refused
abbrev pub unless : {A : Type 0} → Option Refusal → A → Result A Refusal
unless None a = Ok a
unless (Some r) a = Err r

-- of a settle, which gives its token back where it is refused
abbrev pub settled : {A : Type 0} → Result A (ScanToken × Refusal) → Answer
settled (Ok a) = ok 0
settled (Err e) = refused e.1

-- the answer of a call's checks: P of what they give where none of them fails, and else the first refusal
abbrev pub Checked : {R S A : Type 0} → Meaning R S → Call → Chart → (A → Type 0) → Result A Refusal → Type 0
Checked m c k P r = MatchResult r (λ a. (first (checks m c k) ≡ None) × P a) (λ e. first (checks m c k) ≡ Some e)

-- whether the rows that a call takes have an entry for each slot
abbrev pub fits : {R S : Type 0} → Call → List R → List S → Bool
fits (place kind x) records signals = long records signals
fits (remove h) records signals = true
fits (wire t p s) records signals = true
fits (cut t p) records signals = true
fits (edit h x) records signals = nat_le 256 (length records)
fits solve records signals = long records signals
fits (settle n) records signals = long records signals

-- the blocks by rank
abbrev pub order_of : {F : Type 0} → Diagram F → List ℕ
order_of d = (layout d.wiring).order

-- the order of blocks after an accepted call: a new block comes last, a removed one leaves, and a wire moves those ahead of it
abbrev pub Reordered : {F : Type 0} → Call → Diagram F → List ℕ → Type 0
Reordered (place kind x) d o = o ≡ order_of d ++ (free (chart d) ∷ [])
Reordered (remove h) d o = o ≡ filter (λ s. not (s == slot h)) (order_of d)
Reordered (wire t p s) d o = NewOrder (layout d.wiring) (slot t) p (slot s) o
Reordered (cut t p) d o = o ≡ order_of d
Reordered (edit h x) d o = o ≡ order_of d
Reordered solve d o = o ≡ order_of d
Reordered (settle n) d o = o ≡ order_of d

-- a refused call leaves the order
abbrev pub Ordered : {F : Type 0} → Call → Answer → Diagram F → List ℕ → Type 0
Ordered c (ok n) d o = Reordered c d o
Ordered c (refused r) d o = o ≡ order_of d

module _ {F R S : Type 0} (m : Meaning R S) where
  -- the call c, made of x, is answered by a and leaves y; where a row that it takes is short it is refused, and everything is as it was
  pub record Made (c : Call) (x : Lent F R S) (a : Answer) (y : Lent F R S) : Type 0 where
    pub short : fits c x.records x.signals ≡ false → (a ≡ refused RowTooShort) × (y ≡ x)
    pub does : fits c x.records x.signals ≡ true → Does m c (world m x) a (world m y)
    pub order : Ordered c a x.diagram (order_of y.diagram)

  -- the same of a call that takes no row, whatever the rows hold
  abbrev pub Drawn : Call → Diagram F → Answer → Diagram F → Type 0
  Drawn c d a e = (records : List R) (signals : List S) → Made c (lent d records signals) a (lent e records signals)
