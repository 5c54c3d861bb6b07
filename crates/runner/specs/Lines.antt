-- What a line of a file does: its checks on names and diagram, the call that it stands for, and what it leaves.
use Rattle.std.specs.Prelude.{◌≡◌, ℕ, ◌+◌, Bool, not, ◌&&◌, List, [], ◌∷◌, length, ℤ, is_some, Some, None, Ok, Err, Option, Result, nat_lt}
use Rattle.family.specs.declared.values.Params.{Params}
use Rattle.family.specs.Meaning.{Meaning}
use Rattle.passes.specs.Rows.{put, or_else, row}
use Rattle.refusal.specs.declared.refusals.Refusal.{Refusal}
use Rattle.refusal.specs.declared.refusals.Refusal.TheVariants.{DiagramOpen, UnknownName, NameInUse, UnknownKind, BufferTooShort}
use Rattle.diagram.specs.Calls.{Call, Answer, ok, refused}
use Rattle.diagram.specs.Calls as calls
use Rattle.diagram.specs.Chart.{slot, when, first}
use Rattle.diagram.specs.Made.{Made, answer}
use Rattle.diagram.specs.View.{chart, Lent}
use Rattle.loop_file.specs.Orders.{Order, nothing, block, wire, cut, remove, tune, feed, scan, show}
use Rattle.loop_file.specs.Closing.{Wrote}
use Rattle.loop_file.specs.Shown.{shown}
use Rattle.runner.specs.declared.names.Names.{Names}
use Rattle.runner.specs.Book.{found}
use Rattle.runner.specs.View.{book}

-- what a run works on
pub record Desk (F R S : Type 0) : Type 0 where
  pub lent : Lent F R S  -- the diagram and its two rows
  pub names : Names
  pub said : List ℕ  -- the bytes of the reply so far
  pub room : ℕ  -- how many bytes the reply has in all

-- three parameters
abbrev pub params : ℤ → ℤ → ℤ → Params
params p q r = record { p = p; q = q; r = r }

module _ {F R S : Type 0} (m : Meaning R S) where
  -- a scan is open
  abbrev pub is_open : Desk F R S → Bool
  is_open x = is_some (chart x.lent.diagram).scan

  -- the handle that a name stands for
  abbrev pub known : Desk F R S → List ℕ → Option ℕ
  known x n = found (chart x.lent.diagram) (book x.names) n

  -- that handle, where there is one
  abbrev pub handle_of : Desk F R S → List ℕ → ℕ
  handle_of x n = or_else 0 (known x n)

  -- what a `show` of the name says
  abbrev pub shown_of : Desk F R S → List ℕ → List ℕ
  shown_of x n = shown n (m.number (row m x.lent.signals (slot (handle_of x n))))

  -- the checks of a line before those of its call, in their order
  abbrev pub line_checks : Order → Desk F R S → List (Option Refusal)
  line_checks nothing x = []
  line_checks (block n k p q r) x = when (is_open x) DiagramOpen ∷ when (is_some (known x n)) NameInUse ∷ when (not (is_some (m.word k))) UnknownKind ∷ []
  line_checks (wire t p s) x = when (is_open x) DiagramOpen ∷ when (not (is_some (known x t) && is_some (known x s))) UnknownName ∷ []
  line_checks (cut t p) x = when (is_open x) DiagramOpen ∷ when (not (is_some (known x t))) UnknownName ∷ []
  line_checks (remove n) x = when (is_open x) DiagramOpen ∷ when (not (is_some (known x n))) UnknownName ∷ []
  line_checks (tune n p q r) x = when (is_open x) DiagramOpen ∷ when (not (is_some (known x n))) UnknownName ∷ []
  line_checks (feed n z) x = when (is_open x) DiagramOpen ∷ when (not (is_some (known x n))) UnknownName ∷ []
  line_checks (scan n) x = when (is_open x) DiagramOpen ∷ []
  line_checks (show n) x = when (not (is_some (known x n))) UnknownName ∷ when (nat_lt x.room (length x.said + length (shown_of x n))) BufferTooShort ∷ []

  -- the call that a line stands for, if it stands for one
  abbrev pub call_of : Order → Desk F R S → Option Call
  call_of nothing x = None
  call_of (block n k p q r) x = Some (calls.place (or_else 0 (m.word k)) (params p q r))
  call_of (wire t p s) x = Some (calls.wire (handle_of x t) p (handle_of x s))
  call_of (cut t p) x = Some (calls.cut (handle_of x t) p)
  call_of (remove n) x = Some (calls.remove (handle_of x n))
  call_of (tune n p q r) x = Some (calls.edit (handle_of x n) (calls.tune (params p q r)))
  call_of (feed n z) x = Some (calls.edit (handle_of x n) (calls.feed z))
  call_of (scan n) x = None
  call_of (show n) x = None

  -- a refused line changes nothing, and else the call does what it does; f is what an accepted one gives out
  abbrev pub Under : {A : Type 0} → Option Refusal → Option Call → (A → ℕ) → Lent F R S → Result A Refusal → Lent F R S → Type 0
  Under (Some e) c f k r l = (r ≡ Err e) × (l ≡ k)
  Under None (Some c) f k r l = Made m c k (answer f r) l
  Under None None f k r l = l ≡ k

  -- a line of the order o at the desk x is answered by r and leaves the diagram and rows l: by the first of its own checks that applies, else as its call does
  abbrev pub Tried : {A : Type 0} → (A → ℕ) → Order → Desk F R S → Result A Refusal → Lent F R S → Type 0
  Tried f o x r l = Under (first (line_checks o x)) (call_of o x) f x.lent r l

-- a `show` that says the text, where the reply stands in old up to at, is answered by r and leaves new
abbrev pub Showing : Option Refusal → List ℕ → List ℕ → ℕ → Result ℕ Refusal → List ℕ → Type 0
Showing (Some e) text old at r new = (r ≡ Err e) × (new ≡ old)
Showing None text old at (Ok on) new = Wrote old at text new on
Showing None text old at (Err e) new = ⊥

-- by the first check of its line that applies, else what it says is written
abbrev pub Showed : {F R S : Type 0} → Meaning R S → List ℕ → Desk F R S → List ℕ → ℕ → Result ℕ Refusal → List ℕ → Type 0
Showed m n x old at r new = Showing (first (line_checks m (show n) x)) (shown_of m x n) old at r new

-- why a line finds no handle: a scan is open, or else there is no such name
abbrev pub NotNamed : Bool → Option ℕ → Refusal → Type 0
NotNamed busy o e = first (when busy DiagramOpen ∷ when (not (is_some o)) UnknownName ∷ []) ≡ Some e

-- the names after a `block` line of the name n that was answered by a
abbrev pub Entered : List ℕ → Answer → Names → Names → Type 0
Entered n (ok h) t t' = ((s : ℕ) → (book t').name s ≡ put (book t).name (slot h) n s) × ((s : ℕ) → (book t').handle s ≡ put (book t).handle (slot h) h s)
Entered n (refused r) t t' = t' ≡ t
