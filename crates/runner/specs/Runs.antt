-- What a line does at a desk, and what a run of a file's lines does.
use Rattle.std.specs.Prelude.{◌≡◌, ℕ, ◌+◌, ◌≤◌, true, List, [], ◌∷◌, ◌++◌, length, drop, Some, None, Ok, Err, Option, Result}
use Rattle.family.specs.Meaning.{Meaning}
use Rattle.refusal.specs.declared.refusals.Refusal.{Refusal}
use Rattle.diagram.specs.Calls.{Call, Answer, ok, refused, Event}
use Rattle.diagram.specs.Chart.{first}
use Rattle.diagram.specs.Made.{Made}
use Rattle.diagram.specs.View.{Lent, world}
use Rattle.session.specs.Begun.{LentSession}
use Rattle.loop_file.specs.declared.stop.Stop.{Stop}
use Rattle.loop_file.specs.Lines.{Says}
use Rattle.loop_file.specs.Orders.{Order, nothing, block, wire, cut, remove, tune, feed, scan, show}
use Rattle.runner.specs.declared.names.Names.{Names}
use Rattle.runner.specs.Lines.{Desk, shown_of, line_checks, call_of, Entered}
use Rattle.runner.specs.Desks.{desk_of, verdict, place}
use Rattle.runner.specs.Scans.{event, rows_fit, Scanned}

-- a run that was stopped at a line
abbrev pub stopped_at : ℕ → Refusal → Result ℕ Stop
stopped_at line refusal = Err (record { line = line; refusal = refusal })

-- why a call is refused, if it is
abbrev pub why : Answer → Option Refusal
why (ok n) = None
why (refused r) = Some r

-- the names after a line whose call was answered by a: only a `block` line changes them
abbrev pub NamesAfter : Order → Answer → Names → Names → Type 0
NamesAfter nothing a t t' = t' ≡ t
NamesAfter (block n k p q r) a t t' = Entered n a t t'
NamesAfter (wire s p f) a t t' = t' ≡ t
NamesAfter (cut s p) a t t' = t' ≡ t
NamesAfter (remove n) a t t' = t' ≡ t
NamesAfter (tune n p q r) a t t' = t' ≡ t
NamesAfter (feed n z) a t t' = t' ≡ t
NamesAfter (scan n) a t t' = t' ≡ t
NamesAfter (show n) a t t' = t' ≡ t

module _ {F R S : Type 0} (m : Meaning R S) where
  -- the call c, answered by a, is all that was done, with v the reason of its refusal
  pub record One (c : Call) (a : Answer) (x : Desk F R S) (es : List (Event S)) (v : Option Refusal) (y : Desk F R S) : Type 0 where
    pub rows : rows_fit x.lent ≡ true
    pub made : Made m c x.lent a y.lent
    pub events : es ≡ event m c a y.lent ∷ []
    pub verdict : v ≡ why a
    pub said : y.said ≡ x.said

  -- a line that stands for no one call
  abbrev pub Rest : Order → Desk F R S → List (Event S) → Option Refusal → Desk F R S → Type 0
  Rest nothing x es v y = (es ≡ []) × (v ≡ None) × (y ≡ x)
  Rest (block n k p q r) x es v y = ⊥
  Rest (wire t p s) x es v y = ⊥
  Rest (cut t p) x es v y = ⊥
  Rest (remove n) x es v y = ⊥
  Rest (tune n p q r) x es v y = ⊥
  Rest (feed n z) x es v y = ⊥
  Rest (scan n) x es v y = Scanned m x.lent n es y.lent × (v ≡ None) × (y.names ≡ x.names) × (y.said ≡ x.said)
  Rest (show n) x es v y = (es ≡ []) × (v ≡ None) × (y.lent ≡ x.lent) × (y.names ≡ x.names) × (y.said ≡ x.said ++ shown_of m x n)

  -- by the first check that applies, else by the call, else by what the line says
  abbrev pub Doing : Option Refusal → Option Call → Order → Desk F R S → List (Event S) → Option Refusal → Desk F R S → Type 0
  Doing (Some e) c o x es v y = (es ≡ []) × (v ≡ Some e) × (y ≡ x)
  Doing None (Some c) o x es v y = (a : Answer) × One c a x es v y × NamesAfter o a x.names y.names
  Doing None None o x es v y = Rest o x es v y

  -- a line of the order o at the desk x makes the calls of the events es, is refused for v or not, and leaves the desk y
  abbrev pub Line : Order → Desk F R S → List (Event S) → Option Refusal → Desk F R S → Type 0
  Line o x es v y = (y.room ≡ x.room) × Doing (first (line_checks m o x)) (call_of m o x) o x es v y

  -- the same of a line whose reply stands in old up to at; it is answered by r, and the bytes of the reply past its own stay
  pub record Obeyed (o : Order) (k : Lent F R S) (t : Names) (old : List ℕ) (at : ℕ) (r : Result ℕ Refusal) (l : Lent F R S) (t' : Names) (new : List ℕ) : Type 0 where
    pub events : List (Event S)
    pub line : Line o (desk_of k t old at) events (verdict r) (desk_of l t' new (place at r))
    pub rest : drop (place at r) new ≡ drop (place at r) old
    pub up : at ≤ place at r
    pub within : place at r ≤ length new

  -- these lines, one after another and none refused, made the calls of these events, the last one first
  pub data Followed (x : Desk F R S) : List (List ℕ) → List (Event S) → Desk F R S → Type 0 where
    start : Followed x [] [] x
    next : {lines : List (List ℕ)} {es : List (Event S)} {y z : Desk F R S} (line : List ℕ) (o : Order) (fs : List (Event S)) → Followed x lines es y → Says line o → Line o y fs None z
        → Followed x (lines ++ (line ∷ [])) (fs ++ es) z

  -- a run of the lines: every one was followed, or those before one that was refused
  pub data RunOf (lines : List (List ℕ)) (x : Desk F R S) : List (Event S) → Result ℕ Stop → Desk F R S → Type 0 where
    ended : {es : List (Event S)} {y : Desk F R S} → Followed x lines es y → RunOf lines x es (Ok (length lines)) y
    stopped : {es : List (Event S)} {y z : Desk F R S} (before after : List (List ℕ)) (line : List ℕ) (o : Order) (fs : List (Event S)) (r : Refusal) → lines ≡ before ++ (line ∷ after)
        → Followed x before es y → Says line o → Line o y fs (Some r) z → RunOf lines x (fs ++ es) (stopped_at (length before + 1) r) z

  -- a run, with the events of its calls; in a session it counts as these
  pub record Ran (lines : List (List ℕ)) (x : Desk F R S) (outcome : Result ℕ Stop) (y : Desk F R S) : Type 0 where
    pub events : List (Event S)
    pub run : RunOf lines x events outcome y
    pub counts : (es : List (Event S)) → LentSession m es (world m x.lent) → LentSession m (events ++ es) (world m y.lent)
