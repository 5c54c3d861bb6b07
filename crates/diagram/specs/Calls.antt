-- The calls of a session, their answers, and an event.
use Rattle.std.specs.Prelude.{ℕ, ◌≤◌, Bool, false, cond, ℤ, Some, None, Option, ◌==◌}
use Rattle.family.specs.declared.values.Params.{Params}
use Rattle.family.specs.Laws.{LateLaw, KindLaw}
use Rattle.family.specs.Meaning.{Meaning}
use Rattle.passes.specs.Rows.{on_some}
use Rattle.refusal.specs.declared.refusals.Refusal.{Refusal}
use Rattle.refusal.specs.declared.refusals.Refusal.TheVariants.{BadParameter, TakesNoFeed}

-- what is done to the record of one block
pub data Edit : Type 0 where
  tune : (x : Params) → Edit
  feed : (n : ℤ) → Edit

-- blocks go by their handles, and settle's token by the number that it bears
pub data Call : Type 0 where
  place : (kind : ℕ) (x : Params) → Call
  remove : (block : ℕ) → Call
  wire : (target port source : ℕ) → Call
  cut : (target port : ℕ) → Call
  edit : (block : ℕ) (x : Edit) → Call
  solve : Call
  settle : (number : ℕ) → Call

-- accepted, with the handle or the scan's number that the call gives out, else 0; or refused
pub data Answer : Type 0 where
  ok : ℕ → Answer
  refused : Refusal → Answer

-- a call, its answer, and the signal of each slot after it
pub record Event (S : Type 0) : Type 0 where
  pub call : Call
  pub answer : Answer
  pub signals : ℕ → S

-- whether the call is a feed or a tune of the block h
abbrev pub stirs : ℕ → Call → Bool
stirs h (place kind x) = false
stirs h (remove g) = false
stirs h (wire t p s) = false
stirs h (cut t p) = false
stirs h (edit g x) = g == h
stirs h solve = false
stirs h (settle n) = false

module _ {R S : Type 0} (m : Meaning R S) where
  -- why a record's edit is refused
  abbrev pub amiss : Edit → R → Option Refusal
  amiss (tune x) r = on_some BadParameter (m.unfit r x)
  amiss (feed n) r = cond (m.takes r) None (Some TakesNoFeed)

  -- the record after an edit
  abbrev pub edited : Edit → R → R
  edited (tune x) r = m.tuned r x
  edited (feed n) r = m.fed r n

  -- a family keeps its laws
  pub record Lawful : Type 0 where
    pub few : (r : R) → m.ports r ≤ 3
    pub lateness : LateLaw m.ports m.late m.output
    pub kind : KindLaw m.ports m.late m.next m.fed m.unfit m.tuned
