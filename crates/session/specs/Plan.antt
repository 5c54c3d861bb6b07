-- The plan of a session, from its calls, their answers and its solves' signals alone; and the wake of a block.
use Rattle.std.specs.Prelude.{◌≡◌, ℕ, Bool, true, false, cond, List, [], ◌∷◌, Some, None, Option, ◌==◌, ◌≢◌}
use Rattle.family.specs.Laws.{direct}
use Rattle.family.specs.Meaning.{Meaning}
use Rattle.wiring.specs.Reach.{Reaches}
use Rattle.passes.specs.Rows.{put, on_some}
use Rattle.passes.specs.Scan.{inputs_of}
use Rattle.diagram.specs.Calls.{Call, place, remove, wire, cut, edit, solve, settle, Answer, ok, refused, Event, edited}
use Rattle.wiring.specs.Change.{off}
use Rattle.diagram.specs.Chart.{slot}

-- what is drawn, all by handles
pub record Plan (R S : Type 0) : Type 0 where
  pub block : ℕ → Option R  -- the record of the block, where it is placed
  pub source : ℕ → ℕ → Option ℕ  -- the block that its port p is wired from
  pub opened : Bool  -- a solve is not settled yet
  pub solved : ℕ → S  -- the signals of the last solve

-- the plan with other records
abbrev pub reblocked : {R S : Type 0} → Plan R S → (ℕ → Option R) → Plan R S
reblocked P block = record { block = block; source = P.source; opened = P.opened; solved = P.solved }

-- the plan with the port p of t wired from o
abbrev pub rewired : {R S : Type 0} → Plan R S → ℕ → ℕ → Option ℕ → Plan R S
rewired P t p o = record { block = P.block; source = put P.source t (put (P.source t) p o); opened = P.opened; solved = P.solved }

module _ {R S : Type 0} (m : Meaning R S) where
  -- the equation of the block h: its signal is its record's output on what its ports carry, where the blocks' signals are σ
  abbrev pub Equation : Plan R S → (ℕ → S) → ℕ → Type 0
  Equation P σ h = (r : R) → P.block h ≡ Some r → σ h ≡ m.output r (inputs_of m σ (P.source h))

  -- a wire from s to t
  abbrev pub Wired : Plan R S → ℕ → ℕ → Type 0
  Wired P s t = (p : ℕ) × (P.source t p ≡ Some s)

  -- a direct wire from s to t
  abbrev pub Direct : Plan R S → ℕ → ℕ → Type 0
  Direct P s t = (p : ℕ) × (r : R) × (P.block t ≡ Some r) × (direct m.ports m.late r p ≡ true) × (P.source t p ≡ Some s)

  -- the plan after an accepted call that gave out n and left the signals σ
  abbrev pub grown : Call → ℕ → (ℕ → S) → Plan R S → Plan R S
  grown (place kind x) n σ P = reblocked P (put P.block n (Some (m.fresh kind x)))
  grown (remove h) n σ P = record { block = put P.block h None; source = λ t p. cond (t == h) None (off h (P.source t p)); opened = P.opened; solved = P.solved }
  grown (wire t p s) n σ P = rewired P t p (Some s)
  grown (cut t p) n σ P = rewired P t p None
  grown (edit h x) n σ P = reblocked P (put P.block h (on_some (edited m x) (P.block h)))
  grown solve n σ P = record { block = P.block; source = P.source; opened = true; solved = λ h. σ (slot h) }
  grown (settle k) n σ P = record {
    block = λ h. on_some (λ r. m.next r (inputs_of m P.solved (P.source h))) (P.block h);
    source = P.source;
    opened = false;
    solved = P.solved;
  }

  -- a refused call leaves the plan as it is
  abbrev pub planned : Call → Answer → (ℕ → S) → Plan R S → Plan R S
  planned c (ok n) σ P = grown c n σ P
  planned c (refused r) σ P = P

  -- the plan of a session's events, the last event first
  abbrev pub plan : List (Event S) → Plan R S
  plan [] = record { block = λ h. None; source = λ h p. None; opened = false; solved = λ h. m.rest }
  plan (e ∷ es) = planned e.call e.answer e.signals (plan es)

  -- at an accepted solve each block joins that wires of any sort lead to from a member; a removed block leaves
  abbrev pub spread : Call → Plan R S → (ℕ → Type 0) → ℕ → Type 0
  spread (place kind x) P W k = W k
  spread (remove h) P W k = W k × (k ≢ h)
  spread (wire t p s) P W k = W k
  spread (cut t p) P W k = W k
  spread (edit h x) P W k = W k
  spread solve P W k = (j : ℕ) × W j × Reaches (Wired P) j k
  spread (settle n) P W k = W k

  -- a refused call leaves the wake as it is
  abbrev pub waking : Call → Answer → Plan R S → (ℕ → Type 0) → ℕ → Type 0
  waking c (ok n) P W k = spread c P W k
  waking c (refused r) P W k = W k

  -- k is in the wake of the block h, which at first is h alone, placed or not yet
  abbrev pub Wake : ℕ → List (Event S) → ℕ → Type 0
  Wake h [] k = k ≡ h
  Wake h (e ∷ es) k = waking e.call e.answer (plan es) (Wake h es) k
