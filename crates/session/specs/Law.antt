-- The law of sessions.
use Rattle.std.specs.Prelude.{◌≡◌, ℕ, ◌<◌, false, cond, ◌⊎◌, List, [], ◌∷◌, Some, None}
use Rattle.family.specs.Meaning.{Meaning}
use Rattle.wiring.specs.Ring.{HasRing}
use Rattle.refusal.specs.declared.refusals.Refusal.TheVariants.{MakesRing}
use Rattle.diagram.specs.Calls.{Call, wire, solve, ok, refused, Event, stirs}
use Rattle.diagram.specs.Chart.{slot, empty}
use Rattle.session.specs.World.{World, Does}
use Rattle.session.specs.Plan.{Plan, plan, rewired, Equation, Direct, Wake}

-- the events es, the last one first, bring a fresh diagram and two rows that nothing else changes to the world w
pub data Session {R S : Type 0} (m : Meaning R S) : List (Event S) → World R S → Type 0 where
  start : {w : World R S} → w.lent.chart ≡ empty → Session m [] w
  then : {w v : World R S} {es : List (Event S)} (e : Event S) → Session m es w → Does m e.call w e.answer v → ((s : ℕ) → e.signals s ≡ v.lent.signals s) → Session m (e ∷ es) v

-- the calls but the feeds and tunes of h
abbrev pub others : {S : Type 0} → ℕ → List (Event S) → List Call
others h [] = []
others h (e ∷ es) = cond (stirs h e.call) (others h es) (e.call ∷ others h es)

module _ {R S : Type 0} (m : Meaning R S) where
  -- a wire that passes all checks before the ring's: no scan is open, both blocks are placed, the port is the target's and unwired
  pub record Passes (P : Plan R S) (t p s : ℕ) : Type 0 where
    pub shut : P.opened ≡ false
    pub target : (r : R) × (P.block t ≡ Some r) × (p < m.ports r)
    pub source : (r : R) × (P.block s ≡ Some r)
    pub bare : P.source t p ≡ None

  -- with it the plan has a ring of direct wires
  abbrev pub ClosesRing : Plan R S → ℕ → ℕ → ℕ → Type 0
  ClosesRing P t p s = HasRing (Direct m (rewired P t p (Some s)))

  -- the signals satisfy the equations of all placed blocks together, and no other signals of those blocks do
  pub record OneSolution (P : Plan R S) (signals : ℕ → S) : Type 0 where
    pub equations : (h : ℕ) → Equation m P (λ k. signals (slot k)) h
    pub only : (σ : ℕ → S) → ((h : ℕ) → Equation m P σ h) → (h : ℕ) (r : R) → P.block h ≡ Some r → σ h ≡ signals (slot h)

  -- The law, of any worlds that sessions lead to, each with its signals
  module _ (W : Type 0) (signals_of : W → ℕ → S) (Leads : List (Event S) → W → Type 0) where
    -- Rings: a wire that passes all earlier checks is refused for a ring exactly when it would close one, and else accepted
    abbrev pub Rings : Type 0
    Rings = (es : List (Event S)) (e : Event S) (w : W) → Leads (e ∷ es) w
        → (t p s : ℕ) → e.call ≡ wire t p s → Passes (plan m es) t p s
        → ((e.answer ≡ refused MakesRing) × ClosesRing (plan m es) t p s) ⊎ ((e.answer ≡ ok 0) × (ClosesRing (plan m es) t p s → ⊥))

    -- Solution: after each accepted solve the signals are the one solution of the plan
    abbrev pub Solution : Type 0
    Solution = (es : List (Event S)) (e : Event S) (w : W) → Leads (e ∷ es) w
        → (n : ℕ) → e.call ≡ solve → e.answer ≡ ok n → OneSolution (plan m (e ∷ es)) e.signals

    -- Confinement: of two sessions whose calls are alike but for feeds and tunes of the block h, every placed block outside the wake of h is placed in both, with the same record and signal
    abbrev pub Confinement : Type 0
    Confinement = (h : ℕ) (es fs : List (Event S)) (w v : W) → Leads es w → Leads fs v → others h es ≡ others h fs
        → (k : ℕ) (r : R) → (plan m es).block k ≡ Some r → (Wake m h es k → ⊥)
        → ((plan m fs).block k ≡ Some r) × (signals_of w (slot k) ≡ signals_of v (slot k))

    pub record Law : Type 0 where
      pub rings : Rings
      pub solution : Solution
      pub confinement : Confinement

  -- the law of sessions
  abbrev pub SessionLaw : Type 0
  SessionLaw = Law (World R S) (λ w. w.lent.signals) (Session m)
