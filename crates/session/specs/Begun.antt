-- The law of sessions on a diagram that is lent its rows, and what a fresh diagram begins.
use Rattle.std.specs.Prelude.{◌≡◌, ℕ, ◌<◌, true, List, [], ◌∷◌, is_some, Option}
use Rattle.family.specs.Meaning.{Meaning}
use Rattle.diagram.specs.Calls.{Event}
use Rattle.diagram.specs.Chart.{empty}
use Rattle.diagram.specs.World.{World, Does}
use Rattle.diagram.specs.declared.diagram.Diagram.{Diagram}
use Rattle.diagram.specs.View.{chart, lent, world}
use Rattle.diagram.specs.Made.{order_of}
use Rattle.passes.specs.Scan.{long}
use Rattle.session.specs.Law.{Law}

-- a record row has an entry for each slot
abbrev pub Long : {R : Type 0} → (ℕ → Option R) → Type 0
Long records = (s : ℕ) → s < 256 → is_some (records s) ≡ true

-- the events es, the last one first, bring a fresh diagram and two rows of at least 256 entries, which nothing else changes, to the world w
pub data LentSession {R S : Type 0} (m : Meaning R S) : List (Event S) → World R S → Type 0 where
  start : {w : World R S} → w.chart ≡ empty → Long w.records → LentSession m [] w
  then : {w v : World R S} {es : List (Event S)} (e : Event S) → LentSession m es w → Does m e.call w e.answer v → ((s : ℕ) → e.signals s ≡ v.signals s) → LentSession m (e ∷ es) v

-- the law of sessions on lent rows
abbrev pub LentLaw : {R S : Type 0} → Meaning R S → Type 0
LentLaw {R} {S} m = Law m (World R S) (λ w. w.signals) (LentSession m)

-- a fresh diagram: no block, no open scan, with any two rows of at least 256 entries it begins a session, and every session of its family keeps the law
pub record Begun {F R S : Type 0} (m : Meaning R S) (d : Diagram F) : Type 0 where
  pub empty : chart d ≡ empty
  pub order : order_of d ≡ []
  pub begins : (records : List R) (signals : List S) → long records signals ≡ true → LentSession m [] (world m (lent d records signals))
  pub law : LentLaw m
