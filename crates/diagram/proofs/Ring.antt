-- A ring of the wiring's direct wires is one of the chart's.
use Rattle.std.proofs.Common.{◌≡◌, ℕ, Bool, cond, ◌&&◌, eqb, Some, Option, sym, ap, ◌∙◌, inl, inr}
use Rattle.std.proofs.lemmas.Bool.{cases_eq, eq-eqb, ne_eqb, lt-ltb, and_from, not_from_false}
use Rattle.wiring.specs.Change.{rewired}
use Rattle.wiring.specs.Faults.{ClosesRing}
use Rattle.wiring.specs.Layout.{Direct}
use Rattle.wiring.specs.Ring.{HasRing}
use Rattle.wiring.specs.View.{layout}
use Rattle.wiring.proofs.Rings.{has_ring_over}
use Rattle.passes.specs.Rows.{put}
use Rattle.passes.proofs.Rows.{put_same, put_other}
use Rattle.diagram.specs.declared.diagram.Diagram.{Diagram}
use Rattle.diagram.specs.Chart.{sourcing}
use Rattle.diagram.specs.View.{chart}
use Rattle.diagram.specs.World.{DirectSlots}

-- one port of one slot changed
pub put_port : (f : ℕ → ℕ → Option ℕ) (t p : ℕ) (o : Option ℕ) (u q : ℕ) → put f t (put (f t) p o) u q ≡ cond (eqb u t && eqb q p) o (f u q)
put_port f t p o u q = elim (cases_eq u t) [
  | inl e ↦ ap (λ (g : ℕ → Option ℕ). g q) (put_same f t (put (f t) p o) u e) ∙ ap (λ (k : ℕ). cond (eqb q p) o (f k q)) (sym e) ∙ sym (ap (λ (b : Bool). cond (b && eqb q p) o (f u q)) (eq-eqb u t e))
  | inr ne ↦ ap (λ (g : ℕ → Option ℕ). g q) (put_other f t (put (f t) p o) u ne) ∙ sym (ap (λ (b : Bool). cond (b && eqb q p) o (f u q)) (ne_eqb u t ne))
]

pub ring_in_chart : {F : Type 0} (d : Diagram F) (t p s : ℕ) → ClosesRing (layout d.wiring) t p s → HasRing (DirectSlots (sourcing t p (Some s) (chart d)))
ring_in_chart d t p s ring =
    let l = layout d.wiring in
    has_ring_over (Direct (rewired l t p (Some s))) (DirectSlots (sourcing t p (Some s) (chart d))) (λ k. k)
    (λ u v w. (w.0, and_from _ _ (lt-ltb _ _ w.2) (not_from_false _ w.3), put_port l.source t p (Some s) v w.0 ∙ w.1)) ring
