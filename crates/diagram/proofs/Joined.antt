-- A diagram whose wiring was given one more wire, or was asked for it.
use Rattle.std.proofs.Common.{◌≡◌, ℕ, Bool, not, ◌&&◌, ltb, Some, sym, refl, ap, ◌∙◌}
use Rattle.wiring.specs.declared.wiring.Wiring.{Wiring}
use Rattle.wiring.specs.Layout.{is_placed}
use Rattle.wiring.specs.Order.{Connected}
use Rattle.wiring.specs.View.{layout}
use Rattle.slots.specs.View.{ledger}
use Rattle.diagram.specs.declared.diagram.Diagram.{Diagram}
use Rattle.diagram.specs.Chart.{sourcing}
use Rattle.diagram.specs.View.{chart}
use Rattle.diagram.proofs.Placed.{same_chart}
use Rattle.diagram.proofs.Ring.{put_port}

module _ {F : Type 0} (d : Diagram F) where
  -- the diagram with another wiring
  abbrev pub with_wiring : (w : Wiring) → ((s : ℕ) → is_placed (layout w) s ≡ (ledger d.slots).placed s) → Diagram F
  with_wiring w agree = record { wiring = w; slots = d.slots; scan = d.scan; scans = d.scans; family = d.family; agree = agree }

  -- one more wire in the chart
  pub joined_chart : (w : Wiring) (agree : (s : ℕ) → is_placed (layout w) s ≡ (ledger d.slots).placed s) (t p s : ℕ) → Connected (layout d.wiring) (layout w) t p s → chart (with_wiring w agree) ≡ sourcing t p (Some s) (chart d)
  joined_chart w agree t p s k = same_chart (chart (with_wiring w agree)) (sourcing t p (Some s) (chart d)) (record {
    placed = λ u. refl;
    generation = λ u. refl;
    ports = k.ports;
    direct = λ u q. ap (λ (n : ℕ). ltb q n && not ((layout w).late u q)) (k.ports u) ∙ ap (λ (b : Bool). ltb q ((layout d.wiring).ports u) && not b) (k.late u q);
    source = λ u q. k.source u q ∙ sym (put_port (layout d.wiring).source t p (Some s) u q);
    freed = refl;
    used = refl;
    scan = refl;
    scans = refl;
  })
