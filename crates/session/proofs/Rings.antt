-- A wire is refused where it closes a ring.
use Rattle.std.proofs.Common.{◌≡◌, ℕ, ◌<◌, true, false, ◌⊎◌, [], is_some, Some, None, Option, sym, refl, ap, ◌∙◌, subst, inl, inr}
use Rattle.std.proofs.lemmas.Bool.{lt-ltb, cases_eq, and_from, not_from_true}
use Rattle.family.specs.Meaning.{Meaning}
use Rattle.wiring.specs.Ring.{HasRing}
use Rattle.wiring.proofs.Rings.{no_ring, has_ring_over}
use Rattle.passes.specs.Rows.{put, on_some}
use Rattle.refusal.specs.declared.refusals.Refusal.TheVariants.{DiagramOpen, UnknownHandle, NoSuchPort, PortWired, MakesRing}
use Rattle.diagram.specs.Calls.{wire, Answer, ok, refused, Lawful}
use Rattle.diagram.specs.Chart.{Chart, slot, handle, names, charted, first, checks}
use Rattle.diagram.specs.World.{World, DirectSlots, Does}
use Rattle.session.specs.Plan.{Plan, Direct, grown, planned, plan}
use Rattle.session.specs.Law.{Passes, Rings}
use Rattle.session.specs.Begun.{then, LentSession}
use Rattle.passes.proofs.Rows.{put_same, put_other}
use Rattle.session.proofs.Base.{none_some, some_same, some_is, named, names_handle, slot_handle, check_from}
use Rattle.session.proofs.Coherent.{Coherent, block_in, source_in}
use Rattle.session.proofs.Steps.{coherent, steps, accept, does_cases}
use Rattle.session.proofs.Solving.{stands, ascends}

-- a sound world has no ring of direct slots
pub no_ring_in : {R S : Type 0} (w : World R S) → HasRing (DirectSlots w.chart) → ⊥
no_ring_in w r = no_ring (DirectSlots w.chart) w.rank (λ s t d. w.sound.ascends t d.0 s d.1 d.2) r

module _ {R S : Type 0} (m : Meaning R S) (lawful : Lawful m) where
  -- nor has its plan
  pub no_ring_of : (P : Plan R S) (w : World R S) → Coherent m P w.chart w.records w.signals → HasRing (Direct m P) → ⊥
  no_ring_of P w is r = no_ring (Direct m P) (λ h. w.rank (slot h)) (λ s t d. ascends m P w is t d.0 s d.1 d.2 d.3 d.4) r

  -- what the plan's checks say of the chart's
  passes_checks : (P : Plan R S) (w : World R S) → Coherent m P w.chart w.records w.signals → (t p s : ℕ) → Passes m P t p s → first (checks m (wire t p s) w.chart) ≡ None
  passes_checks P w is t p s ps =
      let a = stands m P w is t ps.target.0 ps.target.1 in
      let b = stands m P w is s ps.source.0 ps.source.1 in
      let on = (named w.chart t a.0).0 in
      let few : p < w.chart.ports (slot t) = subst (λ n. p < n) (sym (is.agrees (slot t) ps.target.0 on a.1).0) ps.target.2 in
      check_from _ DiagramOpen _ (sym is.opened ∙ ps.shut)
      (check_from _ UnknownHandle _ (not_from_true _ (and_from _ _ a.0 b.0))
      (check_from _ NoSuchPort _ (not_from_true _ (lt-ltb _ _ few))
      (check_from _ PortWired [] (bare_slot w.chart (w.chart.source (slot t) p) (sym (is.wires t p ∙ source_in w.chart t p a.0) ∙ ps.bare)) refl)))
    where
      bare_slot : (c : Chart) (o : Option ℕ) → on_some (handle c) o ≡ None → is_some o ≡ false
      bare_slot c None e = refl
      bare_slot c (Some u) e = absurd (none_some (Some (handle c u)) e refl)

  -- a ring of slots is one of handles
  module _ (P : Plan R S) (c : Chart) (w : World R S) (is : Coherent m P c w.records w.signals) (small : (s : ℕ) → c.placed s ≡ true → s < 256)
      (ends : (t p s : ℕ) → c.source t p ≡ Some s → (c.placed t ≡ true) × (c.placed s ≡ true)) where
    direct_over : (s t : ℕ) → DirectSlots c s t → Direct m P (handle c s) (handle c t)
    direct_over s t d =
        let on = (ends t d.0 s d.2).0 in
        let low = small t on in
        let x = some_is (w.records t) (is.long t low) in
        let at = slot_handle c t low in
        let named_t = names_handle c t low on in (
          d.0,
          x.0,
          is.blocks (handle c t) ∙ block_in c w.records (handle c t) named_t ∙ ap w.records at ∙ x.1,
          sym ((is.agrees t x.0 on x.1).1 d.0) ∙ d.1,
          is.wires (handle c t) d.0 ∙ source_in c (handle c t) d.0 named_t ∙ ap (λ y. on_some (handle c) (c.source y d.0)) at ∙ ap (on_some (handle c)) d.2,
        )

    ring_handles : HasRing (DirectSlots c) → HasRing (Direct m P)
    ring_handles = has_ring_over (DirectSlots c) (Direct m P) (handle c) direct_over

  -- both ends of a wire stand, with one more wire too
  module _ (w : World R S) (t p s : ℕ) (on_t : names w.chart t ≡ true) (on_s : names w.chart s ≡ true) where
    wired_ends : (v q u : ℕ) → (charted m (wire t p s) w.chart).source v q ≡ Some u → (w.chart.placed v ≡ true) × (w.chart.placed u ≡ true)
    wired_ends v q u e = elim (cases_eq v (slot t)) [
      | inr ne ↦
          let old = sym (ap (λ f. f q) (put_other w.chart.source (slot t) _ v ne)) ∙ e in
          (w.sound.tails v q u old, w.sound.heads v q u old)
      | inl at ↦
          let here_e : put (w.chart.source (slot t)) p (Some (slot s)) q ≡ Some u = sym (ap (λ f. f q) (put_same w.chart.source (slot t) _ v at)) ∙ e in (
            ap w.chart.placed at ∙ (named w.chart t on_t).0,
            elim (cases_eq q p) [
              | inl is ↦ ap w.chart.placed (some_same _ here_e (put_same (w.chart.source (slot t)) p (Some (slot s)) q is)) ∙ (named w.chart s on_s).0
              | inr ne ↦ w.sound.heads (slot t) q u (sym (put_other (w.chart.source (slot t)) p (Some (slot s)) q ne) ∙ here_e)
            ],
          )
    ]

  wire_verdict : (P : Plan R S) (w v : World R S) (a : Answer) (t p s : ℕ) → Coherent m P w.chart w.records w.signals → Does m (wire t p s) w a v → Passes m P t p s
      → ((a ≡ refused MakesRing) × HasRing (Direct m (grown m (wire t p s) 0 w.signals P))) ⊎ ((a ≡ ok 0) × (HasRing (Direct m (grown m (wire t p s) 0 w.signals P)) → ⊥))
  wire_verdict P w v a t p s is does ps =
      let clear = passes_checks P w is t p s ps in
      let x = stands m P w is t ps.target.0 ps.target.1 in
      let y = stands m P w is s ps.source.0 ps.source.1 in
      elim (does_cases m (wire t p s) w a v does) [
        | inr d ↦
            let next = steps m lawful w P is (wire t p s) a v v.signals does (λ k. refl) in
            let e = ap (λ z. planned m (wire t p s) z v.signals P) d.accepted.answer in
            inr (d.accepted.answer, no_ring_of (grown m (wire t p s) 0 v.signals P) v (subst (λ (z : Plan R S). Coherent m z v.chart v.records v.signals) e next))
        | inl b ↦ elim b.by [
          | inl e ↦ absurd (none_some _ clear e)
          | inr z ↦ elim z.1 [
            | inl e ↦ absurd (none_some None refl e)
            | inr r ↦
                inl (
                  b.was.answer ∙ ap refused r.0,
                  ring_handles (grown m (wire t p s) 0 w.signals P) (charted m (wire t p s) w.chart) w
                      (accept m lawful w P is (wire t p s) clear refl w.signals (λ k. refl)) w.sound.small (wired_ends w t p s x.0 y.0) r.1,
                )
          ]
        ]
      ]

  pub rings : Rings m (World R S) (λ w. w.signals) (LentSession m)
  rings es e v (then {w} f s does same) t p k c ps =
      wire_verdict (plan m es) w v f.answer t p k (coherent m lawful es w s) (subst (λ x. Does m x w f.answer v) c does) ps
