-- Two solutions of like plans agree, along the ranks; so a solve's signals are the only ones.
use Rattle.std.proofs.Common.{◌≡◌, ℕ, zero, suc, ◌<◌, true, Some, None, Option, sym, refl, ap, ◌∙◌, subst, inl, inr, arith}
use mathlib.Core.Path.{fun_ext}
use Rattle.std.proofs.lemmas.Bool.{cases_Bool}
use Rattle.family.specs.Laws.{direct}
use Rattle.family.specs.Meaning.{Meaning}
use Rattle.passes.specs.Rows.{on_some}
use Rattle.passes.specs.Scan.{carried, inputs_of}
use Rattle.diagram.specs.Calls.{solve, ok, Lawful}
use Rattle.diagram.specs.Chart.{Chart, slot, handle, names}
use Rattle.diagram.specs.World.{World, signalled, Does}
use Rattle.session.specs.Plan.{Plan, Equation, Wired, grown, planned, plan}
use Rattle.session.specs.Law.{OneSolution, Solution}
use Rattle.session.specs.Begun.{then, LentSession}
use Rattle.session.proofs.Base.{none_some, some_is, slot_small, named, names_handle, slot_handle, ok_refused}
use Rattle.session.proofs.Coherent.{Coherent, block_in, block_out, source_in, source_out, carried_same}
use Rattle.session.proofs.Sweep.{late_law_at, swept_solves}
use Rattle.session.proofs.Steps.{coherent, does_cases}

module _ {R S : Type 0} (m : Meaning R S) (lawful : Lawful m) (P Q : Plan R S) (rank : ℕ → ℕ) (W : ℕ → Type 0)
    (same_source : (h p : ℕ) → P.source h p ≡ Q.source h p)
    (same_block : (h : ℕ) → (W h → ⊥) → P.block h ≡ Q.block h)
    (closed : (s t : ℕ) → Wired m P s t → W s → W t)
    (up : (t p s : ℕ) (r : R) → P.block t ≡ Some r → direct m.ports m.late r p ≡ true → P.source t p ≡ Some s → rank s < rank t)
    (alive : (t p s : ℕ) → P.source t p ≡ Some s → (r : R) × (P.block s ≡ Some r))
    (σ τ : ℕ → S) (solves : (h : ℕ) → Equation m P σ h) (solves' : (h : ℕ) → Equation m Q τ h) where
  abbrev Agree : ℕ → Type 0
  Agree n = (h : ℕ) (r : R) → rank h < n → P.block h ≡ Some r → (W h → ⊥) → σ h ≡ τ h

  port_same : (n h : ℕ) (r : R) → Agree n → rank h < suc n → P.block h ≡ Some r → (W h → ⊥) → (p : ℕ) → direct m.ports m.late r p ≡ true → carried m σ (P.source h p) ≡ carried m τ (Q.source h p)
  port_same n h r agree l is out p d = go (P.source h p) refl ∙ ap (carried m τ) (same_source h p)
    where
      go : (o : Option ℕ) → P.source h p ≡ o → carried m σ (P.source h p) ≡ carried m τ (P.source h p)
      go None e = ap (carried m σ) e ∙ sym (ap (carried m τ) e)
      go (Some s) e =
          let low = up h p s r is d e in
          let live = alive h p s e in
          ap (carried m σ) e ∙ agree s live.0 (omega arith) live.1 (λ x. out (closed s h (p, e) x)) ∙ sym (ap (carried m τ) e)

  agrees : (n : ℕ) → Agree n
  agrees zero h r l is out = absurd (omega arith)
  agrees (suc n) h r l is out =
      let same = port_same n h r (agrees n) l is out in
      solves h r is ∙ late_law_at m lawful r σ τ (P.source h) (Q.source h) same ∙ sym (solves' h r (sym (same_block h out) ∙ is))

  pub agree : (h : ℕ) (r : R) → P.block h ≡ Some r → (W h → ⊥) → σ h ≡ τ h
  agree h r = agrees (suc (rank h)) h r (omega arith)

module _ {R S : Type 0} (m : Meaning R S) (P : Plan R S) (w : World R S) (is : Coherent m P w.chart w.records w.signals) where
  -- a block of the plan stands in the chart
  pub stands : (h : ℕ) (r : R) → P.block h ≡ Some r → (names w.chart h ≡ true) × (w.records (slot h) ≡ Some r)
  stands h r e = elim (cases_Bool (names w.chart h)) [
    | inl on ↦ (on, sym (is.blocks h ∙ block_in w.chart w.records h on) ∙ e)
    | inr out ↦ absurd (none_some (P.block h) (is.blocks h ∙ block_out w.chart w.records h out) e)
  ]

  from_some : (c : Chart) (o : Option ℕ) (s : ℕ) → on_some (handle c) o ≡ Some s → (u : ℕ) × (o ≡ Some u) × (handle c u ≡ s)
  from_some c None s e = absurd (none_some None refl e)
  from_some c (Some u) s e = (u, refl, cc)

  -- a wire of the plan is one of the chart
  pub runs : (t p s : ℕ) → P.source t p ≡ Some s → (names w.chart t ≡ true) × (names w.chart s ≡ true) × (w.chart.source (slot t) p ≡ Some (slot s))
  runs t p s e = elim (cases_Bool (names w.chart t)) [
    | inr out ↦ absurd (none_some (P.source t p) (is.wires t p ∙ source_out w.chart t p out) e)
    | inl on ↦
        let x = from_some w.chart (w.chart.source (slot t) p) s (sym (is.wires t p ∙ source_in w.chart t p on) ∙ e) in
        let head = w.sound.heads (slot t) p x.0 x.1 in
        let low = w.sound.small x.0 head in
        let at : slot s ≡ x.0 = ap slot (sym x.2) ∙ slot_handle w.chart x.0 low in
        (on, ap (names w.chart) (sym x.2) ∙ names_handle w.chart x.0 low head, x.1 ∙ ap Some (sym at))
  ]

  -- a direct wire of the plan ascends
  pub ascends : (t p s : ℕ) (r : R) → P.block t ≡ Some r → direct m.ports m.late r p ≡ true → P.source t p ≡ Some s → w.rank (slot s) < w.rank (slot t)
  ascends t p s r b d e =
      let x = stands t r b in
      w.sound.ascends (slot t) p (slot s) ((is.agrees (slot t) r (named w.chart t x.0).0 x.1).1 p ∙ d) (runs t p s e).2

  -- the source of a wire has a record
  pub lives : (t p s : ℕ) → P.source t p ≡ Some s → (r : R) × (P.block s ≡ Some r)
  lives t p s e =
      let on = (runs t p s e).1 in
      let x = some_is (w.records (slot s)) (is.long (slot s) (slot_small s)) in
      (x.0, is.blocks s ∙ block_in w.chart w.records s on ∙ x.1)

  -- signals that solve the slots' equations solve the plan's
  pub solved_plan : Lawful m → (signals : ℕ → S) → ((s : ℕ) → signals s ≡ signalled m solve w s) → (h : ℕ) → Equation m P (λ k. signals (slot k)) h
  solved_plan lawful signals solved h r e =
      let x = stands h r e in
      let same = carried_same m P w.chart is.wires h x.0 (λ k. signals (slot k)) signals (λ t p u f. ap signals (slot_handle w.chart u (w.sound.small u (w.sound.heads t p u f)))) in
      subst (λ (f : ℕ → S). f (slot h) ≡ m.output r (inputs_of m f (w.chart.source (slot h)))) (sym (fun_ext solved))
      (swept_solves m lawful w is.agrees (slot h) r (named w.chart h x.0).0 x.1)
      ∙ sym (ap (m.output r) same)

  -- no other signals do
  pub only_one : Lawful m → (σ τ : ℕ → S) → ((h : ℕ) → Equation m P σ h) → ((h : ℕ) → Equation m P τ h) → (h : ℕ) (r : R) → P.block h ≡ Some r → σ h ≡ τ h
  only_one lawful σ τ s t h r e = agree m lawful P P (λ k. w.rank (slot k)) (λ k. ⊥) (λ k p. refl) (λ k out. refl) (λ a b x y. y) ascends lives σ τ s t h r e (λ x. x)

module _ {R S : Type 0} (m : Meaning R S) (lawful : Lawful m) where
  -- an accepted solve
  solve_accepted : (w v : World R S) (n : ℕ) → Does m solve w (ok n) v → (s : ℕ) → v.signals s ≡ signalled m solve w s
  solve_accepted w v n does = elim (does_cases m solve w (ok n) v does) [
    | inr d ↦ d.accepted.signals
    | inl b ↦ absurd (ok_refused n b.why b.was.answer)
  ]

  solves_at : (P : Plan R S) (w v : World R S) (σ : ℕ → S) (n : ℕ) → Coherent m P w.chart w.records w.signals → Does m solve w (ok n) v → ((s : ℕ) → σ s ≡ v.signals s) → OneSolution m (grown m solve n σ P) σ
  solves_at P w v σ n is does same =
      let e = solved_plan m P w is lawful σ (λ k. same k ∙ solve_accepted w v n does k) in
      record { equations = e; only = λ τ t h r b. only_one m P w is lawful τ (λ k. σ (slot k)) t e h r b }

  pub solution : Solution m (World R S) (λ w. w.signals) (LentSession m)
  solution es e v (then {w} f s does same) n c a =
      let P = plan m es in
      let d = subst (λ x. Does m x w f.answer v) c does in
      let d' = subst (λ x. Does m solve w x v) a d in
      let x = solves_at P w v f.signals n (coherent m lawful es w s) d' same in
      let y = subst (λ z. OneSolution m (planned m solve z f.signals P) f.signals) (sym a) x in
      subst (λ z. OneSolution m (planned m z f.answer f.signals P) f.signals) (sym c) y
