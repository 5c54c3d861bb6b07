-- Two sessions that differ in feeds and tunes of one block differ in its wake alone.
use Rattle.std.proofs.Common.{◌≡◌, ℕ, ◌+◌, ◌/◌, ◌<◌, Bool, true, false, cond, ◌&&◌, eqb, ◌⊎◌, is_some, Some, None, Option, sym, refl, ap, ◌∙◌, subst, ap₂, inl, inr, arith}
use mathlib.Core.Path.{fun_ext}
use Rattle.std.proofs.lemmas.Bool.{eqb-true, cases_eq, both_ways}
use Rattle.family.specs.declared.values.Params.{Params}
use Rattle.family.specs.Meaning.{Meaning}
use Rattle.wiring.specs.Reach.{here, step}
use Rattle.wiring.specs.Ring.{HasRing}
use Rattle.passes.specs.Rows.{put, on_some}
use Rattle.passes.specs.Scan.{carried}
use Rattle.refusal.specs.declared.refusals.Refusal.TheVariants.{DiagramOpen}
use Rattle.diagram.specs.Calls.{Call, place, remove, wire, cut, edit, solve, settle, Answer, stirs, amiss, edited, Lawful}
use Rattle.diagram.specs.Chart.{Chart, slot, names, free, removing, charted, given, first, checks}
use Rattle.diagram.specs.World.{World, DirectSlots, look, refusing, Accepted, Closes, Does}
use Rattle.session.specs.Plan.{Plan, Wired, grown, planned, spread, waking}
use Rattle.passes.proofs.Rows.{put_same, put_other}
use Rattle.session.proofs.Base.{none_some, some_is, slot_small, named, check_none}
use Rattle.session.proofs.Coherent.{Coherent, block_in, source_of, inputs_same, places_other, removes_other, removes_here}
use Rattle.session.proofs.Steps.{does_cases, LetThrough, Barred, open_named, free_at, settle_open}
use Rattle.session.proofs.Solving.{agree, runs, lives, ascends, solved_plan}
use Rattle.session.proofs.Rings.{no_ring_in}

-- h is the block that is fed and tuned, W its wake
pub record Twin {R S : Type 0} (m : Meaning R S) (h : ℕ) (P Q : Plan R S) (W : ℕ → Type 0) (w v : World R S) : Type 0 where
  pub chart : w.chart ≡ v.chart
  pub blocks : (k : ℕ) → (W k → ⊥) → P.block k ≡ Q.block k
  pub signals : (k : ℕ) → names w.chart k ≡ true → (W k → ⊥) → w.signals (slot k) ≡ v.signals (slot k)
  -- while a scan is open, no wire leads out of the wake
  pub closed : is_some w.chart.scan ≡ true → (s t : ℕ) → Wired m P s t → W s → W t
  -- h is in its wake until it is removed, and then its handle names nothing
  pub mine : W h ⊎ (h / 256 < w.chart.generation (slot h))

put_cong : {A : Type 0} (f g : ℕ → A) (n k : ℕ) (u v : A) (j : ℕ) → n ≡ k → u ≡ v → f j ≡ g j → put f n u j ≡ put g k v j
put_cong f g n k u v j e i d = ap (λ x. cond (eqb j x) u (f j)) e ∙ ap₂ (λ x y. cond (eqb j k) x y) i d

module _ {R S : Type 0} (m : Meaning R S) (lawful : Lawful m) where
  ring_clash : (c : Call) (w v u : World R S) (b : Answer) → w.chart ≡ v.chart → Closes m c w → Accepted m c v b u → ⊥
  ring_clash (place kind z) w v u b e x y = x
  ring_clash (remove g) w v u b e x y = x
  ring_clash (wire t p s) w v u b e x y = no_ring_in u (subst (λ z. HasRing (DirectSlots z)) (ap (charted m (wire t p s)) e ∙ sym y.chart) x)
  ring_clash (cut t p) w v u b e x y = x
  ring_clash (edit g k) w v u b e x y = x
  ring_clash solve w v u b e x y = x
  ring_clash (settle n) w v u b e x y = x

  -- a call is not refused in the one and accepted in the other, where the checks are the same
  clash : (c : Call) (w v w' v' : World R S) (a b : Answer) → w.chart ≡ v.chart → refusing m c w.records ≡ refusing m c v.records → Barred m c w a w' → LetThrough m c v b v' → ⊥
  clash c w v w' v' a b e f x y = elim x.by [
    | inl n ↦ none_some _ (ap (λ z. first (checks m c z)) e ∙ y.clear) n
    | inr z ↦ elim z.1 [
      | inl n ↦ none_some _ (f ∙ y.fit) n
      | inr r ↦ ring_clash c w v v' b e r.1 y.accepted
    ]
  ]

  module _ (h : ℕ) (P Q : Plan R S) (W : ℕ → Type 0) (w v : World R S)
      (is : Coherent m P w.chart w.records w.signals) (is' : Coherent m Q v.chart v.records v.signals) (twin : Twin m h P Q W w v) where
    -- where no chart and no signal changes
    keep : (P' Q' : Plan R S) (w' v' : World R S) → w'.chart ≡ w.chart → v'.chart ≡ v.chart → ((s : ℕ) → w'.signals s ≡ w.signals s) → ((s : ℕ) → v'.signals s ≡ v.signals s)
        → P'.source ≡ P.source → ((k : ℕ) → (W k → ⊥) → P'.block k ≡ Q'.block k) → Twin m h P' Q' W w' v'
    keep P' Q' w' v' c d i j s b = record {
      chart = c ∙ twin.chart ∙ sym d;
      blocks = b;
      signals = λ k on out. i (slot k) ∙ twin.signals k (sym (ap (λ z. names z k) c) ∙ on) out ∙ sym (j (slot k));
      closed = λ o a t x. twin.closed (sym (ap (λ (z : Chart). is_some z.scan) c) ∙ o) a t (x.0, ap (λ f. f t x.0) (sym s) ∙ x.1);
      mine = elim twin.mine [ inl x ↦ inl x | inr x ↦ inr (subst (λ (z : Chart). h / 256 < z.generation (slot h)) (sym c) x) ];
    }

    -- the one block that is stirred is in its wake
    own : names w.chart h ≡ true → W h
    own on = elim twin.mine [ inl x ↦ x | inr x ↦ let e = (named w.chart h on).2 in absurd (omega arith) ]

    -- a feed or a tune of h in the first session alone
    pub stir_left : (c : Call) (a : Answer) (w' : World R S) (σ : ℕ → S) → stirs h c ≡ true → Does m c w a w' → Twin m h (planned m c a σ P) Q (waking m c a P W) w' v
    stir_left c a w' σ mine does = elim (does_cases m c w a w' does) [
      | inl b ↦ subst (λ x. Twin m h (planned m c x σ P) Q (waking m c x P W) w' v) (sym b.was.answer)
          (keep P Q w' v (ap (λ (z : World R S). z.chart) b.was.same) refl (λ s. ap (λ (z : World R S). z.signals s) b.was.same) (λ s. refl) refl twin.blocks)
      | inr d ↦ subst (λ x. Twin m h (planned m c x σ P) Q (waking m c x P W) w' v) (sym d.accepted.answer) (go c mine d)
    ]
      where
        go : (c : Call) → stirs h c ≡ true → LetThrough m c w a w' → Twin m h (grown m c (given c w.chart) σ P) Q (λ k. spread m c P W k) w' v
        go (edit g z) e d =
            let at = eqb-true g h e in
            let mem : W g = subst W (sym at) (own (ap (names w.chart) (sym at) ∙ (open_named _ _ d.clear).1)) in
            keep (grown m (edit g z) 0 σ P) Q w' v d.accepted.chart refl d.accepted.signals (λ s. refl) refl
            (λ k out. put_other P.block g _ k (λ i. out (subst W (sym i) mem)) ∙ twin.blocks k out)
        go (place kind x) e d = absurd (both_ways false refl e)
        go (remove g) e d = absurd (both_ways false refl e)
        go (wire t p s) e d = absurd (both_ways false refl e)
        go (cut t p) e d = absurd (both_ways false refl e)
        go solve e d = absurd (both_ways false refl e)
        go (settle n) e d = absurd (both_ways false refl e)

    -- in the second session alone
    pub stir_right : (c : Call) (a : Answer) (v' : World R S) (σ : ℕ → S) → stirs h c ≡ true → Does m c v a v' → Twin m h P (planned m c a σ Q) W w v'
    stir_right c a v' σ mine does = elim (does_cases m c v a v' does) [
      | inl b ↦ subst (λ x. Twin m h P (planned m c x σ Q) W w v') (sym b.was.answer)
          (keep P Q w v' refl (ap (λ (z : World R S). z.chart) b.was.same) (λ s. refl) (λ s. ap (λ (z : World R S). z.signals s) b.was.same) refl twin.blocks)
      | inr d ↦ subst (λ x. Twin m h P (planned m c x σ Q) W w v') (sym d.accepted.answer) (go c mine d)
    ]
      where
        mem : (g : ℕ) → g ≡ h → names v.chart g ≡ true → W g
        mem g at on = subst W (sym at) (own (ap (λ z. names z h) twin.chart ∙ ap (names v.chart) (sym at) ∙ on))

        go : (c : Call) → stirs h c ≡ true → LetThrough m c v a v' → Twin m h P (grown m c (given c v.chart) σ Q) W w v'
        go (edit g z) e d =
            let x = mem g (eqb-true g h e) (open_named _ _ d.clear).1 in
            keep P (grown m (edit g z) 0 σ Q) w v' refl d.accepted.chart (λ s. refl) d.accepted.signals refl
            (λ k out. twin.blocks k out ∙ sym (put_other Q.block g _ k (λ i. out (subst W (sym i) x))))
        go (place kind x) e d = absurd (both_ways false refl e)
        go (remove g) e d = absurd (both_ways false refl e)
        go (wire t p s) e d = absurd (both_ways false refl e)
        go (cut t p) e d = absurd (both_ways false refl e)
        go solve e d = absurd (both_ways false refl e)
        go (settle n) e d = absurd (both_ways false refl e)

    -- the record of a block outside the wake is the same in both rows
    same_record : (g : ℕ) → names w.chart g ≡ true → (W g → ⊥) → w.records (slot g) ≡ v.records (slot g)
    same_record g on out =
        sym (is.blocks g ∙ block_in w.chart w.records g on) ∙ twin.blocks g out
        ∙ is'.blocks g ∙ block_in v.chart v.records g (sym (ap (λ z. names z g) twin.chart) ∙ on)

    -- both plans have the same wires
    same_source : (k p : ℕ) → P.source k p ≡ Q.source k p
    same_source k p = is.wires k p ∙ ap (λ z. source_of z k p) twin.chart ∙ sym (is'.wires k p)

    -- a call of both sessions, by its fates
    fates : (c : Call) (a b : Answer) (w' v' : World R S) (σ τ : ℕ → S) → Does m c w a w' → Does m c v b v'
        → (LetThrough m c w a w' → LetThrough m c v b v' → Twin m h (grown m c (given c w.chart) σ P) (grown m c (given c v.chart) τ Q) (λ k. spread m c P W k) w' v')
        → (Barred m c w a w' → LetThrough m c v b v' → Twin m h P (grown m c (given c v.chart) τ Q) W w' v')
        → (LetThrough m c w a w' → Barred m c v b v' → Twin m h (grown m c (given c w.chart) σ P) Q (λ k. spread m c P W k) w' v')
        → Twin m h (planned m c a σ P) (planned m c b τ Q) (waking m c a P W) w' v'
    fates c a b w' v' σ τ does does' yy ny yn = elim (does_cases m c w a w' does) [
      | inl x ↦ subst (λ z. Twin m h (planned m c z σ P) (planned m c b τ Q) (waking m c z P W) w' v') (sym x.was.answer) (elim (does_cases m c v b v' does') [
        | inl y ↦ subst (λ z. Twin m h P (planned m c z τ Q) W w' v') (sym y.was.answer)
            (keep P Q w' v' (ap (λ (z : World R S). z.chart) x.was.same) (ap (λ (z : World R S). z.chart) y.was.same) (λ s. ap (λ (z : World R S). z.signals s) x.was.same) (λ s. ap (λ (z : World R S). z.signals s) y.was.same) refl twin.blocks)
        | inr y ↦ subst (λ z. Twin m h P (planned m c z τ Q) W w' v') (sym y.accepted.answer) (ny x y)
      ])
      | inr x ↦ subst (λ z. Twin m h (planned m c z σ P) (planned m c b τ Q) (waking m c z P W) w' v') (sym x.accepted.answer) (elim (does_cases m c v b v' does') [
        | inl y ↦ subst (λ z. Twin m h (grown m c (given c w.chart) σ P) (planned m c z τ Q) (λ k. spread m c P W k) w' v') (sym y.was.answer) (yn x y)
        | inr y ↦ subst (λ z. Twin m h (grown m c (given c w.chart) σ P) (planned m c z τ Q) (λ k. spread m c P W k) w' v') (sym y.accepted.answer) (yy x y)
      ])
    ]

    -- a structural call is refused in both or in none
    structural : (c : Call) (a b : Answer) (w' v' : World R S) (σ τ : ℕ → S) → refusing m c w.records ≡ refusing m c v.records → Does m c w a w' → Does m c v b v'
        → (LetThrough m c w a w' → LetThrough m c v b v' → Twin m h (grown m c (given c w.chart) σ P) (grown m c (given c v.chart) τ Q) (λ k. spread m c P W k) w' v')
        → Twin m h (planned m c a σ P) (planned m c b τ Q) (waking m c a P W) w' v'
    structural c a b w' v' σ τ e does does' yy =
        fates c a b w' v' σ τ does does' yy
        (λ x y. absurd (clash c w v w' v' a b twin.chart e x y))
        (λ x y. absurd (clash c v w v' w' b a (sym twin.chart) (sym e) y x))

    -- the charts after an accepted call
    charts : (c : Call) (a b : Answer) (w' v' : World R S) → LetThrough m c w a w' → LetThrough m c v b v' → w'.chart ≡ v'.chart
    charts c a b w' v' x y = x.accepted.chart ∙ ap (charted m c) twin.chart ∙ sym y.accepted.chart

    -- a place in both
    places : (kind : ℕ) (x : Params) (a b : Answer) (w' v' : World R S) (σ τ : ℕ → S) → LetThrough m (place kind x) w a w' → LetThrough m (place kind x) v b v'
        → Twin m h (grown m (place kind x) (given (place kind x) w.chart) σ P) (grown m (place kind x) (given (place kind x) v.chart) τ Q) W w' v'
    places kind x a b w' v' σ τ y z =
        let c = place kind x in
        let r = m.fresh kind x in
        let at = free_at m lawful w kind x y.clear in
        let s = free w.chart in
        let s_same : s ≡ free v.chart = ap free twin.chart in
        record {
          chart = charts c a b w' v' y z;
          blocks = λ k out. put_cong P.block Q.block _ _ (Some r) (Some r) k (ap (given c) twin.chart) refl (twin.blocks k out);
          signals = λ k on out.
              y.accepted.signals (slot k)
              ∙ (elim (cases_eq (slot k) s) [
                | inl e ↦ put_same w.signals s m.rest (slot k) e ∙ sym (put_same v.signals (free v.chart) m.rest (slot k) (e ∙ s_same))
                | inr ne ↦
                    let was : names w.chart k ≡ true =
                    sym (places_other m w.chart w.records s at.1 at.0 r k ne) ∙ ap (λ u. names u k) (sym y.accepted.chart) ∙ on in
                    put_other w.signals s m.rest (slot k) ne ∙ twin.signals k was out ∙ sym (put_other v.signals (free v.chart) m.rest (slot k) (λ e. ne (e ∙ sym s_same)))
              ])
              ∙ sym (z.accepted.signals (slot k));
          closed = λ o. absurd (both_ways _ (check_none (is_some w.chart.scan) DiagramOpen _ y.clear).0 (sym (ap (λ (u : Chart). is_some u.scan) y.accepted.chart) ∙ o));
          mine = elim twin.mine [ inl u ↦ inl u | inr u ↦ inr (subst (λ (d : Chart). h / 256 < d.generation (slot h)) (sym y.accepted.chart) u) ];
        }

    -- a remove in both
    removes : (g : ℕ) (a b : Answer) (w' v' : World R S) (σ τ : ℕ → S) → LetThrough m (remove g) w a w' → LetThrough m (remove g) v b v'
        → Twin m h (grown m (remove g) 0 σ P) (grown m (remove g) 0 τ Q) (λ k. W k × (k ≡ g → ⊥)) w' v'
    removes g a b w' v' σ τ x y =
        let c = remove g in
        let on_g = (open_named _ _ x.clear).1 in
        let gone = removing (slot g) w.chart in
        let still : (k : ℕ) → names w'.chart k ≡ true → (slot k ≡ slot g → ⊥) =
        λ k on e. both_ways _ (removes_here m w.chart w.order w.rank w.sound w.records g on_g k e) (ap (λ z. names z k) (sym x.accepted.chart) ∙ on) in
        record {
          chart = charts c a b w' v' x y;
          blocks = λ k out. elim (cases_eq k g) [
            | inl e ↦ put_same P.block g None k e ∙ sym (put_same Q.block g None k e)
            | inr ne ↦ put_other P.block g None k ne ∙ twin.blocks k (λ z. out (z, ne)) ∙ sym (put_other Q.block g None k ne)
          ];
          signals = λ k on out.
              let off_g = still k on in
              let was : names w.chart k ≡ true =
              sym (removes_other m w.chart w.order w.rank w.sound w.records g on_g k off_g) ∙ ap (λ z. names z k) (sym x.accepted.chart) ∙ on in
              x.accepted.signals (slot k) ∙ twin.signals k was (λ z. out (z, λ e. off_g (ap slot e))) ∙ sym (y.accepted.signals (slot k));
          closed = λ o. absurd (both_ways _ (check_none (is_some w.chart.scan) DiagramOpen _ x.clear).0 (sym (ap (λ (z : Chart). is_some z.scan) x.accepted.chart) ∙ o));
          mine = elim (cases_eq h g) [
            | inl e ↦
                let gen : gone.generation (slot h) ≡ w.chart.generation (slot g) + 1 = put_same w.chart.generation (slot g) _ (slot h) (ap slot e) in
                let was : w.chart.generation (slot g) ≡ h / 256 = (named w.chart g on_g).2 ∙ ap (λ z. z / 256) (sym e) in
                inr (subst (λ (u : Chart). h / 256 < u.generation (slot h)) (sym x.accepted.chart) (let z : h / 256 < gone.generation (slot h) = omega arith in z))
            | inr ne ↦ elim twin.mine [
              | inl z ↦ inl (z, ne)
              | inr z ↦ inr (subst (λ (u : Chart). h / 256 < u.generation (slot h)) (sym x.accepted.chart) (rises w.chart.generation (slot g) (slot h) (h / 256) z))
            ]
          ];
        }
      where
        rises : (f : ℕ → ℕ) (t s n : ℕ) → n < f s → n < put f t (f t + 1) s
        rises f t s n l = elim (cases_eq s t) [
          | inl e ↦ let a1 = put_same f t (f t + 1) s e in let a2 : f s ≡ f t = ap f e in omega arith
          | inr ne ↦ let a1 = put_other f t (f t + 1) s ne in omega arith
        ]

    -- a solve in both: two solutions of plans that are alike outside the wake
    solved_both : (a b : Answer) (w' v' : World R S) (σ τ : ℕ → S) → LetThrough m solve w a w' → LetThrough m solve v b v'
        → Twin m h (grown m solve (given solve w.chart) σ P) (grown m solve (given solve v.chart) τ Q) (λ k. spread m solve P W k) w' v'
    solved_both a b w' v' σ τ x y =
        let V : ℕ → Type 0 = λ k. spread m solve P W k in
        let shut : (s t : ℕ) → Wired m P s t → V s → V t = λ s t e z. (z.0, z.1, step z.2 e) in
        record {
          chart = charts solve a b w' v' x y;
          blocks = λ k out. twin.blocks k (λ z. out (k, z, here));
          signals = λ k on out.
              let on_w : names w.chart k ≡ true = ap (λ z. names z k) (sym x.accepted.chart) ∙ on in
              let r = some_is (w.records (slot k)) (is.long (slot k) (slot_small k)) in
              agree m lawful P Q (λ j. w.rank (slot j)) V same_source (λ j far. twin.blocks j (λ z. far (j, z, here))) shut (ascends m P w is) (lives m P w is)
              (λ j. w'.signals (slot j)) (λ j. v'.signals (slot j)) (solved_plan m P w is lawful w'.signals x.accepted.signals) (solved_plan m Q v is' lawful v'.signals y.accepted.signals)
              k r.0 (is.blocks k ∙ block_in w.chart w.records k on_w ∙ r.1) out;
          closed = λ o. shut;
          mine = elim twin.mine [ inl z ↦ inl (h, z, here) | inr z ↦ inr (subst (λ (u : Chart). h / 256 < u.generation (slot h)) (sym x.accepted.chart) z) ];
        }

    -- a settle in both
    settles : (n : ℕ) (a b : Answer) (w' v' : World R S) (σ τ : ℕ → S) → LetThrough m (settle n) w a w' → LetThrough m (settle n) v b v'
        → Twin m h (grown m (settle n) 0 σ P) (grown m (settle n) 0 τ Q) W w' v'
    settles n a b w' v' σ τ x y =
        let o = settle_open m lawful w n x.clear in
        let o' = settle_open m lawful v n y.clear in
        record {
          chart = charts (settle n) a b w' v' x y;
          blocks = λ k out.
              ap₂ on_some (fun_ext (λ r. ap (m.next r) (inputs_same _ _ (heard_both k out 0 (P.source k 0) refl o o') (heard_both k out 1 (P.source k 1) refl o o') (heard_both k out 2 (P.source k 2) refl o o'))))
              (twin.blocks k out);
          signals = λ k on out.
              x.accepted.signals (slot k) ∙ twin.signals k (ap (λ z. names z k) (sym x.accepted.chart) ∙ on) out ∙ sym (y.accepted.signals (slot k));
          closed = λ z. absurd (both_ways false refl (ap (λ (u : Chart). is_some u.scan) (sym x.accepted.chart) ∙ z));
          mine = elim twin.mine [ inl z ↦ inl z | inr z ↦ inr (subst (λ (u : Chart). h / 256 < u.generation (slot h)) (sym x.accepted.chart) z) ];
        }
      where
        heard_both : (k : ℕ) → (W k → ⊥) → (p : ℕ) (s : Option ℕ) → P.source k p ≡ s → is_some w.chart.scan ≡ true → is_some v.chart.scan ≡ true → carried m P.solved (P.source k p) ≡ carried m Q.solved (Q.source k p)
        heard_both k out p None e o o' = ap (carried m P.solved) e ∙ sym (ap (carried m Q.solved) (sym (same_source k p) ∙ e))
        heard_both k out p (Some s) e o o' =
            let on = (runs m P w is k p s e).1 in
            ap (carried m P.solved) e
            ∙ is.solved (is.opened ∙ o) s ∙ twin.signals s on (λ z. out (twin.closed o s k (p, e) z)) ∙ sym (is'.solved (is'.opened ∙ o') s)
            ∙ sym (ap (carried m Q.solved) (sym (same_source k p) ∙ e))

    -- a wire or a cut
    rewires : (c : Call) (a b : Answer) (w' v' : World R S) (P' Q' : Plan R S) → LetThrough m c w a w' → LetThrough m c v b v'
        → is_some w.chart.scan ≡ false → (charted m c w.chart).scan ≡ w.chart.scan → (charted m c w.chart).generation ≡ w.chart.generation → (charted m c w.chart).placed ≡ w.chart.placed
        → ((s : ℕ) → w'.signals s ≡ w.signals s) → ((s : ℕ) → v'.signals s ≡ v.signals s) → P'.block ≡ P.block → Q'.block ≡ Q.block
        → Twin m h P' Q' W w' v'
    rewires c a b w' v' P' Q' x y shut scan gen pl i j e f = record {
      chart = charts c a b w' v' x y;
      blocks = λ k out. ap (λ g. g k) e ∙ twin.blocks k out ∙ sym (ap (λ g. g k) f);
      signals = λ k on out.
          let same : names w'.chart k ≡ names w.chart k = ap (λ z. names z k) x.accepted.chart ∙ ap₂ (λ (g : ℕ → Bool) (d : ℕ → ℕ). g (slot k) && eqb (d (slot k)) (k / 256)) pl gen in
          i (slot k) ∙ twin.signals k (sym same ∙ on) out ∙ sym (j (slot k));
      closed = λ o. absurd (both_ways _ shut (sym (ap (λ (z : Chart). is_some z.scan) x.accepted.chart ∙ ap is_some scan) ∙ o));
      mine = elim twin.mine [ inl z ↦ inl z | inr z ↦ inr (subst (λ (u : ℕ → ℕ). h / 256 < u (slot h)) (sym (ap (λ (u : Chart). u.generation) x.accepted.chart ∙ gen)) z) ];
    }

    -- a feed or a tune of another block
    module _ (c : Call) (g : ℕ) (f : R → R) (a b : Answer) (w' v' : World R S) (named_g : (u : Chart) → first (checks m c u) ≡ None → names u g ≡ true)
        (checks : w.records (slot g) ≡ v.records (slot g) → refusing m c w.records ≡ refusing m c v.records) where
      edit_both : (k : ℕ) → (W k → ⊥) → put P.block g (on_some f (P.block g)) k ≡ put Q.block g (on_some f (Q.block g)) k
      edit_both k out = elim (cases_eq k g) [
        | inl e ↦ put_cong P.block Q.block g g _ _ k refl (ap (on_some f) (twin.blocks g (subst (λ z. W z → ⊥) e out))) (twin.blocks k out)
        | inr ne ↦ put_other P.block g _ k ne ∙ twin.blocks k out ∙ sym (put_other Q.block g _ k ne)
      ]

      edit_right : Barred m c w a w' → LetThrough m c v b v' → (k : ℕ) → (W k → ⊥) → P.block k ≡ put Q.block g (on_some f (Q.block g)) k
      edit_right x y k out = elim (cases_eq k g) [
        | inl e ↦ absurd (clash c w v w' v' a b twin.chart (checks (same_record g (ap (λ z. names z g) twin.chart ∙ named_g v.chart y.clear) (subst (λ z. W z → ⊥) e out))) x y)
        | inr ne ↦ twin.blocks k out ∙ sym (put_other Q.block g _ k ne)
      ]

      edit_left : LetThrough m c w a w' → Barred m c v b v' → (k : ℕ) → (W k → ⊥) → put P.block g (on_some f (P.block g)) k ≡ Q.block k
      edit_left x y k out = elim (cases_eq k g) [
        | inl e ↦ absurd (clash c v w v' w' b a (sym twin.chart) (sym (checks (same_record g (named_g w.chart x.clear) (subst (λ z. W z → ⊥) e out)))) y x)
        | inr ne ↦ put_other P.block g _ k ne ∙ twin.blocks k out
      ]

    -- one call of both sessions
    pub both : (c : Call) (a b : Answer) (w' v' : World R S) (σ τ : ℕ → S) → Does m c w a w' → Does m c v b v' → Twin m h (planned m c a σ P) (planned m c b τ Q) (waking m c a P W) w' v'
    both (place kind x) a b w' v' σ τ does does' = structural (place kind x) a b w' v' σ τ refl does does' (places kind x a b w' v' σ τ)
    both (remove g) a b w' v' σ τ does does' = structural (remove g) a b w' v' σ τ refl does does' (removes g a b w' v' σ τ)
    both (wire t p s) a b w' v' σ τ does does' = structural (wire t p s) a b w' v' σ τ refl does does'
        (λ x y. rewires (wire t p s) a b w' v' (grown m (wire t p s) 0 σ P) (grown m (wire t p s) 0 τ Q) x y (check_none _ DiagramOpen _ x.clear).0 refl refl refl x.accepted.signals y.accepted.signals refl refl)
    both (cut t p) a b w' v' σ τ does does' = structural (cut t p) a b w' v' σ τ refl does does'
        (λ x y. rewires (cut t p) a b w' v' (grown m (cut t p) 0 σ P) (grown m (cut t p) 0 τ Q) x y (check_none _ DiagramOpen _ x.clear).0 refl refl refl x.accepted.signals y.accepted.signals refl refl)
    both (edit g z) a b w' v' σ τ does does' =
        let c = edit g z in
        let f : R → R = edited m z in
        let on : (u : Chart) → first (checks m c u) ≡ None → names u g ≡ true = λ u e. (open_named (is_some u.scan) (names u g) e).1 in
        let ch : w.records (slot g) ≡ v.records (slot g) → refusing m c w.records ≡ refusing m c v.records = λ e. ap (look (amiss m z)) e in
        fates c a b w' v' σ τ does does'
        (λ x y. keep (grown m c 0 σ P) (grown m c 0 τ Q) w' v' x.accepted.chart y.accepted.chart x.accepted.signals y.accepted.signals refl (edit_both c g f a b w' v' on ch))
        (λ x y. keep P (grown m c 0 τ Q) w' v' (ap (λ (z : World R S). z.chart) x.was.same) y.accepted.chart (λ s. ap (λ (z : World R S). z.signals s) x.was.same) y.accepted.signals refl (edit_right c g f a b w' v' on ch x y))
        (λ x y. keep (grown m c 0 σ P) Q w' v' x.accepted.chart (ap (λ (z : World R S). z.chart) y.was.same) x.accepted.signals (λ s. ap (λ (z : World R S). z.signals s) y.was.same) refl (edit_left c g f a b w' v' on ch x y))
    both solve a b w' v' σ τ does does' = structural solve a b w' v' σ τ refl does does' (solved_both a b w' v' σ τ)
    both (settle n) a b w' v' σ τ does does' = structural (settle n) a b w' v' σ τ refl does does' (settles n a b w' v' σ τ)
