-- A sweep in rank order leaves each placed block's equation true.
use Rattle.std.proofs.Common.{◌≡◌, ℕ, zero, suc, ◌+◌, ◌<◌, ◌≤◌, true, not, ltb, List, [], ◌∷◌, length, get_or, Some, None, Option, sym, refl, ap, ◌∙◌, subst, inl, inr, arith, ltb-true}
use Rattle.std.proofs.lemmas.Bool.{cases_eq, and_parts}
use Rattle.family.specs.Laws.{direct, input}
use Rattle.family.specs.Meaning.{Meaning}
use Rattle.passes.specs.Rows.{put, or_else, on_some}
use Rattle.passes.specs.Scan.{carried, inputs_of, swept}
use Rattle.diagram.specs.Calls.{Lawful}
use Rattle.diagram.specs.World.{World}
use Rattle.passes.proofs.Rows.{put_same, put_other}
use Rattle.session.proofs.Coherent.{Agrees}

-- outputs on signals that are the same at the direct ports
pub late_law_at : {R S : Type 0} (m : Meaning R S) → Lawful m → (r : R) (σ τ : ℕ → S) (f g : ℕ → Option ℕ) → ((p : ℕ) → direct m.ports m.late r p ≡ true → carried m σ (f p) ≡ carried m τ (g p))
    → m.output r (inputs_of m σ f) ≡ m.output r (inputs_of m τ g)
late_law_at m lawful r σ τ f g same = lawful.lateness r (inputs_of m σ f) (inputs_of m τ g) port
  where
    port : (p : ℕ) → direct m.ports m.late r p ≡ true → input (inputs_of m σ f) p ≡ input (inputs_of m τ g) p
    port zero d = same 0 d
    port (suc zero) d = same 1 d
    port (suc (suc zero)) d = same 2 d
    port (suc (suc (suc p))) d =
        let low = ltb-true (suc (suc (suc p))) (m.ports r) (and_parts (ltb (suc (suc (suc p))) (m.ports r)) (not (m.late r (suc (suc (suc p))))) d).0 in
        absurd (omega (arith, lawful.few r))

module _ {R S : Type 0} (m : Meaning R S) (lawful : Lawful m) (w : World R S) (agrees : Agrees m w.chart w.records) where
  -- what the block at s makes of its record r
  abbrev pub made : (ℕ → S) → ℕ → R → S
  made signals s r = m.output r (inputs_of m signals (w.chart.source s))

  -- the placed slots of rank below n have their equations
  abbrev Done : ℕ → (ℕ → S) → Type 0
  Done n signals = (s : ℕ) (r : R) → w.chart.placed s ≡ true → w.rank s < n → w.records s ≡ Some r → signals s ≡ made signals s r

  -- a write at a slot of no lower rank changes nothing that s makes
  made_same : (signals : ℕ → S) (k : ℕ) (v : S) (s : ℕ) (r : R) → w.chart.placed s ≡ true → w.records s ≡ Some r → w.rank s ≤ w.rank k → made signals s r ≡ made (put signals k v) s r
  made_same signals k v s r on is le = late_law_at m lawful r signals (put signals k v) (w.chart.source s) (w.chart.source s) port
    where
      port : (p : ℕ) → direct m.ports m.late r p ≡ true → carried m signals (w.chart.source s p) ≡ carried m (put signals k v) (w.chart.source s p)
      port p d = go (w.chart.source s p) refl
        where
          go : (o : Option ℕ) → w.chart.source s p ≡ o → or_else m.rest (on_some signals o) ≡ or_else m.rest (on_some (put signals k v) o)
          go None e = refl
          go (Some u) e =
              let up = w.sound.ascends s p u ((agrees s r on is).1 p ∙ d) e in
              sym (put_other signals k v u (λ i. let j : w.rank u ≡ w.rank k = ap w.rank i in omega arith))

  -- one more block of the order is done
  one_more : (signals : ℕ → S) (n : ℕ) → n < length w.order → Done n signals
      → Done (suc n) (put signals (get_or w.order n 0) (or_else (signals (get_or w.order n 0)) (on_some (made signals (get_or w.order n 0)) (w.records (get_or w.order n 0)))))
  one_more signals n l done s r on low is =
      let k = get_or w.order n 0 in
      let v = or_else (signals k) (on_some (made signals k) (w.records k)) in
      let rk = (w.sound.ranked n l).1 in
      elim (cases_eq s k) [
        | inl e ↦
            let held : v ≡ made signals k r = ap (λ o. or_else (signals k) (on_some (made signals k) o)) (ap w.records (sym e) ∙ is) in
            put_same signals k v s e ∙ held ∙ ap (λ x. made signals x r) (sym e) ∙ made_same signals k v s r on is (let j : w.rank s ≡ w.rank k = ap w.rank e in omega arith)
        | inr ne ↦
            let st = (w.sound.stands s on).1 in
            let off_n : w.rank s ≡ n → ⊥ = λ i. ne (sym st ∙ ap (λ x. get_or w.order x 0) i) in
            let below : w.rank s < n = omega arith in
            put_other signals k v s ne ∙ done s r on below is ∙ made_same signals k v s r on is (omega arith)
      ]

  -- and so the rest of the order
  sweeps : (ss : List ℕ) (n : ℕ) (signals : ℕ → S) → ((i : ℕ) → i < length ss → get_or ss i 0 ≡ get_or w.order (n + i) 0) → n + length ss ≡ length w.order → Done n signals → Done (length w.order) (swept m w.chart.source w.records ss signals)
  sweeps [] n signals at long done = subst (λ x. Done x signals) (let z : n ≡ length w.order = omega arith in z) done
  sweeps (k ∷ ss) n signals at long done =
      let e : k ≡ get_or w.order n 0 = at 0 (omega arith) ∙ ap (λ x. get_or w.order x 0) (let z : n + 0 ≡ n = omega arith in z) in
      sweeps ss (suc n) _
      (λ i l. at (suc i) (omega arith) ∙ ap (λ x. get_or w.order x 0) (let z : n + suc i ≡ suc n + i = omega arith in z))
      (omega arith)
      (subst (λ x. Done (suc n) (put signals x (or_else (signals x) (on_some (made signals x) (w.records x))))) (sym e) (one_more signals n (omega arith) done))

  -- all of them
  pub swept_solves : (s : ℕ) (r : R) → w.chart.placed s ≡ true → w.records s ≡ Some r → swept m w.chart.source w.records w.order w.signals s ≡ made (swept m w.chart.source w.records w.order w.signals) s r
  swept_solves s r on is =
      sweeps w.order 0 w.signals (λ i l. ap (λ x. get_or w.order x 0) (let z : i ≡ 0 + i = omega arith in z)) (omega arith) (λ t q a low b. absurd (omega arith))
      s r on (w.sound.stands s on).0 is
