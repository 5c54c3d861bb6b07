-- The chart with one more block.
use Rattle.std.proofs.Common.{◌≡◌, ℕ, zero, suc, ◌≤◌, Bool, false, not, ◌&&◌, eqb, ltb, List, [], ◌∷◌, get_or, None, Option, sym, refl, ap, ◌∙◌, inl, inr, arith}
use Rattle.std.proofs.lemmas.Bool.{cases_eq, cond-true, cond-false, eq-eqb, ne_eqb, le-ltb}
use Rattle.family.specs.Laws.{direct}
use Rattle.family.specs.Meaning.{Meaning}
use Rattle.wiring.specs.Layout.{Layout}
use Rattle.wiring.specs.Change.{Same as SameLayout, inserted}
use Rattle.passes.specs.Rows.{put}
use Rattle.passes.proofs.Rows.{put_same, put_other}
use Rattle.diagram.specs.Chart.{Chart}

-- two charts that agree everywhere are one
pub record Alike (a b : Chart) : Type 0 where
  pub placed : (s : ℕ) → a.placed s ≡ b.placed s
  pub generation : (s : ℕ) → a.generation s ≡ b.generation s
  pub ports : (s : ℕ) → a.ports s ≡ b.ports s
  pub direct : (s p : ℕ) → a.direct s p ≡ b.direct s p
  pub source : (s p : ℕ) → a.source s p ≡ b.source s p
  pub freed : a.freed ≡ b.freed
  pub used : a.used ≡ b.used
  pub scan : a.scan ≡ b.scan
  pub scans : a.scans ≡ b.scans

pub same_chart : (a b : Chart) → Alike a b → a ≡ b
same_chart a b e = λ i. record {
  placed = λ s. e.placed s i;
  generation = λ s. e.generation s i;
  ports = λ s. e.ports s i;
  direct = λ s p. e.direct s p i;
  source = λ s p. e.source s p i;
  freed = e.freed i;
  used = e.used i;
  scan = e.scan i;
  scans = e.scans i;
}

-- of at most three ports, those that are direct are told by the first three late marks
three_late : (n : ℕ) (late : ℕ → Bool) (p : ℕ) → n ≤ 3 → ltb p n && not (get_or (late 0 ∷ (late 1 ∷ (late 2 ∷ []))) p false) ≡ ltb p n && not (late p)
three_late n late zero few = refl
three_late n late (suc zero) few = refl
three_late n late (suc (suc zero)) few = refl
three_late n late (suc (suc (suc p))) few =
    let off : ltb (suc (suc (suc p))) n ≡ false = le-ltb (suc (suc (suc p))) n (omega arith) in
    ap (λ (b : Bool). b && not false) off ∙ sym (ap (λ (b : Bool). b && not (late (suc (suc (suc p))))) off)

module _ {R S : Type 0} (m : Meaning R S) (few : (r : R) → m.ports r ≤ 3) (r : R) (l l' : Layout) (s n : ℕ) (late : List Bool) (is : SameLayout l' (inserted l s n late)) (ports : n ≡ m.ports r)
    (lates : late ≡ m.late r 0 ∷ (m.late r 1 ∷ (m.late r 2 ∷ []))) where
  -- the ports
  pub ports_more : (t : ℕ) → l'.ports t ≡ put l.ports s (m.ports r) t
  ports_more t = is.ports t ∙ ap (λ (k : ℕ). put l.ports s k t) ports

  -- which of them are direct
  pub direct_more : (t p : ℕ) → ltb p (l'.ports t) && not (l'.late t p) ≡ put (λ u q. ltb q (l.ports u) && not (l.late u q)) s (direct m.ports m.late r) t p
  direct_more t p = elim (cases_eq t s) [
    | inl e ↦
        ap (λ (k : ℕ). ltb p k && not (l'.late t p)) (ports_more t ∙ put_same l.ports s (m.ports r) t e)
        ∙ ap (λ (b : Bool). ltb p (m.ports r) && not b) (is.late t p ∙ cond-true (eqb t s) (get_or late p false) (l.late t p) (eq-eqb t s e) ∙ ap (λ (xs : List Bool). get_or xs p false) lates)
        ∙ three_late (m.ports r) (m.late r) p (few r)
        ∙ sym (ap (λ (f : ℕ → Bool). f p) (put_same (λ u q. ltb q (l.ports u) && not (l.late u q)) s (direct m.ports m.late r) t e))
    | inr ne ↦
        ap (λ (k : ℕ). ltb p k && not (l'.late t p)) (ports_more t ∙ put_other l.ports s (m.ports r) t ne)
        ∙ ap (λ (b : Bool). ltb p (l.ports t) && not b) (is.late t p ∙ cond-false (eqb t s) (get_or late p false) (l.late t p) (ne_eqb t s ne))
        ∙ sym (ap (λ (f : ℕ → Bool). f p) (put_other (λ u q. ltb q (l.ports u) && not (l.late u q)) s (direct m.ports m.late r) t ne))
  ]

  -- and their sources
  pub source_more : (t p : ℕ) → l'.source t p ≡ put l.source s (λ q. None) t p
  source_more t p = is.source t p ∙ (elim (cases_eq t s) [
    | inl e ↦ cond-true (eqb t s) None (l.source t p) (eq-eqb t s e) ∙ sym (ap (λ (f : ℕ → Option ℕ). f p) (put_same l.source s (λ q. None) t e))
    | inr ne ↦ cond-false (eqb t s) None (l.source t p) (ne_eqb t s ne) ∙ sym (ap (λ (f : ℕ → Option ℕ). f p) (put_other l.source s (λ q. None) t ne))
  ])
