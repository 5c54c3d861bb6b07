-- What a call that was made says of the scan.
use Rattle.std.proofs.Common.{◌≡◌, ℕ, Bool, true, false, ◌⊎◌, Some, None, Option, Ok, Err, Result, sym, refl, ap, ◌∙◌, inl, inr, arith}
use Rattle.std.specs.Result.{IfErr, OnErr}
use Rattle.family.specs.Meaning.{Meaning}
use Rattle.refusal.specs.declared.refusals.Refusal.{Refusal}
use Rattle.refusal.specs.declared.refusals.Refusal.TheVariants.{RowTooShort, MakesRing}
use Rattle.diagram.specs.declared.token.ScanToken.{ScanToken}
use Rattle.diagram.specs.Calls.{Call, Answer, ok, refused}
use Rattle.diagram.specs.Chart.{Chart, first, checks, charted}
use Rattle.diagram.specs.World.{Accepted, By, refusing}
use Rattle.diagram.specs.View.{chart, Lent, world}
use Rattle.diagram.specs.Made.{Made, answer, fits, settled}

ok_refused : (n : ℕ) (r : Refusal) → ok n ≡ refused r → ⊥
ok_refused n r e = let z : ◌≡◌ {A = ℕ} 0 1 = cc in omega arith

none_some : {A : Type 0} {a : A} (o : Option A) → o ≡ None → o ≡ Some a → ⊥
none_some o p q = let z : ◌≡◌ {A = ℕ} 0 1 = cc in omega arith

-- a call was refused, with the diagram as it was
record Barred {F R S : Type 0} (x : Lent F R S) (a : Answer) (y : Lent F R S) : Type 0 where
  pub why : Refusal
  pub answer : a ≡ refused why
  pub same : chart y.diagram ≡ chart x.diagram

-- a call passed all checks and was accepted
record Passed {F R S : Type 0} (m : Meaning R S) (c : Call) (x : Lent F R S) (a : Answer) (y : Lent F R S) : Type 0 where
  pub fit : fits c x.records x.signals ≡ true
  pub clear : first (checks m c (chart x.diagram)) ≡ None
  pub accepted : Accepted m c (world m x) a (world m y)

made_cases : {F R S : Type 0} (m : Meaning R S) (c : Call) (x : Lent F R S) (a : Answer) (y : Lent F R S) → Made m c x a y → Barred x a y ⊎ Passed m c x a y
made_cases m c x a y k = by_fit (fits c x.records x.signals) refl
  where
    go : fits c x.records x.signals ≡ true → (o l : Option Refusal) → first (checks m c (chart x.diagram)) ≡ o → By m o l c (world m x) a (world m y) → Barred x a y ⊎ Passed m c x a y
    go t (Some n) l e d = inl (record { why = n; answer = d.answer; same = ap (λ w. w.chart) d.same })
    go t None (Some n) e d = inl (record { why = n; answer = d.answer; same = ap (λ w. w.chart) d.same })
    go t None None e (inl d) = inl (record { why = MakesRing; answer = d.1.answer; same = ap (λ w. w.chart) d.1.same })
    go t None None e (inr d) = inr (record { fit = t; clear = e; accepted = d })

    by_fit : (b : Bool) → fits c x.records x.signals ≡ b → Barred x a y ⊎ Passed m c x a y
    by_fit false e = let s = k.short e in inl (record { why = RowTooShort; answer = s.0; same = ap (λ l. chart l.diagram) s.1 })
    by_fit true e = go e (first (checks m c (chart x.diagram))) (refusing m c (world m x).records) refl (k.does e)

-- a refused call leaves the diagram
left : {F R S : Type 0} (m : Meaning R S) (c : Call) (x : Lent F R S) (r : Refusal) (y : Lent F R S) → Made m c x (refused r) y → chart y.diagram ≡ chart x.diagram
left m c x r y k = go (made_cases m c x (refused r) y k)
  where
    go : Barred x (refused r) y ⊎ Passed m c x (refused r) y → chart y.diagram ≡ chart x.diagram
    go (inl b) = b.same
    go (inr p) = absurd (ok_refused _ r (sym p.accepted.answer))

-- the same, where a result tells the answer
pub barred : {F R S A : Type 0} (m : Meaning R S) (c : Call) (x : Lent F R S) (f : A → ℕ) (r : Result A Refusal) (y : Lent F R S) → Made m c x (answer f r) y → OnErr r (chart y.diagram ≡ chart x.diagram)
barred m c x f (Ok a) y k = tt
barred m c x f (Err e) y k = left m c x e y k

-- a refused settle gives its token back, and what the same chart has stands
pub given_back : {F R S : Type 0} (m : Meaning R S) (c : Call) (x : Lent F R S) (r : Result (Unit {0}) (ScanToken × Refusal)) (y : Lent F R S) (t : ScanToken) {P : Type 0} → Made m c x (settled r) y → IfErr r (λ e. e.0 ≡ t)
    → (chart y.diagram ≡ chart x.diagram → P) → IfErr r (λ e. (e.0 ≡ t) × P)
given_back m c x (Ok a) y t k back f = tt
given_back m c x (Err e) y t k back f = (back, f (left m c x e.1 y k))

-- a call that opens and ends no scan leaves it
pub keeps : {F R S : Type 0} (m : Meaning R S) (c : Call) (x : Lent F R S) (a : Answer) (y : Lent F R S) → ((h : Chart) → (charted m c h).scan ≡ h.scan) → Made m c x a y → (chart y.diagram).scan ≡ (chart x.diagram).scan
keeps m c x a y calm k = go (made_cases m c x a y k)
  where
    go : Barred x a y ⊎ Passed m c x a y → (chart y.diagram).scan ≡ (chart x.diagram).scan
    go (inl b) = ap (λ (h : Chart). h.scan) b.same
    go (inr p) = ap (λ (h : Chart). h.scan) p.accepted.chart ∙ calm (chart x.diagram)
