-- A line whose checks are passed does what its call does.
use Rattle.std.proofs.Common.{◌≡◌, ℕ, Bool, true, false, not, ◌&&◌, [], ◌∷◌, is_some, Some, None, Option, Result, sym, refl, ap, subst}
use Rattle.std.proofs.lemmas.Bool.{both_ways}
use Rattle.family.specs.Meaning.{Meaning}
use Rattle.passes.specs.Rows.{or_else}
use Rattle.refusal.specs.declared.refusals.Refusal.{Refusal}
use Rattle.refusal.specs.declared.refusals.Refusal.TheVariants.{DiagramOpen, UnknownName}
use Rattle.diagram.specs.Calls.{Call}
use Rattle.diagram.specs.Chart.{when, first}
use Rattle.diagram.specs.Made.{Made, answer}
use Rattle.diagram.specs.View.{Lent}
use Rattle.runner.specs.Lines.{Under}

module _ {F R S A : Type 0} (m : Meaning R S) (f : A → ℕ) (k : Lent F R S) (r : Result A Refusal) (l : Lent F R S) where
  -- a line of one name, where no scan is open and the name stands for h
  pub one_name : (busy : Bool) (o : Option ℕ) (h : ℕ) → busy ≡ false → o ≡ Some h → (c : ℕ → Call) → Made m (c h) k (answer f r) l
      → Under m (first (when busy DiagramOpen ∷ when (not (is_some o)) UnknownName ∷ [])) (Some (c (or_else 0 o))) f k r l
  one_name true o h shut is c made = absurd (both_ways true shut refl)
  one_name false None h shut is c made = absurd (both_ways false refl (ap is_some is))
  one_name false (Some g) h shut is c made = subst (λ (i : ℕ). Made m (c i) k (answer f r) l) (sym (ap (or_else 0) is)) made

  -- and of two
  pub two_names : (busy : Bool) (o p : Option ℕ) (g h : ℕ) → busy ≡ false → o ≡ Some g → p ≡ Some h → (c : ℕ → ℕ → Call) → Made m (c g h) k (answer f r) l
      → Under m (first (when busy DiagramOpen ∷ when (not (is_some o && is_some p)) UnknownName ∷ [])) (Some (c (or_else 0 o) (or_else 0 p))) f k r l
  two_names true o p g h shut is is' c made = absurd (both_ways true shut refl)
  two_names false None p g h shut is is' c made = absurd (both_ways false refl (ap is_some is))
  two_names false (Some a) None g h shut is is' c made = absurd (both_ways false refl (ap is_some is'))
  two_names false (Some a) (Some b) g h shut is is' c made = subst (λ (i : ℕ). Made m (c i b) k (answer f r) l) (sym (ap (or_else 0) is)) (subst (λ (i : ℕ). Made m (c g i) k (answer f r) l) (sym (ap (or_else 0) is')) made)
