-- The first pass: one ascending walk along the ranks marks what the target reaches.
use Rattle.std.proofs.Common.{◌≡◌, ℕ, ◌+◌, ◌<◌, ◌≤◌, Bool, true, false, ◌⊎◌, List, length, get_or, set, replicate, Some, sym, refl, ◌∙◌, subst, inl, inr, arith}
use Rattle.std.proofs.lemmas.List.{get_or-set_same, get_or-set_other, length-replicate}
use Rattle.std.proofs.lemmas.Bool.{cases_eq, both_ways}
use Rattle.wiring.specs.Layout.{Layout, Direct}
use Rattle.wiring.specs.Pass.{Marks}
use Rattle.wiring.specs.Reach.{Reaches, here, step}
use Rattle.wiring.specs.Sound.{Sound}
use Rattle.wiring.proofs.Wires.{all_same}

-- what is reached is the start, or fed from what is reached
last : {Wire : ℕ → ℕ → Type 0} {s t : ℕ} → Reaches Wire s t → (t ≡ s) ⊎ ((u : ℕ) × Reaches Wire s u × Wire u t)
last here = inl refl
last (step {u} r w) = inr (u, r, w)

-- some direct port of the slot t is fed from a marked slot
abbrev FedAt : Layout → ℕ → List Bool → Type 0
FedAt l t marks = (p : ℕ) × (s : ℕ) × (l.source t p ≡ Some s) × (p < l.ports t) × (l.late t p ≡ false) × (get_or marks s false ≡ true)

module _ (count : ℕ) (order rank : List ℕ) (live : List Bool) (l : Layout) (was : Sound count order rank live l) (target : ℕ) (alive : get_or live target false ≡ true) where
  -- what the target reaches is live
  pub reached_live : {s : ℕ} → Reaches (Direct l) target s → get_or live s false ≡ true
  reached_live here = alive
  reached_live (step {u} {t} r w) = was.tails u t (w.0, w.1)

  -- and does not stand before it
  reached_above : {s : ℕ} → Reaches (Direct l) target s → get_or rank target 0 ≤ get_or rank s 0
  reached_above here = omega arith
  reached_above (step {u} {t} r w) = let h = reached_above r in let k = was.ascends u t w in omega arith

  -- the start of the pass
  pub marks_none : target < 256 → Marks l rank target (get_or rank target 0 + 1) (set (replicate 256 false) target true)
  marks_none small s = elim (cases_eq s target) [
    | inl e ↦ (λ _. (subst (λ (x : ℕ). Reaches (Direct l) target x) (sym e) here, grind arith), λ _. grind (arith, get_or-set_same (replicate 256 false) target true false (omega (arith, length-replicate 256 false))))
    | inr ne ↦ let f : get_or (set (replicate 256 false) target true) s false ≡ false = get_or-set_other (replicate 256 false) target s true false ne ∙ all_same false 256 s in
        (λ e. absurd (both_ways _ f e), λ b. absurd (elim (last b.0) [ inl e ↦ ne e | inr x ↦ let k = reached_above x.1 in let a = was.ascends _ _ x.2 in omega (arith, b.1) ]))
  ]

  module _ (r : ℕ) (marks : List Bool) (in' : r < count) (past : get_or rank target 0 < r) (so_far : Marks l rank target r marks) where
    -- what is fed from a marked slot is reached
    reached_from_fed : FedAt l (get_or order r 0) marks → Reaches (Direct l) target (get_or order r 0)
    reached_from_fed f = step ((so_far f.1).0 f.5).0 (f.0, f.2, f.3, f.4)

    -- and what is reached is fed from one
    fed_from_reached : Reaches (Direct l) target (get_or order r 0) → FedAt l (get_or order r 0) marks
    fed_from_reached h = elim (last h) [
      | inl e ↦ let p = was.placed r in' in absurd (grind arith)
      | inr x ↦ let p = was.placed r in' in let a = was.ascends _ _ x.2 in (x.2.0, x.0, x.2.1, x.2.2, x.2.3, (so_far x.0).1 (x.1, omega (arith, p.1)))
    ]

    -- at another slot than the one of rank r nothing changes
    other : (s : ℕ) → (s ≡ get_or order r 0 → ⊥) → Reaches (Direct l) target s → get_or rank s 0 < r + 1 → get_or rank s 0 < r
    other s ne h k = let p = was.ranked s (reached_live h) in let q : get_or rank s 0 ≡ r → ⊥ = λ e. ne (grind arith) in omega arith

    -- one rank on, where its block is fed from what is marked
    pub marks_yes : length marks ≡ 256 → get_or order r 0 < 256 → FedAt l (get_or order r 0) marks → Marks l rank target (r + 1) (set marks (get_or order r 0) true)
    marks_yes long small f s = elim (cases_eq s (get_or order r 0)) [
      | inl e ↦ (λ _. (subst (λ (x : ℕ). Reaches (Direct l) target x) (sym e) (reached_from_fed f), let p = was.placed r in' in grind arith), λ _. grind (arith, get_or-set_same marks (get_or order r 0) true false (omega arith)))
      | inr ne ↦ let o = get_or-set_other marks (get_or order r 0) s true false ne in
          (λ e. let b = (so_far s).0 (sym o ∙ e) in (b.0, omega (arith, b.1)), λ b. o ∙ (so_far s).1 (b.0, other s ne b.0 b.1))
    ]

    -- and where it is not
    pub marks_no : (FedAt l (get_or order r 0) marks → ⊥) → Marks l rank target (r + 1) marks
    marks_no not_fed s = (
      λ e. let b = (so_far s).0 e in (b.0, omega (arith, b.1)),
      λ b. elim (cases_eq s (get_or order r 0)) [
        | inl e ↦ absurd (not_fed (fed_from_reached (subst (λ (x : ℕ). Reaches (Direct l) target x) e b.0)))
        | inr ne ↦ (so_far s).1 (b.0, other s ne b.0 b.1)
      ],
    )
