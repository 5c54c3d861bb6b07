-- Rings: wires that ascend have none, a wire from what its target reaches closes one, and a ring goes over where each wire does.
use Rattle.std.proofs.Common.{◌≡◌, ℕ, ◌<◌, ◌⊎◌, List, [], ◌∷◌, ◌++◌, refl, subst, inl, inr, arith}
use Rattle.wiring.specs.Reach.{Reaches, here, step}
use Rattle.wiring.specs.Ring.{Chain, IsRing, HasRing}

-- along wires that ascend there is no ring
module _ (Wire : ℕ → ℕ → Type 0) (rank : ℕ → ℕ) (up : (s t : ℕ) → Wire s t → rank s < rank t) where
  -- a chain ascends
  chain_up : (x : ℕ) (xs : List ℕ) (y : ℕ) → Chain Wire x xs y → rank x < rank y
  chain_up x [] y c = up x y c
  chain_up x (z ∷ zs) y c = let p = up x z c.0 in let q = chain_up z zs y c.1 in omega arith

  -- so it does not come back
  no_ring_at : (xs : List ℕ) → IsRing Wire xs → ⊥
  no_ring_at [] r = r
  no_ring_at (x ∷ xs) r = let p = chain_up x xs x r in omega arith

  -- and there is no ring
  pub no_ring : HasRing Wire → ⊥
  no_ring r = no_ring_at r.0 r.1

module _ (Wire More : ℕ → ℕ → Type 0) (more : (u v : ℕ) → Wire u v → More u v) where
  -- a chain with one more wire at its end
  chain_push : (x : ℕ) (xs : List ℕ) (y z : ℕ) → Chain More x xs y → More y z → Chain More x (xs ++ (y ∷ [])) z
  chain_push x [] y z c w = (c, w)
  chain_push x (v ∷ vs) y z c w = (c.0, chain_push v vs y z c.1 w)

  -- what is reached is the start, or at the end of a chain
  chain_to : {t s : ℕ} → Reaches Wire t s → (s ≡ t) ⊎ ((xs : List ℕ) × Chain More t xs s)
  chain_to here = inl refl
  chain_to {t} (step {u} {t = v} r w) = elim (chain_to r) [
    | inl e ↦ inr ([], subst (λ (x : ℕ). More x v) e (more u v w))
    | inr c ↦ inr (c.0 ++ (u ∷ []), chain_push t c.0 u v c.1 (more u v w))
  ]

  -- where the target reaches the source, one more wire from source to target closes a ring
  pub ring_closed : (s t : ℕ) → Reaches Wire t s → More s t → HasRing More
  ring_closed s t r w = elim (chain_to r) [
    | inl e ↦ (t ∷ [], subst (λ (x : ℕ). More x t) e w)
    | inr c ↦ (t ∷ (c.0 ++ (s ∷ [])), chain_push t c.0 s t c.1 w)
  ]

-- a ring goes over where each wire does
module _ (Wire More : ℕ → ℕ → Type 0) (f : ℕ → ℕ) (over : (s t : ℕ) → Wire s t → More (f s) (f t)) where
  -- the blocks of a list
  abbrev maps : List ℕ → List ℕ
  maps [] = []
  maps (x ∷ xs) = f x ∷ maps xs

  -- a chain
  chain_over : (x : ℕ) (xs : List ℕ) (y : ℕ) → Chain Wire x xs y → Chain More (f x) (maps xs) (f y)
  chain_over x [] y c = over x y c
  chain_over x (z ∷ zs) y c = (over x z c.0, chain_over z zs y c.1)

  -- a list that is a ring
  ring_over : (xs : List ℕ) → IsRing Wire xs → IsRing More (maps xs)
  ring_over [] r = r
  ring_over (x ∷ xs) r = chain_over x xs x r

  -- some ring
  pub has_ring_over : HasRing Wire → HasRing More
  has_ring_over r = (maps r.0, ring_over r.0 r.1)
