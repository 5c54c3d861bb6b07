-- The ranks dealt out again keep the invariant, where what a marked block feeds within the segment is marked.
use Rattle.std.proofs.Common.{◌≡◌, ℕ, ◌+◌, ◌<◌, ◌≤◌, Bool, true, false, ◌⊎◌, List, length, get_or, sym, ap, ◌∙◌, subst, inl, inr, arith}
use Rattle.std.proofs.lemmas.Bool.{cases_lt, cases_Bool}
use Rattle.wiring.specs.Layout.{Layout, Direct}
use Rattle.wiring.specs.Pass.{Marks, redealt}
use Rattle.wiring.specs.Reach.{here, step}
use Rattle.wiring.specs.Sound.{Placed, Ranked, Ascends, Sound}
use Rattle.wiring.proofs.Places.{moved, moved_in, moved_at, moved_onto, moved_same, moved_cross, low, high}

-- the marks are closed under direct wires below the rank b
abbrev Closed : Layout → List ℕ → ℕ → List Bool → Type 0
Closed l rank b m = (s t : ℕ) → Direct l s t → get_or m s false ≡ true → get_or rank t 0 < b → get_or m t false ≡ true

module _ (count : ℕ) (o rank : List ℕ) (live : List Bool) (l : Layout) (was : Sound count o rank live l) (m : List Bool) (a b : ℕ) (h : a ≤ b) (k : b ≤ count) (long : count ≤ length o) where
  module _ (rank' : List ℕ) (at : (i : ℕ) → a ≤ i → i < b → get_or rank' (get_or (redealt o m a b) i 0) 0 ≡ i)
      (other : (s : ℕ) → ((i : ℕ) → a ≤ i → i < b → get_or (redealt o m a b) i 0 ≡ s → ⊥) → get_or rank' s 0 ≡ get_or rank s 0) where
    -- the segment is in the table
    k' : b ≤ length o
    k' = omega arith

    -- what has a rank outside the segment keeps it
    outside : (s : ℕ) → (get_or rank s 0 < a) ⊎ (b ≤ get_or rank s 0) → get_or rank' s 0 ≡ get_or rank s 0
    outside s out = other s (λ i p q e.
        let x = moved_onto m o a b h k' i p q in
        let f : get_or o x.0 0 ≡ s = sym (moved_at m o a b h k' x.0 x.1 x.2) ∙ ap (λ n. get_or (redealt o m a b) n 0) x.3 ∙ e in
        let r : get_or rank s 0 ≡ x.0 = ap (λ t. get_or rank t 0) (sym f) ∙ (was.placed x.0 (omega (arith, x.2))).1 in
        elim out [ inl u ↦ omega (arith, x.1) | inr u ↦ omega (arith, x.2) ])

    -- and what has one inside moves
    inside : (s : ℕ) → get_or live s false ≡ true → a ≤ get_or rank s 0 → get_or rank s 0 < b → get_or rank' s 0 ≡ moved m o a b (get_or rank s 0)
    inside s alive p q =
        let r = get_or rank s 0 in
        let w = moved_in m o a b h k' r p q in
        ap (λ t. get_or rank' t 0) (sym (was.ranked s alive).1 ∙ sym (moved_at m o a b h k' r p q)) ∙ at (moved m o a b r) w.0 w.1

    -- each rank is that of a live slot
    placed : Placed count (redealt o m a b) rank' live
    placed r in' = elim (cases_lt r a) [
      | inl u ↦ let e = low m o a b h k' r u in let w = was.placed r in' in (ap (λ t. get_or live t false) e ∙ w.0, ap (λ t. get_or rank' t 0) e ∙ outside (get_or o r 0) (inl (omega (arith, w.1))) ∙ w.1)
      | inr u ↦ elim (cases_lt r b) [
        | inl v ↦ let x = moved_onto m o a b h k' r u v in let w = was.placed x.0 (omega (arith, x.2)) in
            (ap (λ t. get_or live t false) (ap (λ n. get_or (redealt o m a b) n 0) (sym x.3) ∙ moved_at m o a b h k' x.0 x.1 x.2) ∙ w.0, at r u v)
        | inr v ↦ let e = high m o a b h k' r v in let w = was.placed r in' in (ap (λ t. get_or live t false) e ∙ w.0, ap (λ t. get_or rank' t 0) e ∙ outside (get_or o r 0) (inr (omega (arith, w.1))) ∙ w.1)
      ]
    ]

    -- each live slot stands at its rank
    ranked : Ranked count (redealt o m a b) rank' live
    ranked s alive = let w = was.ranked s alive in let r = get_or rank s 0 in elim (cases_lt r a) [
      | inl u ↦ let e = outside s (inl u) in (omega (arith, w.0), ap (λ n. get_or (redealt o m a b) n 0) e ∙ low m o a b h k' r u ∙ w.1)
      | inr u ↦ elim (cases_lt r b) [
        | inl v ↦ let e = inside s alive u v in let i = moved_in m o a b h k' r u v in (omega (arith, i.1), ap (λ n. get_or (redealt o m a b) n 0) e ∙ moved_at m o a b h k' r u v ∙ w.1)
        | inr v ↦ let e = outside s (inr v) in (omega (arith, w.0), ap (λ n. get_or (redealt o m a b) n 0) e ∙ high m o a b h k' r v ∙ w.1)
      ]
    ]

    -- the mark at the rank of a live slot is its own
    mark_is : (s : ℕ) → get_or live s false ≡ true → get_or m (get_or o (get_or rank s 0) 0) false ≡ get_or m s false
    mark_is s alive = ap (λ t. get_or m t false) (was.ranked s alive).1

    -- within the segment the unmarked come before the marked
    crosses : (s t : ℕ) → get_or live s false ≡ true → get_or live t false ≡ true → a ≤ get_or rank s 0 → get_or rank s 0 < b → a ≤ get_or rank t 0 → get_or rank t 0 < b → get_or m s false ≡ false → get_or m t false ≡ true → get_or rank' s 0 < get_or rank' t 0
    crosses s t ls lt p q p' q' f g = omega (arith, inside s ls p q, inside t lt p' q', moved_cross m o a b h k' (get_or rank s 0) (get_or rank t 0) p q (mark_is s ls ∙ f) (mark_is t lt ∙ g))

    -- the wires ascend, since the marks are closed
    ascends : Closed l rank b m → Ascends rank' l
    ascends closed s t w =
        let up = was.ascends s t w in
        let ls = was.heads s t (w.0, w.1) in
        let lt = was.tails s t (w.0, w.1) in
        elim (cases_lt (get_or rank t 0) a) [
          | inl u ↦ omega (arith, outside t (inl u), outside s (inl (omega arith)))
          | inr u ↦ elim (cases_lt (get_or rank t 0) b) [
            | inr v ↦ elim (cases_lt (get_or rank s 0) a) [
              | inl x ↦ omega (arith, outside t (inr v), outside s (inl x))
              | inr x ↦ elim (cases_lt (get_or rank s 0) b) [ inl y ↦ omega (arith, outside t (inr v), inside s ls x y, moved_in m o a b h k' (get_or rank s 0) x y) | inr y ↦ omega (arith, outside t (inr v), outside s (inr y)) ]
            ]
            | inl v ↦ elim (cases_lt (get_or rank s 0) a) [
              | inl x ↦ omega (arith, inside t lt u v, moved_in m o a b h k' (get_or rank t 0) u v, outside s (inl x))
              | inr x ↦ elim (cases_Bool (get_or m s false)) [
                | inl y ↦ omega (arith, inside t lt u v, inside s ls x (omega arith), moved_same m o a b h k' (get_or rank s 0) (get_or rank t 0) x up v (mark_is s ls ∙ y ∙ sym (mark_is t lt ∙ closed s t w y v)))
                | inr y ↦ elim (cases_Bool (get_or m t false)) [
                  | inl z ↦ crosses s t ls lt x (omega arith) u v y z
                  | inr z ↦ omega (arith, inside t lt u v, inside s ls x (omega arith), moved_same m o a b h k' (get_or rank s 0) (get_or rank t 0) x up v (mark_is s ls ∙ y ∙ sym (mark_is t lt ∙ z)))
                ]
              ]
            ]
          ]
        ]

    -- so the deal is sound
    redealt_sound : Closed l rank b m → Sound count (redealt o m a b) rank' live l
    redealt_sound closed = record { placed = placed; ranked = ranked; few = was.few; fits = was.fits; heads = was.heads; tails = was.tails; ascends = ascends closed }

-- the marks of what the target reaches below the rank b are closed
closed : (l : Layout) (rank : List ℕ) (m : List Bool) (target b : ℕ) → Marks l rank target b m → Closed l rank b m
closed l rank m target b marks s t w ms low = (marks t).1 (step ((marks s).0 ms).0 w, low)

-- so dealing out by them keeps the invariant, and brings the source before the target
module _ (count : ℕ) (o rank : List ℕ) (live : List Bool) (l : Layout) (was : Sound count o rank live l) (m : List Bool) (source target : ℕ) (long : count ≤ length o)
    (ls : get_or live source false ≡ true) (lt : get_or live target false ≡ true) (a b : ℕ) (ea : a ≡ get_or rank target 0) (eb : b ≡ get_or rank source 0 + 1) (down : a < b) (marks : Marks l rank target b m)
    (o' : List ℕ) (e : o' ≡ redealt o m a b) (rank' : List ℕ)
    (at : (i : ℕ) → a ≤ i → i < b → get_or rank' (get_or o' i 0) 0 ≡ i)
    (other : (s : ℕ) → ((i : ℕ) → a ≤ i → i < b → get_or o' i 0 ≡ s → ⊥) → get_or rank' s 0 ≡ get_or rank s 0) where
  -- the segment is in use
  in_count : b ≤ count
  in_count = omega (arith, (was.ranked source ls).0)

  -- what stands there has its new rank
  at₀ : (i : ℕ) → a ≤ i → i < b → get_or rank' (get_or (redealt o m a b) i 0) 0 ≡ i
  at₀ i h k = ap (λ (xs : List ℕ). get_or rank' (get_or xs i 0) 0) (sym e) ∙ at i h k

  -- and the rest its old
  other₀ : (s : ℕ) → ((i : ℕ) → a ≤ i → i < b → get_or (redealt o m a b) i 0 ≡ s → ⊥) → get_or rank' s 0 ≡ get_or rank s 0
  other₀ s none = other s (λ i h k f. none i h k (ap (λ (xs : List ℕ). get_or xs i 0) (sym e) ∙ f))

  -- the tables are sound
  pub turned_sound : Sound count o' rank' live l
  turned_sound = subst (λ (x : List ℕ). Sound count x rank' live l) (sym e) (redealt_sound count o rank live l was m a b (omega arith) in_count long rank' at₀ other₀ (closed l rank m target b marks))

  -- and the source stands before the target
  pub turned_up : get_or m source false ≡ false → get_or rank' source 0 < get_or rank' target 0
  turned_up f = crosses count o rank live l was m a b (omega arith) in_count long rank' at₀ other₀ source target ls lt (omega arith) (omega arith) (omega arith) (omega arith) f ((marks target).1 (here, omega arith))
