-- The order as a list, and the tables behind it.
use Rattle.std.proofs.Common.{◌≡◌, ℕ, zero, suc, ◌<◌, ◌≤◌, Bool, true, false, eqb, List, [], ◌∷◌, length, get_or, take, sym, refl, ap, ◌∙◌, inl, inr, arith}
use Rattle.std.proofs.lemmas.List.{length-take-le, get_or-take}
use Rattle.std.proofs.lemmas.Bool.{cases_Bool, both_ways, eq-eqb, ne_eqb, cond-true, cond-false, or_left, or_right, or_from}
use Rattle.wiring.specs.Layout.{index, member}
use Rattle.wiring.specs.Sound.{Placed, Ranked}

-- what stands first at i has the index i
index_at : (xs : List ℕ) (s i : ℕ) → i < length xs → get_or xs i 0 ≡ s → ((j : ℕ) → j < i → get_or xs j 0 ≡ s → ⊥) → index xs s ≡ i
index_at [] s i h e first = absurd (omega arith)
index_at (x ∷ xs) s zero h e first = cond-true (eqb x s) 0 (suc (index xs s)) (eq-eqb x s e)
index_at (x ∷ xs) s (suc i) h e first =
    cond-false (eqb x s) 0 (suc (index xs s)) (ne_eqb x s (first 0 (omega arith))) ∙ ap suc (index_at xs s i (omega arith) e (λ j l. first (suc j) (omega arith)))

-- and is a member
member_at : (xs : List ℕ) (s i : ℕ) → i < length xs → get_or xs i 0 ≡ s → member xs s ≡ true
member_at [] s i h e = absurd (omega arith)
member_at (x ∷ xs) s zero h e = or_left (eqb x s) (member xs s) (eq-eqb x s e)
member_at (x ∷ xs) s (suc i) h e = or_right (eqb x s) (member xs s) (member_at xs s i (omega arith) e)

-- what stands nowhere is not
member_none : (xs : List ℕ) (s : ℕ) → ((j : ℕ) → j < length xs → get_or xs j 0 ≡ s → ⊥) → member xs s ≡ false
member_none [] s out = refl
member_none (x ∷ xs) s out = or_from (eqb x s) (member xs s) (ne_eqb x s (out 0 (omega arith))) (member_none xs s (λ j l. out (suc j) (omega arith)))

module _ (count : ℕ) (order rank : List ℕ) (live : List Bool) (long : count ≤ length order) (placed : Placed count order rank live) (ranked : Ranked count order rank live) where
  -- the list has as many slots as are placed
  pub listed : length (take count order) ≡ count
  listed = length-take-le count order long

  -- each where the table has it
  pub listed_at : (r : ℕ) → r < count → get_or (take count order) r 0 ≡ get_or order r 0
  listed_at r h = get_or-take count order r 0 h

  -- the rank of a live slot is its index
  pub rank_is : (s : ℕ) → get_or live s false ≡ true → index (take count order) s ≡ get_or rank s 0
  rank_is s alive = let w = ranked s alive in
      index_at (take count order) s (get_or rank s 0) (omega (arith, listed)) (listed_at (get_or rank s 0) w.0 ∙ w.1)
      (λ j l e. let z : get_or rank s 0 ≡ j = ap (λ t. get_or rank t 0) (sym (sym (listed_at j (omega arith)) ∙ e)) ∙ (placed j (omega arith)).1 in omega arith)

  -- the members are the live slots
  pub member_is : (s : ℕ) → member (take count order) s ≡ get_or live s false
  member_is s = elim (cases_Bool (get_or live s false)) [
    | inl t ↦ let w = ranked s t in member_at (take count order) s (get_or rank s 0) (omega (arith, listed)) (listed_at (get_or rank s 0) w.0 ∙ w.1) ∙ sym t
    | inr f ↦ member_none (take count order) s (λ j l e.
        let k : j < count = omega (arith, listed) in
        both_ways (get_or live s false) f (ap (λ t. get_or live t false) (sym (sym (listed_at j k) ∙ e)) ∙ (placed j k).0)) ∙ sym f
  ]

  -- no slot is listed twice
  pub listed_apart : (i j : ℕ) → i < j → j < count → get_or order i 0 ≡ get_or order j 0 → ⊥
  listed_apart i j h l e = let z : i ≡ j = sym (placed i (omega arith)).1 ∙ ap (λ t. get_or rank t 0) e ∙ (placed j l).1 in omega arith
