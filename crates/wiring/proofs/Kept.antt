-- What a filter keeps, by places.
use Rattle.std.proofs.Common.{◌≡◌, ℕ, zero, suc, ◌+◌, ◌<◌, ◌≤◌, Bool, true, false, List, [], ◌∷◌, ◌++◌, length, get_or, take, drop, filter, sym, refl, ap, ◌∙◌, subst, suc-le-suc, arith}
use Rattle.std.proofs.lemmas.List.{take-append-drop, drop_more, length-append, get_or_at, take-take, length-take-le, get_or-take}
use Rattle.std.proofs.lemmas.List.Elements.{filter-append}
use Rattle.std.proofs.lemmas.Bool.{cond-true, cond-false}

module _ {X : Type 0} (p : X → Bool) where
  -- the filter of a list, cut before the place i that passes
  kept_split : (xs : List X) (i : ℕ) (d : X) → i < length xs → p (get_or xs i d) ≡ true → filter p xs ≡ filter p (take i xs) ++ (get_or xs i d ∷ filter p (drop (i + 1) xs))
  kept_split xs i d h t =
      ap (filter p) (sym (take-append-drop i xs)) ∙ filter-append p (take i xs) (drop i xs) ∙ ap (λ ys. filter p (take i xs) ++ filter p ys) (drop_more xs i d h)
      ∙ ap (λ ys. filter p (take i xs) ++ ys) (cond-true (p (get_or xs i d)) _ _ t)

  -- where that element goes
  pub kept_at : (xs : List X) (i : ℕ) (d : X) → i < length xs → p (get_or xs i d) ≡ true → get_or (filter p xs) (length (filter p (take i xs))) d ≡ get_or xs i d
  kept_at xs i d h t = ap (λ ys. get_or ys (length (filter p (take i xs))) d) (kept_split xs i d h t) ∙ get_or_at (filter p (take i xs)) (get_or xs i d) (filter p (drop (i + 1) xs)) d (length (filter p (take i xs))) refl

  -- which is in the filtered list
  pub kept_within : (xs : List X) (i : ℕ) (d : X) → i < length xs → p (get_or xs i d) ≡ true → length (filter p (take i xs)) < length (filter p xs)
  kept_within xs i d h t = let e = ap length (kept_split xs i d h t) ∙ length-append (filter p (take i xs)) (get_or xs i d ∷ filter p (drop (i + 1) xs)) in omega arith

  -- a later element goes further on
  pub kept_rises : (xs : List X) (i j : ℕ) (d : X) → i < j → j ≤ length xs → p (get_or xs i d) ≡ true → length (filter p (take i xs)) < length (filter p (take j xs))
  kept_rises xs i j d h k t =
      let l = length-take-le j xs k in
      let w = kept_within (take j xs) i d (omega arith) (ap p (get_or-take j xs i d h) ∙ t) in
      subst (λ (ys : List X). length (filter p ys) < length (filter p (take j xs))) (take-take i j xs (omega arith)) w

  -- and each place of the filtered list is that of some element
  pub kept_onto : (xs : List X) (k : ℕ) (d : X) → k < length (filter p xs) → (i : ℕ) × (i < length xs) × (p (get_or xs i d) ≡ true) × (length (filter p (take i xs)) ≡ k)
  kept_onto [] k d h = absurd (omega arith)
  kept_onto (x ∷ xs) k d h = go k (p x) refl h (λ j l. kept_onto xs j d l)
    where
      go : (k : ℕ) (b : Bool) → p x ≡ b → k < length (filter p (x ∷ xs)) → ((j : ℕ) → j < length (filter p xs) → (i : ℕ) × (i < length xs) × (p (get_or xs i d) ≡ true) × (length (filter p (take i xs)) ≡ j)) → (i : ℕ) × (i < length (x ∷ xs)) × (p (get_or (x ∷ xs) i d) ≡ true) × (length (filter p (take i (x ∷ xs))) ≡ k)
      go k false e h ih = let c = ap length (cond-false (p x) (x ∷ filter p xs) (filter p xs) e) in let r = ih k (omega arith) in
          (suc r.0, suc-le-suc r.1, r.2, ap length (cond-false (p x) (x ∷ filter p (take r.0 xs)) (filter p (take r.0 xs)) e) ∙ r.3)
      go zero true e h ih = (0, omega arith, e, refl)
      go (suc k) true e h ih = let c = ap length (cond-true (p x) (x ∷ filter p xs) (filter p xs) e) in let r = ih k (omega arith) in
          (suc r.0, suc-le-suc r.1, r.2, ap length (cond-true (p x) (x ∷ filter p (take r.0 xs)) (filter p (take r.0 xs)) e) ∙ ap suc r.3)
