-- The first pass: how many it leaves unmarked.
use Rattle.std.proofs.Common.{◌≡◌, ℕ, suc, ◌+◌, ◌-◌, ◌<◌, ◌≤◌, Bool, true, false, cond, not, List, [], ◌∷◌, ◌++◌, length, get_or, take, drop, set, filter, sym, refl, ap, ◌∙◌, arith}
use Rattle.std.proofs.lemmas.List.Elements.{filter-append}
use Rattle.std.proofs.lemmas.List.{take_more, length-append, length-drop, get_or-set_same, get_or-set_other, get_or-drop, get_or-take, append-nil}
use Rattle.std.proofs.lemmas.Bool.{cond-true, cond-false}
use Rattle.wiring.specs.Pass.{is_marked, marked, segment}
use Rattle.wiring.proofs.Places.{length-segment}

-- tests that agree keep the same
kept_alike : (p q : ℕ → Bool) (xs : List ℕ) → ((i : ℕ) → i < length xs → p (get_or xs i 0) ≡ q (get_or xs i 0)) → filter p xs ≡ filter q xs
kept_alike p q [] alike = refl
kept_alike p q (x ∷ xs) alike =
    ap (λ (b : Bool). cond b (x ∷ filter p xs) (filter p xs)) (alike 0 (omega arith)) ∙ ap (λ ys. cond (q x) (x ∷ ys) ys) (kept_alike p q xs (λ i h. alike (suc i) (omega arith)))

module _ (o : List ℕ) (a r : ℕ) (h : a ≤ r) (k : r < length o) where
  -- one rank more of a segment
  segment_more : segment o a (r + 1) ≡ segment o a r ++ (get_or o r 0 ∷ [])
  segment_more =
      ap (λ n. take n (drop a o)) (let z : r + 1 - a ≡ r - a + 1 = omega arith in z) ∙ take_more (drop a o) (r - a) 0 (omega (arith, length-drop a o))
      ∙ ap (λ x. segment o a r ++ (x ∷ [])) (get_or-drop a o (r - a) 0 ∙ ap (λ n. get_or o n 0) (let z : a + (r - a) ≡ r = omega arith in z))

  -- its block is marked
  count_marked : (m : List Bool) → get_or m (get_or o r 0) false ≡ true → length (marked m false (segment o a (r + 1))) ≡ length (marked m false (segment o a r))
  count_marked m t =
      ap (λ xs. length (marked m false xs)) segment_more ∙ ap length (filter-append (is_marked m false) (segment o a r) (get_or o r 0 ∷ []))
      ∙ ap (λ (xs : List ℕ). length (marked m false (segment o a r) ++ xs)) (cond-false (is_marked m false (get_or o r 0)) (get_or o r 0 ∷ []) [] (ap not t)) ∙ ap length (append-nil (marked m false (segment o a r)))

  -- or is not
  pub count_other : (m : List Bool) → get_or m (get_or o r 0) false ≡ false → length (marked m false (segment o a (r + 1))) ≡ length (marked m false (segment o a r)) + 1
  count_other m t =
      ap (λ xs. length (marked m false xs)) segment_more ∙ ap length (filter-append (is_marked m false) (segment o a r) (get_or o r 0 ∷ []))
      ∙ ap (λ (xs : List ℕ). length (marked m false (segment o a r) ++ xs)) (cond-true (is_marked m false (get_or o r 0)) (get_or o r 0 ∷ []) [] (ap not t)) ∙ length-append (marked m false (segment o a r)) (get_or o r 0 ∷ [])

  -- a mark for it changes nothing before
  pub count_ahead : (m : List Bool) → get_or o r 0 < length m → ((i : ℕ) → a ≤ i → i < r → get_or o i 0 ≡ get_or o r 0 → ⊥) → length (marked (set m (get_or o r 0) true) false (segment o a (r + 1))) ≡ length (marked m false (segment o a r))
  count_ahead m small apart =
      count_marked (set m (get_or o r 0) true) (get_or-set_same m (get_or o r 0) true false small)
      ∙ ap length (kept_alike (is_marked (set m (get_or o r 0) true) false) (is_marked m false) (segment o a r) (λ i l.
      let l' : i < r - a = omega (arith, length-segment o a r h (omega arith)) in
      let e : get_or (segment o a r) i 0 ≡ get_or o (a + i) 0 = get_or-take (r - a) (drop a o) i 0 l' ∙ get_or-drop a o i 0 in
      ap not (get_or-set_other m (get_or o r 0) (get_or (segment o a r) i 0) true false (λ f. apart (a + i) (omega arith) (omega arith) (sym e ∙ f)))))

-- the first rank alone, marked
pub count_none : (o : List ℕ) (a : ℕ) (m : List Bool) → a < length o → get_or m (get_or o a 0) false ≡ true → length (marked m false (segment o a (a + 1))) ≡ 0
count_none o a m k t = count_marked o a a (omega arith) k m t ∙ ap (λ n. length (marked m false (take n (drop a o)))) (let z : a - a ≡ 0 = omega arith in z)
