-- A block with no wires taken out: those of a higher rank move down by one.
use Rattle.std.proofs.Common.{◌≡◌, ℕ, suc, ◌+◌, ◌-◌, ◌<◌, ◌≤◌, Bool, true, false, not, eqb, List, [], ◌∷◌, ◌++◌, length, get_or, take, drop, set, filter, sym, refl, ap, ◌∙◌, inl, inr, arith}
use Rattle.std.proofs.lemmas.List.Elements.{filter-append}
use Rattle.std.proofs.lemmas.List.{get_or-set_same, get_or-set_other, get_or_past, get_or-take, get_or-drop, get_or_append_left, get_or-append_right, take-append-drop, drop_more, length-take-le, length-drop, length-append, ext_get_or}
use Rattle.std.proofs.lemmas.Bool.{cases_eq, cases_lt, both_ways, eq-eqb, ne_eqb, cond-true, cond-false}
use Rattle.wiring.specs.Layout.{Layout, WireTo}
use Rattle.wiring.specs.Sound.{Placed, Ranked, Ascends, Sound}

-- a list without s, where s does not stand
kept_all : (s : ℕ) (xs : List ℕ) → ((i : ℕ) → i < length xs → get_or xs i 0 ≡ s → ⊥) → filter (λ t. not (eqb t s)) xs ≡ xs
kept_all s [] out = refl
kept_all s (x ∷ xs) out =
    cond-true (not (eqb x s)) (x ∷ filter (λ t. not (eqb t s)) xs) (filter (λ t. not (eqb t s)) xs) (ap not (ne_eqb x s (out 0 (omega arith)))) ∙ ap (λ ys. x ∷ ys) (kept_all s xs (λ i h. out (suc i) (omega arith)))

-- and where it stands at k only
kept_but : (s : ℕ) (xs : List ℕ) (k : ℕ) → k < length xs → get_or xs k 0 ≡ s → ((i : ℕ) → i < length xs → (i ≡ k → ⊥) → get_or xs i 0 ≡ s → ⊥) → filter (λ t. not (eqb t s)) xs ≡ take k xs ++ drop (k + 1) xs
kept_but s xs k h e out =
    let test = λ (t : ℕ). not (eqb t s) in
    let lt = length-take-le k xs (omega arith) in
    let low : filter test (take k xs) ≡ take k xs = kept_all s (take k xs) (λ i l f. out i (omega arith) (omega arith) (sym (get_or-take k xs i 0 (omega arith)) ∙ f)) in
    let high : filter test (drop (k + 1) xs) ≡ drop (k + 1) xs = kept_all s (drop (k + 1) xs) (λ i l f. out (k + 1 + i) (omega (arith, length-drop (k + 1) xs)) (omega arith) (sym (get_or-drop (k + 1) xs i 0) ∙ f)) in
    ap (filter test) (sym (take-append-drop k xs)) ∙ filter-append test (take k xs) (drop k xs) ∙ ap (λ ys. filter test (take k xs) ++ filter test ys) (drop_more xs k 0 h)
    ∙ ap (λ ys. filter test (take k xs) ++ ys) (cond-false (not (eqb (get_or xs k 0) s)) _ _ (ap not (eq-eqb (get_or xs k 0) s e))) ∙ ap (λ ys. ys ++ filter test (drop (k + 1) xs)) low ∙ ap (λ ys. take k xs ++ ys) high

-- the slots above the rank `from` moved one rank down, and the ranks of the others but `slot` stayed
pub record Closed (count from slot : ℕ) (o o' rank rank' : List ℕ) : Type 0 where
  pub low : (i : ℕ) → i < from → get_or o' i 0 ≡ get_or o i 0
  pub mid : (i : ℕ) → from ≤ i → i < count - 1 → get_or o' i 0 ≡ get_or o (i + 1) 0
  pub here : (i : ℕ) → from ≤ i → i < count - 1 → get_or rank' (get_or o (i + 1) 0) 0 ≡ i
  pub other : (s : ℕ) → (s ≡ slot → ⊥) → ((i : ℕ) → from ≤ i → i < count - 1 → get_or o (i + 1) 0 ≡ s → ⊥) → get_or rank' s 0 ≡ get_or rank s 0

-- the rank of `slot` may be forgotten
pub forgotten : {count from slot : ℕ} {o o' rank rank' : List ℕ} → ((i : ℕ) → from ≤ i → i < count - 1 → get_or o (i + 1) 0 ≡ slot → ⊥) → Closed count from slot o o' rank rank' → Closed count from slot o o' rank (set rank' slot 0)
forgotten {count} {from} {slot} {o} {o'} {rank} {rank'} apart was = record {
  low = was.low;
  mid = was.mid;
  here = λ i p q. get_or-set_other rank' slot (get_or o (i + 1) 0) 0 0 (apart i p q) ∙ was.here i p q;
  other = λ s ne none. get_or-set_other rank' slot s 0 0 ne ∙ was.other s ne none;
}

module _ (count : ℕ) (o rank : List ℕ) (live : List Bool) (l : Layout) (was : Sound count o rank live l) (slot : ℕ) (alive : get_or live slot false ≡ true)
    (bare : (s t : ℕ) → WireTo l s t → (s ≡ slot → ⊥) × (t ≡ slot → ⊥)) (o' rank' : List ℕ) (closed : Closed count (get_or rank slot 0) slot o o' rank rank') where
  -- the slot has a rank
  in_count : get_or rank slot 0 < count
  in_count = (was.ranked slot alive).0

  -- a live slot of the rank of `slot` is it
  same : (s : ℕ) → get_or live s false ≡ true → get_or rank s 0 ≡ get_or rank slot 0 → s ≡ slot
  same s k e = sym (was.ranked s k).1 ∙ ap (λ n. get_or o n 0) e ∙ (was.ranked slot alive).1

  -- a lower rank stays
  rank_low : (s : ℕ) → get_or rank s 0 < get_or rank slot 0 → get_or rank' s 0 ≡ get_or rank s 0
  rank_low s h = closed.other s (λ e. let z = ap (λ t. get_or rank t 0) e in omega arith) (λ i p q e. let r : get_or rank s 0 ≡ i + 1 = ap (λ t. get_or rank t 0) (sym e) ∙ (was.placed (i + 1) (omega arith)).1 in omega arith)

  -- what stands at the rank before that of s
  before : (s : ℕ) → get_or live s false ≡ true → get_or rank slot 0 < get_or rank s 0 → get_or o (get_or rank s 0 - 1 + 1) 0 ≡ s
  before s k h = ap (λ n. get_or o n 0) (let z : get_or rank s 0 - 1 + 1 ≡ get_or rank s 0 = omega arith in z) ∙ (was.ranked s k).1

  -- and a higher one falls by one
  rank_high : (s : ℕ) → get_or live s false ≡ true → get_or rank slot 0 < get_or rank s 0 → get_or rank' s 0 ≡ get_or rank s 0 - 1
  rank_high s k h = ap (λ t. get_or rank' t 0) (sym (before s k h)) ∙ closed.here (get_or rank s 0 - 1) (omega arith) (omega (arith, (was.ranked s k).0))

  -- what is live was so, and is another slot
  live_was : (s : ℕ) → get_or (set live slot false) s false ≡ true → (get_or live s false ≡ true) × (s ≡ slot → ⊥)
  live_was s h = elim (cases_eq s slot) [
    | inl e ↦ elim (cases_lt slot (length live)) [
      | inl k ↦ absurd (both_ways _ (ap (λ n. get_or (set live slot false) n false) e ∙ get_or-set_same live slot false false k) h)
      | inr k ↦ absurd (both_ways _ (get_or_past live slot false k) alive)
    ]
    | inr ne ↦ (sym (get_or-set_other live slot s false false ne) ∙ h, ne)
  ]

  -- and each other live slot is live
  live_still : (s : ℕ) → get_or live s false ≡ true → (s ≡ slot → ⊥) → get_or (set live slot false) s false ≡ true
  live_still s k ne = get_or-set_other live slot s false false ne ∙ k

  -- each rank is that of a live slot
  placed : Placed (count - 1) o' rank' (set live slot false)
  placed r h = elim (cases_lt r (get_or rank slot 0)) [
    | inl k ↦ let w = was.placed r (omega arith) in let e = closed.low r k in
        (ap (λ s. get_or (set live slot false) s false) e ∙ live_still (get_or o r 0) w.0 (λ i. let z = sym w.1 ∙ ap (λ s. get_or rank s 0) i in omega arith), ap (λ s. get_or rank' s 0) e ∙ rank_low (get_or o r 0) (omega (arith, w.1)) ∙ w.1)
    | inr k ↦ let w = was.placed (r + 1) (omega arith) in let e = closed.mid r k h in
        (ap (λ s. get_or (set live slot false) s false) e ∙ live_still (get_or o (r + 1) 0) w.0 (λ i. let z = sym w.1 ∙ ap (λ s. get_or rank s 0) i in omega arith), ap (λ s. get_or rank' s 0) e ∙ closed.here r k h)
  ]

  -- each live slot stands at its rank
  ranked : Ranked (count - 1) o' rank' (set live slot false)
  ranked s h =
      let v = live_was s h in
      let w = was.ranked s v.0 in
      let ne : get_or rank s 0 ≡ get_or rank slot 0 → ⊥ = λ e. v.1 (same s v.0 e) in
      elim (cases_lt (get_or rank s 0) (get_or rank slot 0)) [
        | inl k ↦ let e = rank_low s k in (omega (arith, in_count), ap (λ n. get_or o' n 0) e ∙ closed.low (get_or rank s 0) k ∙ w.1)
        | inr k ↦ let k' : get_or rank slot 0 < get_or rank s 0 = omega arith in let e = rank_high s v.0 k' in
            (omega (arith, w.0), ap (λ n. get_or o' n 0) e ∙ closed.mid (get_or rank s 0 - 1) (omega arith) (omega (arith, w.0)) ∙ before s v.0 k')
      ]

  -- the wires ascend still
  ascends : Ascends rank' l
  ascends s t w =
      let x = bare s t (w.0, w.1) in
      let up = was.ascends s t w in
      let ls = was.heads s t (w.0, w.1) in
      let lt = was.tails s t (w.0, w.1) in
      let ns : get_or rank s 0 ≡ get_or rank slot 0 → ⊥ = λ e. x.0 (same s ls e) in
      let nt : get_or rank t 0 ≡ get_or rank slot 0 → ⊥ = λ e. x.1 (same t lt e) in
      elim (cases_lt (get_or rank s 0) (get_or rank slot 0)) [
        | inl a ↦ elim (cases_lt (get_or rank t 0) (get_or rank slot 0)) [ inl b ↦ omega (arith, rank_low s a, rank_low t b) | inr b ↦ omega (arith, rank_low s a, rank_high t lt (omega arith)) ]
        | inr a ↦ omega (arith, rank_high s ls (omega arith), rank_high t lt (omega arith))
      ]

  -- one block less is sound
  pub removed_sound : Sound (count - 1) o' rank' (set live slot false) l
  removed_sound = record {
    placed = placed;
    ranked = ranked;
    few = was.few;
    fits = was.fits;
    heads = λ s t w. live_still s (was.heads s t w) (bare s t w).0;
    tails = λ s t w. live_still t (was.tails s t w) (bare s t w).1;
    ascends = ascends;
  }

  -- the order is the old one without the slot
  pub removed_order : count ≤ length o → length o' ≡ length o → take (count - 1) o' ≡ filter (λ t. not (eqb t slot)) (take count o)
  removed_order long long' = ext_get_or 0 (take (count - 1) o') (take (get_or rank slot 0) (take count o) ++ drop (get_or rank slot 0 + 1) (take count o)) lengths places ∙ sym kept
    where
      lx : length (take count o) ≡ count
      lx = length-take-le count o long

      at : (i : ℕ) → i < count → get_or (take count o) i 0 ≡ get_or o i 0
      at i h = get_or-take count o i 0 h

      kept : filter (λ t. not (eqb t slot)) (take count o) ≡ take (get_or rank slot 0) (take count o) ++ drop (get_or rank slot 0 + 1) (take count o)
      kept = kept_but slot (take count o) (get_or rank slot 0) (omega (arith, lx, in_count)) (at (get_or rank slot 0) in_count ∙ (was.ranked slot alive).1)
          (λ i h ne e. ne (sym (was.placed i (omega (arith, lx))).1 ∙ ap (λ t. get_or rank t 0) (sym (at i (omega (arith, lx))) ∙ e)))

      lt : length (take (get_or rank slot 0) (take count o)) ≡ get_or rank slot 0
      lt = length-take-le (get_or rank slot 0) (take count o) (omega (arith, lx, in_count))

      l' : length (take (count - 1) o') ≡ count - 1
      l' = length-take-le (count - 1) o' (omega arith)

      lengths : length (take (count - 1) o') ≡ length (take (get_or rank slot 0) (take count o) ++ drop (get_or rank slot 0 + 1) (take count o))
      lengths = omega (arith, l', lt, lx, in_count, length-append (take (get_or rank slot 0) (take count o)) (drop (get_or rank slot 0 + 1) (take count o)), length-drop (get_or rank slot 0 + 1) (take count o))

      places : (i : ℕ) → i < length (take (count - 1) o') → get_or (take (count - 1) o') i 0 ≡ get_or (take (get_or rank slot 0) (take count o) ++ drop (get_or rank slot 0 + 1) (take count o)) i 0
      places i h = let in' : i < count - 1 = omega (arith, l') in elim (cases_lt i (get_or rank slot 0)) [
        | inl u ↦ get_or-take (count - 1) o' i 0 in' ∙ closed.low i u ∙ sym (get_or_append_left (take (get_or rank slot 0) (take count o)) (drop (get_or rank slot 0 + 1) (take count o)) 0 i (omega (arith, lt)) ∙ get_or-take (get_or rank slot 0) (take count o) i 0 u ∙ at i (omega arith))
        | inr u ↦ get_or-take (count - 1) o' i 0 in' ∙ closed.mid i u in'
            ∙ sym (get_or-append_right (take (get_or rank slot 0) (take count o)) (drop (get_or rank slot 0 + 1) (take count o)) (get_or rank slot 0) i 0 lt u ∙ get_or-drop (get_or rank slot 0 + 1) (take count o) (i - get_or rank slot 0) 0
            ∙ ap (λ n. get_or (take count o) n 0) (let z : get_or rank slot 0 + 1 + (i - get_or rank slot 0) ≡ i + 1 = omega arith in z) ∙ at (i + 1) (omega arith))
      ]
