-- Where each rank of the segment goes when it is dealt out again.
use Rattle.std.proofs.Common.{◌≡◌, ℕ, ◌+◌, ◌-◌, ◌<◌, ◌≤◌, Bool, true, false, cond, not, List, ◌++◌, length, get_or, take, drop, sym, refl, ap, ◌∙◌, inl, inr, arith}
use Rattle.std.proofs.lemmas.List.{length-take-le, length-drop, get_or-take, get_or-drop, get_or_append_left, get_or-append_right}
use Rattle.std.proofs.lemmas.List.Filters.{length-filter_both}
use Rattle.std.proofs.lemmas.Bool.{cases_Bool, cases_lt, not-true, cond-true, cond-false}
use Rattle.wiring.specs.Pass.{is_marked, marked, segment, redealt}
use Rattle.wiring.proofs.Kept.{kept_at, kept_within, kept_rises, kept_onto}

-- how long a segment is
pub length-segment : (o : List ℕ) (from to : ℕ) → from ≤ to → to ≤ length o → length (segment o from to) ≡ to - from
length-segment o from to h k = let e = length-drop from o in length-take-le (to - from) (drop from o) (omega arith)

-- what stands at a place of it
pub seg_of : (o : List ℕ) (from to i : ℕ) → i < to - from → get_or (segment o from to) i 0 ≡ get_or o (from + i) 0
seg_of o from to i h = get_or-take (to - from) (drop from o) i 0 h ∙ get_or-drop from o i 0

-- the unmarked and the marked make it up
pub length_both : (m : List Bool) (o : List ℕ) (from to : ℕ) → from ≤ to → to ≤ length o → length (marked m false (segment o from to)) + length (marked m true (segment o from to)) ≡ to - from
length_both m o from to h k =
    let e = length-filter_both (is_marked m true) (is_marked m false) (λ _. refl) (segment o from to) in
    let l = length-segment o from to h k in omega arith

-- how many of the segment have the mark, before the rank r
abbrev pub before : List Bool → List ℕ → ℕ → ℕ → Bool → ℕ → ℕ
before m o a b w r = length (marked m w (take (r - a) (segment o a b)))

-- the new rank of what stood at r
abbrev pub moved : List Bool → List ℕ → ℕ → ℕ → ℕ → ℕ
moved m o a b r = cond (get_or m (get_or o r 0) false) (a + length (marked m false (segment o a b)) + before m o a b true r) (a + before m o a b false r)

module _ (m : List Bool) (o : List ℕ) (a b : ℕ) (h : a ≤ b) (k : b ≤ length o) where
  -- what stands at the rank r
  pub seg_at : (r : ℕ) → a ≤ r → r < b → get_or (segment o a b) (r - a) 0 ≡ get_or o r 0
  seg_at r p q = seg_of o a b (r - a) (omega arith) ∙ ap (λ i. get_or o i 0) (let z : a + (r - a) ≡ r = omega arith in z)

  -- and that it is in the segment
  pub seg_in : (r : ℕ) → a ≤ r → r < b → r - a < length (segment o a b)
  seg_in r p q = omega (arith, length-segment o a b h k)

  -- a marked slot passes the test for the marked
  mark_true : (r : ℕ) → a ≤ r → r < b → get_or m (get_or o r 0) false ≡ true → is_marked m true (get_or (segment o a b) (r - a) 0) ≡ true
  mark_true r p q t = ap (is_marked m true) (seg_at r p q) ∙ t

  -- and an unmarked one that for the others
  mark_false : (r : ℕ) → a ≤ r → r < b → get_or m (get_or o r 0) false ≡ false → is_marked m false (get_or (segment o a b) (r - a) 0) ≡ true
  mark_false r p q t = ap (is_marked m false) (seg_at r p q) ∙ ap not t

  -- where a marked slot goes
  pub moved_true : (r : ℕ) → get_or m (get_or o r 0) false ≡ true → moved m o a b r ≡ a + length (marked m false (segment o a b)) + before m o a b true r
  moved_true r t = cond-true (get_or m (get_or o r 0) false) _ _ t

  -- and where another goes
  pub moved_false : (r : ℕ) → get_or m (get_or o r 0) false ≡ false → moved m o a b r ≡ a + before m o a b false r
  moved_false r t = cond-false (get_or m (get_or o r 0) false) _ _ t

  -- how many stand before the segment
  la : length (take a o) ≡ a
  la = length-take-le a o (omega arith)

  -- before the segment nothing moves
  pub low : (r : ℕ) → r < a → get_or (redealt o m a b) r 0 ≡ get_or o r 0
  low r p = get_or_append_left (take a o) _ 0 r (omega (arith, la)) ∙ get_or-take a o r 0 p

  -- past the front, at the unmarked
  mid : (i : ℕ) → i < length (marked m false (segment o a b)) → get_or (redealt o m a b) (a + i) 0 ≡ get_or (marked m false (segment o a b)) i 0
  mid i p = get_or-append_right (take a o) _ a (a + i) 0 la (omega arith) ∙ ap (λ j. get_or (marked m false (segment o a b) ++ (marked m true (segment o a b) ++ drop b o)) j 0) (let z : a + i - a ≡ i = omega arith in z) ∙ get_or_append_left (marked m false (segment o a b)) _ 0 i p

  -- past the unmarked, at the marked
  past : (i : ℕ) → get_or (redealt o m a b) (a + length (marked m false (segment o a b)) + i) 0 ≡ get_or (marked m true (segment o a b) ++ drop b o) i 0
  past i =
      let n = length (marked m false (segment o a b)) in
      get_or-append_right (take a o) _ a (a + n + i) 0 la (omega arith) ∙ get_or-append_right (marked m false (segment o a b)) _ n (a + n + i - a) 0 refl (omega arith) ∙ ap (λ j. get_or (marked m true (segment o a b) ++ drop b o) j 0) (let z : a + n + i - a - n ≡ i = omega arith in z)

  -- above the segment nothing moves
  pub high : (r : ℕ) → b ≤ r → get_or (redealt o m a b) r 0 ≡ get_or o r 0
  high r p =
      let n = length (marked m false (segment o a b)) in
      let y = length (marked m true (segment o a b)) in
      let l = length_both m o a b h k in
      ap (λ j. get_or (redealt o m a b) j 0) (let z : r ≡ a + n + (y + (r - b)) = omega arith in z) ∙ past (y + (r - b)) ∙ get_or-append_right (marked m true (segment o a b)) (drop b o) y (y + (r - b)) 0 refl (omega arith) ∙ get_or-drop b o (y + (r - b) - y) 0 ∙ ap (λ j. get_or o j 0) (let z : b + (y + (r - b) - y) ≡ r = omega arith in z)

  -- the new rank is in the segment
  pub moved_in : (r : ℕ) → a ≤ r → r < b → (a ≤ moved m o a b r) × (moved m o a b r < b)
  moved_in r p q = elim (cases_Bool (get_or m (get_or o r 0) false)) [
    | inl t ↦ let w = kept_within (is_marked m true) (segment o a b) (r - a) 0 (seg_in r p q) (mark_true r p q t) in let e = moved_true r t in let l = length_both m o a b h k in omega arith
    | inr t ↦ let w = kept_within (is_marked m false) (segment o a b) (r - a) 0 (seg_in r p q) (mark_false r p q t) in let e = moved_false r t in let l = length_both m o a b h k in omega arith
  ]

  -- and there the slot stands
  pub moved_at : (r : ℕ) → a ≤ r → r < b → get_or (redealt o m a b) (moved m o a b r) 0 ≡ get_or o r 0
  moved_at r p q = elim (cases_Bool (get_or m (get_or o r 0) false)) [
    | inl t ↦ let w = kept_within (is_marked m true) (segment o a b) (r - a) 0 (seg_in r p q) (mark_true r p q t) in
        ap (λ j. get_or (redealt o m a b) j 0) (moved_true r t) ∙ past (before m o a b true r) ∙ get_or_append_left (marked m true (segment o a b)) (drop b o) 0 (before m o a b true r) w ∙ kept_at (is_marked m true) (segment o a b) (r - a) 0 (seg_in r p q) (mark_true r p q t) ∙ seg_at r p q
    | inr t ↦ let w = kept_within (is_marked m false) (segment o a b) (r - a) 0 (seg_in r p q) (mark_false r p q t) in
        ap (λ j. get_or (redealt o m a b) j 0) (moved_false r t) ∙ mid (before m o a b false r) w ∙ kept_at (is_marked m false) (segment o a b) (r - a) 0 (seg_in r p q) (mark_false r p q t) ∙ seg_at r p q
  ]

  -- what stands i places into the segment
  seg_from : (i : ℕ) → i < length (segment o a b) → get_or (segment o a b) i 0 ≡ get_or o (a + i) 0
  seg_from i l = get_or-take (b - a) (drop a o) i 0 (omega (arith, length-segment o a b h k)) ∙ get_or-drop a o i 0

  -- where it goes if it is not marked
  from_other : (i : ℕ) → i < length (segment o a b) → is_marked m false (get_or (segment o a b) i 0) ≡ true → moved m o a b (a + i) ≡ a + length (marked m false (take i (segment o a b)))
  from_other i l t = moved_false (a + i) (not-true (get_or m (get_or o (a + i) 0) false) (ap (is_marked m false) (sym (seg_from i l)) ∙ t)) ∙ ap (λ j. a + length (marked m false (take j (segment o a b)))) (let z : a + i - a ≡ i = omega arith in z)

  -- and if it is
  from_ahead : (i : ℕ) → i < length (segment o a b) → is_marked m true (get_or (segment o a b) i 0) ≡ true → moved m o a b (a + i) ≡ a + length (marked m false (segment o a b)) + length (marked m true (take i (segment o a b)))
  from_ahead i l t =
      moved_true (a + i) (ap (is_marked m true) (sym (seg_from i l)) ∙ t) ∙ ap (λ j. a + length (marked m false (segment o a b)) + length (marked m true (take j (segment o a b)))) (let z : a + i - a ≡ i = omega arith in z)

  -- each rank there is some slot's new one
  pub moved_onto : (q : ℕ) → a ≤ q → q < b → (r : ℕ) × (a ≤ r) × (r < b) × (moved m o a b r ≡ q)
  moved_onto q p l =
      let n = length (marked m false (segment o a b)) in
      let ls = length-segment o a b h k in
      let both = length_both m o a b h k in
      elim (cases_lt (q - a) n) [
        | inl s ↦ let f = kept_onto (is_marked m false) (segment o a b) (q - a) 0 s in (a + f.0, omega arith, omega (arith, f.1), omega (arith, f.3, from_other f.0 f.1 f.2))
        | inr s ↦ let f = kept_onto (is_marked m true) (segment o a b) (q - a - n) 0 (omega arith) in (a + f.0, omega arith, omega (arith, f.1), omega (arith, f.3, from_ahead f.0 f.1 f.2))
      ]

  -- slots of one mark keep their order
  pub moved_same : (r s : ℕ) → a ≤ r → r < s → s < b → get_or m (get_or o r 0) false ≡ get_or m (get_or o s 0) false → moved m o a b r < moved m o a b s
  moved_same r s p q l e = let ls = length-segment o a b h k in elim (cases_Bool (get_or m (get_or o r 0) false)) [
    | inl t ↦ omega (arith, kept_rises (is_marked m true) (segment o a b) (r - a) (s - a) 0 (omega arith) (omega arith) (mark_true r p (omega arith) t), moved_true r t, moved_true s (sym e ∙ t))
    | inr t ↦ omega (arith, kept_rises (is_marked m false) (segment o a b) (r - a) (s - a) 0 (omega arith) (omega arith) (mark_false r p (omega arith) t), moved_false r t, moved_false s (sym e ∙ t))
  ]

  -- and an unmarked one goes before each marked
  pub moved_cross : (r s : ℕ) → a ≤ r → r < b → get_or m (get_or o r 0) false ≡ false → get_or m (get_or o s 0) false ≡ true → moved m o a b r < moved m o a b s
  moved_cross r s p q e f = omega (arith, kept_within (is_marked m false) (segment o a b) (r - a) 0 (seg_in r p q) (mark_false r p q e), moved_false r e, moved_true s f)
