-- The second pass: what has been dealt out when it comes to the rank r.
use Rattle.std.proofs.Common.{◌≡◌, ℕ, ◌+◌, ◌-◌, ◌<◌, ◌≤◌, Bool, true, false, cond, not, ◌⊎◌, List, ◌++◌, length, get_or, take, drop, set, sym, refl, ap, ◌∙◌, subst, inl, inr, arith}
use Rattle.std.proofs.lemmas.List.{length-append, length-take-le, length-drop, length-set, get_or-set_same, get_or-set_other, ext_get_or}
use Rattle.std.proofs.lemmas.List.Filters.{length-filter_more}
use Rattle.std.proofs.lemmas.Bool.{cases_Bool, cases_lt, cases_eq}
use Rattle.wiring.specs.Pass.{is_marked, marked, segment, redealt}
use Rattle.wiring.proofs.Places.{before, moved, seg_at, seg_in, seg_of, length-segment, length_both, moved_true, moved_false, moved_in, moved_at, moved_onto, moved_same, moved_cross, low, high}

-- what stood at the ranks from a to r stands where it moves to, in `out` and `now`, and the rest as it did; l and h are the next free places
pub record Dealing (m : List Bool) (o : List ℕ) (a b : ℕ) (rank out now : List ℕ) (l h r : ℕ) : Type 0 where
  pub ends : (a ≤ b) × (b ≤ length o)
  pub ranked : (i : ℕ) → a ≤ i → i < b → get_or rank (get_or o i 0) 0 ≡ i
  pub long : length out ≡ length o
  pub ranks : length now ≡ length rank
  pub others : l ≡ a + before m o a b false r
  pub ahead : h ≡ a + length (marked m false (segment o a b)) + before m o a b true r
  pub at : (i : ℕ) → a ≤ i → i < r → get_or out (moved m o a b i) 0 ≡ get_or o i 0
  pub outside : (i : ℕ) → (i < a) ⊎ (b ≤ i) → get_or out i 0 ≡ get_or o i 0
  pub here : (i : ℕ) → a ≤ i → i < r → get_or now (get_or o i 0) 0 ≡ moved m o a b i
  pub other : (s : ℕ) → ((i : ℕ) → a ≤ i → i < r → get_or o i 0 ≡ s → ⊥) → get_or now s 0 ≡ get_or rank s 0

module _ (m : List Bool) (o : List ℕ) (a b : ℕ) (p : a ≤ b) (q : b ≤ length o) (rank : List ℕ) where
  -- at the first rank none is dealt
  before_none : (w : Bool) → before m o a b w a ≡ 0
  before_none w = ap (λ n. length (marked m w (take n (segment o a b)))) (let z : a - a ≡ 0 = omega arith in z)

  -- at the next rank one more is, of its mark
  before_more : (w : Bool) (r : ℕ) → a ≤ r → r < b → before m o a b w (r + 1) ≡ before m o a b w r + cond (is_marked m w (get_or o r 0)) 1 0
  before_more w r u v =
      ap (λ n. length (marked m w (take n (segment o a b)))) (let z : r + 1 - a ≡ r - a + 1 = omega arith in z) ∙ length-filter_more (is_marked m w) (segment o a b) (r - a) 0 (seg_in m o a b p q r u v)
      ∙ ap (λ x. before m o a b w r + cond (is_marked m w x) 1 0) (seg_at m o a b p q r u v)

  -- the start of the pass
  pub dealing_none : ((i : ℕ) → a ≤ i → i < b → get_or rank (get_or o i 0) 0 ≡ i) → (l h : ℕ) → l ≡ a → h ≡ a + length (marked m false (segment o a b)) → Dealing m o a b rank o rank l h a
  dealing_none ranked l h el eh = record {
    ends = (p, q);
    ranked = ranked;
    long = refl;
    ranks = refl;
    others = omega (arith, before_none false);
    ahead = omega (arith, before_none true);
    at = λ i u v. absurd (omega arith);
    outside = λ i u. refl;
    here = λ i u v. absurd (omega arith);
    other = λ s u. refl;
  }

  -- two ranks move to two places
  moved_apart : (i r : ℕ) → a ≤ i → i < r → r < b → moved m o a b i ≡ moved m o a b r → ⊥
  moved_apart i r u v w e = elim (cases_Bool (get_or m (get_or o i 0) false)) [
    | inl x ↦ elim (cases_Bool (get_or m (get_or o r 0) false)) [ inl y ↦ omega (arith, moved_same m o a b p q i r u v w (x ∙ sym y)) | inr y ↦ omega (arith, moved_cross m o a b p q r i (omega arith) w y x) ]
    | inr x ↦ elim (cases_Bool (get_or m (get_or o r 0) false)) [ inl y ↦ omega (arith, moved_cross m o a b p q i r u (omega arith) x y) | inr y ↦ omega (arith, moved_same m o a b p q i r u v w (x ∙ sym y)) ]
  ]

  module _ (ranked : (i : ℕ) → a ≤ i → i < b → get_or rank (get_or o i 0) 0 ≡ i) (out now : List ℕ) (l h r : ℕ) (so_far : Dealing m o a b rank out now l h r) (u : a ≤ r) (v : r < b) where
    -- no slot stands twice
    apart : (i : ℕ) → a ≤ i → i < r → get_or o i 0 ≡ get_or o r 0 → ⊥
    apart i x y e = let z : i ≡ r = sym (ranked i x (omega arith)) ∙ ap (λ s. get_or rank s 0) e ∙ ranked r u v in omega arith

    -- the slot of rank r dealt to its place g
    step : get_or o r 0 < length now → (g l' h' : ℕ) → g ≡ moved m o a b r → l' ≡ a + before m o a b false (r + 1) → h' ≡ a + length (marked m false (segment o a b)) + before m o a b true (r + 1)
        → Dealing m o a b rank (set out g (get_or o r 0)) (set now (get_or o r 0) g) l' h' (r + 1)
    step small g l' h' e el eh = let w = moved_in m o a b p q r u v in record {
      ends = (p, q);
      ranked = ranked;
      long = length-set out g (get_or o r 0) ∙ so_far.long;
      ranks = length-set now (get_or o r 0) g ∙ so_far.ranks;
      others = el;
      ahead = eh;
      at = λ i x y. elim (cases_eq i r) [
        | inl z ↦ ap (λ n. get_or (set out g (get_or o r 0)) (moved m o a b n) 0) z ∙ ap (λ n. get_or (set out g (get_or o r 0)) n 0) (sym e) ∙ get_or-set_same out g (get_or o r 0) 0 (omega (arith, so_far.long)) ∙ ap (λ n. get_or o n 0) (sym z)
        | inr z ↦ get_or-set_other out g (moved m o a b i) (get_or o r 0) 0 (λ f. moved_apart i r x (omega arith) v (f ∙ e)) ∙ so_far.at i x (omega arith)
      ];
      outside = λ i x. get_or-set_other out g i (get_or o r 0) 0 (λ f. elim x [ inl y ↦ omega arith | inr y ↦ omega arith ]) ∙ so_far.outside i x;
      here = λ i x y. elim (cases_eq i r) [
        | inl z ↦ ap (λ n. get_or (set now (get_or o r 0) g) (get_or o n 0) 0) z ∙ get_or-set_same now (get_or o r 0) g 0 small ∙ e ∙ ap (moved m o a b) (sym z)
        | inr z ↦ get_or-set_other now (get_or o r 0) (get_or o i 0) g 0 (apart i x (omega arith)) ∙ so_far.here i x (omega arith)
      ];
      other = λ s x. get_or-set_other now (get_or o r 0) s g 0 (λ f. x r u (omega arith) (sym f)) ∙ so_far.other s (λ i y z. x i y (omega arith));
    }

    -- a marked slot goes to the next place of the marked
    place_ahead : get_or m (get_or o r 0) false ≡ true → h ≡ moved m o a b r
    place_ahead t = so_far.ahead ∙ sym (moved_true m o a b p q r t)

    -- and the pass goes on
    dealing_ahead : get_or o r 0 < length now → get_or m (get_or o r 0) false ≡ true → Dealing m o a b rank (set out h (get_or o r 0)) (set now (get_or o r 0) h) l (h + 1) (r + 1)
    dealing_ahead small t = step small h l (h + 1) (place_ahead t)
        (let e = before_more false r u v ∙ ap (λ c. before m o a b false r + cond c 1 0) (ap not t) in omega (arith, so_far.others))
        (let e = before_more true r u v ∙ ap (λ c. before m o a b true r + cond c 1 0) t in omega (arith, so_far.ahead))

    -- and an unmarked one to the next of the others
    place_other : get_or m (get_or o r 0) false ≡ false → l ≡ moved m o a b r
    place_other t = so_far.others ∙ sym (moved_false m o a b p q r t)

    -- so it goes on
    dealing_other : get_or o r 0 < length now → get_or m (get_or o r 0) false ≡ false → Dealing m o a b rank (set out l (get_or o r 0)) (set now (get_or o r 0) l) (l + 1) h (r + 1)
    dealing_other small t = step small l (l + 1) h (place_other t)
        (let e = before_more false r u v ∙ ap (λ c. before m o a b false r + cond c 1 0) (ap not t) in omega (arith, so_far.others))
        (let e = before_more true r u v ∙ ap (λ c. before m o a b true r + cond c 1 0) t in omega (arith, so_far.ahead))

  -- a deal keeps the length
  pub length-redealt : length (redealt o m a b) ≡ length o
  length-redealt =
      let N = marked m false (segment o a b) in
      let Y = marked m true (segment o a b) in
      let x = length-append (take a o) (N ++ (Y ++ drop b o)) in
      let y = length-append N (Y ++ drop b o) in
      let z = length-append Y (drop b o) in
      omega (arith, length-take-le a o (omega arith), length-drop b o, length_both m o a b p q)

-- at the slot of the next rank
module _ {m : List Bool} {o : List ℕ} {a b : ℕ} {rank out now : List ℕ} {l h i : ℕ} (d : Dealing m o a b rank out now l h (a + i)) (v : i < length (segment o a b)) where
  abbrev slot : ℕ
  slot = get_or (segment o a b) i 0

  in_seg : i < b - a
  in_seg = let e = d.ends in omega (arith, length-segment o a b e.0 e.1, v)

  at_rank : slot ≡ get_or o (a + i) 0
  at_rank = seg_of o a b i in_seg

  mark_at : (w : Bool) → get_or m slot false ≡ w → get_or m (get_or o (a + i) 0) false ≡ w
  mark_at w t = ap (λ s. get_or m s false) (sym at_rank) ∙ t

  -- its place is below the end, whether it is marked
  pub ahead_in : get_or m slot false ≡ true → h < b
  ahead_in t = omega (arith, place_ahead m o a b d.ends.0 d.ends.1 rank d.ranked out now l h (a + i) d (omega arith) (omega (arith, in_seg)) (mark_at true t), moved_in m o a b d.ends.0 d.ends.1 (a + i) (omega arith) (omega (arith, in_seg)))

  -- or not
  pub other_in : get_or m slot false ≡ false → l < b
  other_in t = omega (arith, place_other m o a b d.ends.0 d.ends.1 rank d.ranked out now l h (a + i) d (omega arith) (omega (arith, in_seg)) (mark_at false t), moved_in m o a b d.ends.0 d.ends.1 (a + i) (omega arith) (omega (arith, in_seg)))

  module _ (small : slot < length now) where
    small_at : get_or o (a + i) 0 < length now
    small_at = omega (arith, at_rank)

    next_rank : a + i + 1 ≡ a + (i + 1)
    next_rank = omega arith

    -- and the pass goes on
    pub deal_ahead : get_or m slot false ≡ true → Dealing m o a b rank (set out h slot) (set now slot h) l (h + 1) (a + (i + 1))
    deal_ahead t =
        subst (λ (r : ℕ). Dealing m o a b rank (set out h slot) (set now slot h) l (h + 1) r) next_rank
        (subst (λ (s : ℕ). Dealing m o a b rank (set out h s) (set now s h) l (h + 1) (a + i + 1)) (sym at_rank) (dealing_ahead m o a b d.ends.0 d.ends.1 rank d.ranked out now l h (a + i) d (omega arith) (omega (arith, in_seg)) small_at (mark_at true t)))

    pub deal_other : get_or m slot false ≡ false → Dealing m o a b rank (set out l slot) (set now slot l) (l + 1) h (a + (i + 1))
    deal_other t =
        subst (λ (r : ℕ). Dealing m o a b rank (set out l slot) (set now slot l) (l + 1) h r) next_rank
        (subst (λ (s : ℕ). Dealing m o a b rank (set out l s) (set now s l) (l + 1) h (a + i + 1)) (sym at_rank) (dealing_other m o a b d.ends.0 d.ends.1 rank d.ranked out now l h (a + i) d (omega arith) (omega (arith, in_seg)) small_at (mark_at false t)))

-- the end of the pass
module _ {m : List Bool} {o : List ℕ} {a b : ℕ} {rank out now : List ℕ} {l h : ℕ} (all : Dealing m o a b rank out now l h b) where
  -- the end of the pass: the new order is the deal
  pub dealt_order : out ≡ redealt o m a b
  dealt_order = ext_get_or 0 out (redealt o m a b) (all.long ∙ sym (length-redealt m o a b all.ends.0 all.ends.1 rank)) (λ i _. elim (cases_lt i a) [
    | inl u ↦ all.outside i (inl u) ∙ sym (low m o a b all.ends.0 all.ends.1 i u)
    | inr u ↦ elim (cases_lt i b) [
      | inl v ↦ let x = moved_onto m o a b all.ends.0 all.ends.1 i u v in
          ap (λ n. get_or out n 0) (sym x.3) ∙ all.at x.0 x.1 x.2 ∙ sym (moved_at m o a b all.ends.0 all.ends.1 x.0 x.1 x.2) ∙ ap (λ n. get_or (redealt o m a b) n 0) x.3
      | inr v ↦ all.outside i (inr v) ∙ sym (high m o a b all.ends.0 all.ends.1 i v)
    ]
  ])

  -- what stands at a rank there has it
  pub dealt_here : (i : ℕ) → a ≤ i → i < b → get_or now (get_or out i 0) 0 ≡ i
  dealt_here i u v = let x = moved_onto m o a b all.ends.0 all.ends.1 i u v in
      ap (λ n. get_or now (get_or out n 0) 0) (sym x.3) ∙ ap (λ s. get_or now s 0) (all.at x.0 x.1 x.2) ∙ all.here x.0 x.1 x.2 ∙ x.3

  -- and what does not stand there has its old rank
  pub dealt_other : (s : ℕ) → ((i : ℕ) → a ≤ i → i < b → get_or out i 0 ≡ s → ⊥) → get_or now s 0 ≡ get_or rank s 0
  dealt_other s none = all.other s (λ i u v e. let w = moved_in m o a b all.ends.0 all.ends.1 i u v in none (moved m o a b i) w.0 w.1 (all.at i u v ∙ e))
