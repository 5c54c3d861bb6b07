-- What a change of the wires keeps.
use Rattle.std.proofs.Common.{◌≡◌, ℕ, ◌<◌, ◌≤◌, Bool, true, false, cond, ◌&&◌, eqb, ◌⊎◌, List, length, get_or, set, replicate, Some, None, Option, sym, refl, ap, ◌∙◌, inl, inr, arith}
use Rattle.std.proofs.lemmas.List.{get_or-set_same, get_or-set_other, get_or-replicate, get_or_past, length-replicate}
use Rattle.std.proofs.lemmas.Bool.{cases_eq, cases_lt, cases_Bool, cond_both, eq-eqb, ne_eqb, eqb-true, eqb-false, cond-true, cond-false, and_parts, and_from}
use Rattle.wiring.specs.declared.block.Block.{Block}
use Rattle.wiring.specs.Change.{Same, rewired, off}
use Rattle.wiring.specs.Layout.{Layout, WireTo, Direct, no_block, ports_at, late_at, source_at, layout_of}
use Rattle.wiring.specs.Sound.{Sound, Few}

-- what a table with a new block at s says of t
pub at_set : {A : Type 0} (F : Block → A) (blocks : List Block) (s : ℕ) (b : Block) → s < length blocks → (t : ℕ) → F (get_or (set blocks s b) t no_block) ≡ cond (eqb t s) (F b) (F (get_or blocks t no_block))
at_set F blocks s b small t = elim (cases_eq t s) [
  | inl e ↦ ap (λ n. F (get_or (set blocks s b) n no_block)) e ∙ ap F (get_or-set_same blocks s b no_block small) ∙ sym (cond-true (eqb t s) (F b) (F (get_or blocks t no_block)) (eq-eqb t s e))
  | inr ne ↦ ap F (get_or-set_other blocks s t b no_block ne) ∙ sym (cond-false (eqb t s) (F b) (F (get_or blocks t no_block)) (ne_eqb t s ne))
]

-- an array with one value at each place has it at every place
pub all_same : {X : Type 0} (x : X) (n i : ℕ) → get_or (replicate n x) i x ≡ x
all_same x n i = elim (cases_lt i n) [ inl l ↦ get_or-replicate n i x x l | inr l ↦ get_or_past (replicate n x) i x (omega (arith, length-replicate n x)) ]

-- a source that is there under a test came from its second way
cond_some : (b : Bool) (o : Option ℕ) (s : ℕ) → cond b None o ≡ Some s → (b ≡ false) × (o ≡ Some s)
cond_some true o s e = let z : ◌≡◌ {A = ℕ} 0 1 = cc in absurd (omega arith)
cond_some false o s e = (refl, e)

-- and a source that is left was there, and is another
pub off_some : (slot : ℕ) (o : Option ℕ) (s : ℕ) → off slot o ≡ Some s → (o ≡ Some s) × (s ≡ slot → ⊥)
off_some slot None s e = let z : ◌≡◌ {A = ℕ} 0 1 = cc in absurd (omega arith)
off_some slot (Some x) s e = elim (cases_Bool (eqb x slot)) [
  | inl t ↦ let f = sym (cond-true (eqb x slot) None (Some x) t) ∙ e in let z : ◌≡◌ {A = ℕ} 0 1 = cc in absurd (omega arith)
  | inr t ↦ let f = sym (cond-false (eqb x slot) None (Some x) t) ∙ e in let z : x ≡ s = cc in (f, λ i. eqb-false x slot t (z ∙ i))
]

-- each wire of m is one of l, into a port of the same sort
pub record Fewer (l m : Layout) : Type 0 where
  pub source : (s t p : ℕ) → m.source t p ≡ Some s → l.source t p ≡ Some s
  pub ports : (s t p : ℕ) → m.source t p ≡ Some s → m.ports t ≡ l.ports t
  pub late : (s t p : ℕ) → m.source t p ≡ Some s → m.late t p ≡ l.late t p

module _ (l m : Layout) (fewer : Fewer l m) where
  -- a wire was there
  wire_was : (s t : ℕ) → WireTo m s t → WireTo l s t
  wire_was s t w = (w.0, fewer.source s t w.0 w.1)

  -- and so was a direct one
  pub direct_was : (s t : ℕ) → Direct m s t → Direct l s t
  direct_was s t w = (w.0, fewer.source s t w.0 w.1, omega (arith, fewer.ports s t w.0 w.1, w.2), sym (fewer.late s t w.0 w.1) ∙ w.3)

  -- fewer wires are sound
  pub fewer_sound : (count : ℕ) (order rank : List ℕ) (live : List Bool) → Few m → Sound count order rank live l → Sound count order rank live m
  fewer_sound count order rank live few was = record {
    placed = was.placed;
    ranked = was.ranked;
    few = few;
    fits = λ t p w. let h = was.fits t p (w.0, fewer.source w.0 t p w.1) in omega (arith, fewer.ports w.0 t p w.1);
    heads = λ s t w. was.heads s t (wire_was s t w);
    tails = λ s t w. was.tails s t (wire_was s t w);
    ascends = λ s t w. was.ascends s t (direct_was s t w);
  }

-- a table with a new block at a slot, of no wires
module _ (blocks : List Block) (slot : ℕ) (b : Block) (small : slot < length blocks) (bare : b.source ≡ replicate 3 None) where
  -- what feeds a port then
  pub set_source : (t p : ℕ) → source_at (set blocks slot b) t p ≡ cond (eqb t slot) None (source_at blocks t p)
  set_source t p =
      at_set (λ (q : Block). get_or q.source p None) blocks slot b small t
      ∙ ap (λ (o : Option ℕ). cond (eqb t slot) o (source_at blocks t p)) (ap (λ (xs : List (Option ℕ)). get_or xs p None) bare ∙ all_same {X = Option ℕ} None 3 p)

  -- a wire is of another slot, and was there
  pub set_was : (s t p : ℕ) → source_at (set blocks slot b) t p ≡ Some s → (eqb t slot ≡ false) × (source_at blocks t p ≡ Some s)
  set_was s t p e = cond_some (eqb t slot) (source_at blocks t p) s (sym (set_source t p) ∙ e)

  -- so there are fewer wires
  pub set_fewer : (n n' : ℕ) (order order' : List ℕ) → Fewer (layout_of n order blocks) (layout_of n' order' (set blocks slot b))
  unfolding set_was
  set_fewer n n' order order' = record {
    source = λ s t p e. (set_was s t p e).1;
    ports = λ s t p e. at_set (λ (q : Block). q.ports) blocks slot b small t ∙ cond-false (eqb t slot) b.ports (ports_at blocks t) (set_was s t p e).0;
    late = λ s t p e. at_set (λ (q : Block). get_or q.late p false) blocks slot b small t ∙ cond-false (eqb t slot) (get_or b.late p false) (late_at blocks t p) (set_was s t p e).0;
  }

  -- and no block has too many ports
  pub set_few : b.ports ≤ 3 → ((t : ℕ) → ports_at blocks t ≤ 3) → (t : ℕ) → ports_at (set blocks slot b) t ≤ 3
  set_few h few t = rw (at_set (λ (q : Block). q.ports) blocks slot b small t) (cond_both (eqb t slot) b.ports (ports_at blocks t) (λ n. n ≤ 3) (λ _. h) (λ _. few t))

module _ (l m : Layout) (t p : ℕ) (from : Option ℕ) (same : Same m (rewired l t p from)) where
  -- a wire of m was there, or is the new one
  source_was : (u v q : ℕ) → m.source v q ≡ Some u → (l.source v q ≡ Some u) ⊎ ((v ≡ t) × (q ≡ p) × (from ≡ Some u))
  source_was u v q e = let f = sym (same.source v q) ∙ e in elim (cases_Bool (eqb v t && eqb q p)) [
    | inl y ↦ let a = and_parts (eqb v t) (eqb q p) y in inr (eqb-true v t a.0, eqb-true q p a.1, sym (cond-true (eqb v t && eqb q p) from (l.source v q) y) ∙ f)
    | inr n ↦ inl (sym (cond-false (eqb v t && eqb q p) from (l.source v q) n) ∙ f)
  ]

  -- a port fed anew, up the ranks, is sound
  pub rewired_sound : (count : ℕ) (order rank : List ℕ) (live : List Bool) → get_or live t false ≡ true → p < l.ports t
      → ((s : ℕ) → from ≡ Some s → (get_or live s false ≡ true) × (l.late t p ≡ false → get_or rank s 0 < get_or rank t 0)) → Sound count order rank live l → Sound count order rank live m
  rewired_sound count order rank live lt in' up was = record {
    placed = was.placed;
    ranked = was.ranked;
    few = λ v. let h = was.few v in omega (arith, same.ports v);
    fits = λ v q w. elim (source_was w.0 v q w.1) [
      | inl e ↦ let h = was.fits v q (w.0, e) in omega (arith, same.ports v)
      | inr e ↦ let h = ap l.ports e.0 in omega (arith, same.ports v, e.1)
    ];
    heads = λ u v w. elim (source_was u v w.0 w.1) [ inl e ↦ was.heads u v (w.0, e) | inr e ↦ (up u e.2).0 ];
    tails = λ u v w. elim (source_was u v w.0 w.1) [ inl e ↦ was.tails u v (w.0, e) | inr e ↦ ap (λ x. get_or live x false) e.0 ∙ lt ];
    ascends = λ u v w. elim (source_was u v w.0 w.1) [
      | inl e ↦ was.ascends u v (w.0, e, omega (arith, w.2, same.ports v), sym (same.late v w.0) ∙ w.3)
      | inr e ↦ let direct : l.late t p ≡ false = ap (λ x. l.late x p) (sym e.0) ∙ ap (l.late v) (sym e.1) ∙ sym (same.late v w.0) ∙ w.3 in
          let h = (up u e.2).1 direct in rw e.0 h
    ];
  }

-- a table with a port of t fed anew is the layout rewired
pub set_rewired : (n : ℕ) (order : List ℕ) (blocks : List Block) (t p : ℕ) (from : Option ℕ) (b : Block) → t < length blocks → b.ports ≡ ports_at blocks t → b.late ≡ (get_or blocks t no_block).late
    → ((q : ℕ) → get_or b.source q None ≡ cond (eqb q p) from (source_at blocks t q)) → Same (layout_of n order (set blocks t b)) (rewired (layout_of n order blocks) t p from)
set_rewired n order blocks t p from b small ports late source = record {
  order = refl;
  ports = λ u. kept (λ (q : Block). q.ports) ports u;
  late = λ u q. kept (λ (x : Block). get_or x.late q false) (ap (λ (xs : List Bool). get_or xs q false) late) u;
  source = λ u q. elim (cases_eq u t) [
    | inl e ↦ ap (λ x. source_at (set blocks t b) x q) e ∙ ap (λ (x : Block). get_or x.source q None) (get_or-set_same blocks t b no_block small) ∙ source q
        ∙ ap (λ x. cond (eqb q p) from (source_at blocks x q)) (sym e) ∙ sym (ap (λ (y : Bool). cond (y && eqb q p) from (source_at blocks u q)) (eq-eqb u t e))
    | inr ne ↦ ap (λ (x : Block). get_or x.source q None) (get_or-set_other blocks t u b no_block ne) ∙ sym (ap (λ (y : Bool). cond (y && eqb q p) from (source_at blocks u q)) (ne_eqb u t ne))
  ];
}
  where
    -- what a block keeps its slot keeps
    kept : {A : Type 0} (F : Block → A) → F b ≡ F (get_or blocks t no_block) → (u : ℕ) → F (get_or (set blocks t b) u no_block) ≡ F (get_or blocks u no_block)
    kept F e u = elim (cases_eq u t) [
      | inl i ↦ ap (λ x. F (get_or (set blocks t b) x no_block)) i ∙ ap F (get_or-set_same blocks t b no_block small) ∙ e ∙ ap (λ x. F (get_or blocks x no_block)) (sym i)
      | inr ne ↦ ap F (get_or-set_other blocks t u b no_block ne)
    ]

module _ (l : Layout) (t p : ℕ) where
  -- where a port was free, feeding it leaves the other direct wires
  pub direct_still : (from : Option ℕ) → l.source t p ≡ None → (u v : ℕ) → Direct l u v → Direct (rewired l t p from) u v
  direct_still from free u v w = (w.0, source, w.2, w.3)
    where
      source : cond (eqb v t && eqb w.0 p) from (l.source v w.0) ≡ Some u
      source = elim (cases_Bool (eqb v t && eqb w.0 p)) [
        | inl y ↦ let a = and_parts (eqb v t) (eqb w.0 p) y in
            let f : None ≡ Some u = sym free ∙ ap (λ x. l.source x p) (sym (eqb-true v t a.0)) ∙ ap (l.source v) (sym (eqb-true w.0 p a.1)) ∙ w.1 in
            let z : ◌≡◌ {A = ℕ} 0 1 = cc in absurd (omega arith)
        | inr n ↦ cond-false (eqb v t && eqb w.0 p) from (l.source v w.0) n ∙ w.1
      ]

  -- and adds its own, where it is direct
  pub direct_new : (s : ℕ) → p < l.ports t → l.late t p ≡ false → Direct (rewired l t p (Some s)) s t
  direct_new s in' direct = (p, cond-true (eqb t t && eqb p p) (Some s) (l.source t p) (and_from (eqb t t) (eqb p p) (eq-eqb t t refl) (eq-eqb p p refl)), in', direct)
