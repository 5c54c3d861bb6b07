-- A block placed, and a wiring with none.
use Rattle.std.proofs.Common.{◌≡◌, ℕ, ◌+◌, ◌<◌, Bool, true, false, List, length, get_or, set, replicate, Some, None, Option, ap, ◌∙◌, inl, inr, arith}
use Rattle.std.proofs.lemmas.List.{get_or-set_same, get_or-set_other, get_or-replicate, length-replicate, get_or_past}
use Rattle.std.proofs.lemmas.Bool.{cases_eq, cases_lt, both_ways}
use Rattle.wiring.specs.declared.block.Block.{Block}
use Rattle.wiring.specs.Layout.{Layout, no_block, ports_at, late_at, source_at, layout_of}
use Rattle.wiring.specs.Sound.{Placed, Ranked, Ascends, Few, Sound}
use Rattle.wiring.proofs.Wires.{Fewer, direct_was, fewer_sound, all_same}

module _ (count : ℕ) (order rank : List ℕ) (live : List Bool) (l m : Layout) (slot : ℕ) (lo : length order ≡ 256) (lr : length rank ≡ 256) (ll : length live ≡ 256) (room : count < 256) (small : slot < 256) (fresh : get_or live slot false ≡ false)
    (fewer : Fewer l m) (few : Few m) (was : Sound count order rank live l) where
  -- each rank is that of a live slot, also the new one
  placed : Placed (count + 1) (set order count slot) (set rank slot count) (set live slot true)
  placed r h = elim (cases_eq r count) [ inl e ↦ grind (arith, get_or-set_same, get_or-set_other) | inr ne ↦ let p = was.placed r (omega arith) in grind (arith, get_or-set_same, get_or-set_other) ]

  -- each live slot stands at its rank, also the new one
  ranked : Ranked (count + 1) (set order count slot) (set rank slot count) (set live slot true)
  ranked s h = elim (cases_eq s slot) [ inl e ↦ grind (arith, get_or-set_same, get_or-set_other) | inr ne ↦ let k : get_or live s false ≡ true = grind (arith, get_or-set_other) in let p = was.ranked s k in grind (arith, get_or-set_same, get_or-set_other) ]

  -- a live slot is another, and stays live
  still : (s : ℕ) → get_or live s false ≡ true → get_or (set live slot true) s false ≡ true
  still s k = elim (cases_eq s slot) [ inl e ↦ grind (arith, get_or-set_same) | inr ne ↦ grind (arith, get_or-set_other) ]

  -- the wires ascend, since none is of the new slot
  ascends : Ascends (set rank slot count) m
  ascends s t w =
      let v = direct_was l m fewer s t w in
      let k = was.ascends s t v in
      let hs = was.heads s t (v.0, v.1) in
      let ht = was.tails s t (v.0, v.1) in
      let ns : s ≡ slot → ⊥ = λ e. grind arith in
      let nt : t ≡ slot → ⊥ = λ e. grind arith in
      rw (get_or-set_other rank slot s count 0 ns, get_or-set_other rank slot t count 0 nt) k

  -- one more block is sound
  pub inserted_sound : Sound (count + 1) (set order count slot) (set rank slot count) (set live slot true) m
  inserted_sound = let f = fewer_sound l m fewer count order rank live few was in record {
    placed = placed;
    ranked = ranked;
    few = few;
    fits = f.fits;
    heads = λ s t w. still s (f.heads s t w);
    tails = λ s t w. still t (f.tails s t w);
    ascends = ascends;
  }

module _ (b : Block) (ports : b.ports ≡ 0) (late : b.late ≡ replicate 3 false) (source : b.source ≡ replicate 3 None) where
  -- what a table of nothing but b says
  none_at : {A : Type 0} (F : Block → A) → F b ≡ F no_block → (t : ℕ) → F (get_or (replicate 256 b) t no_block) ≡ F no_block
  none_at F e t = elim (cases_lt t 256) [ inl l ↦ ap F (get_or-replicate 256 t b no_block l) ∙ e | inr l ↦ ap F (get_or_past (replicate 256 b) t no_block (omega (arith, length-replicate 256 b))) ]

  -- no port
  pub no_ports : (t : ℕ) → ports_at (replicate 256 b) t ≡ 0
  no_ports t = none_at (λ (q : Block). q.ports) ports t

  -- none late
  pub no_late : (t p : ℕ) → late_at (replicate 256 b) t p ≡ false
  no_late t p = none_at (λ (q : Block). get_or q.late p false) (ap (λ (xs : List Bool). get_or xs p false) late ∙ all_same false 3 p) t

  -- none wired
  pub no_source : (t p : ℕ) → source_at (replicate 256 b) t p ≡ None
  no_source t p = none_at (λ (q : Block). get_or q.source p None) (ap (λ (xs : List (Option ℕ)). get_or xs p None) source ∙ all_same {X = Option ℕ} None 3 p) t

  -- so there is no wire
  unwired : (s t p : ℕ) → source_at (replicate 256 b) t p ≡ Some s → ⊥
  unwired s t p e = let n = no_source t p in let z : ◌≡◌ {A = ℕ} 0 1 = cc in omega arith

  -- and the tables are sound
  pub empty_sound : (order rank : List ℕ) → Sound 0 order rank (replicate 256 false) (layout_of 0 order (replicate 256 b))
  empty_sound order rank = record {
    placed = λ r h. absurd (omega arith);
    ranked = λ s h. absurd (both_ways _ (all_same false 256 s) h);
    few = λ t. omega (arith, no_ports t);
    fits = λ t p w. absurd (unwired w.0 t p w.1);
    heads = λ s t w. absurd (unwired s t w.0 w.1);
    tails = λ s t w. absurd (unwired s t w.0 w.1);
    ascends = λ s t w. absurd (unwired s t w.0 w.1);
  }
