use Rattle.std.proofs.Common.{◌≡◌, ℕ, ◌+◌, ◌-◌, ◌<◌, ◌≤◌, false, None, Option, List, length, get_or, set, sym, ap, ◌∙◌, subst, arith}
use Rattle.std.proofs.lemmas.List.{length-set}
use Rattle.wiring.specs.declared.wiring.Wiring.{Wiring}
use Rattle.wiring.specs.Sound.{live_of, rank_in, Sized, Sound}
use Rattle.wiring.specs.View.{layout}
use Rattle.wiring.proofs.Remove.{Closed, forgotten, removed_sound, removed_order}
use Rattle.wiring.proofs.Standing.{live_of-clear, rank_in-clear}
use Rattle.wiring.proofs.Whole.{alive, rank_at, sound}
use Rattle.wiring.proofs.wiring.Wiring.take_out.Goals as goal

pub close_up-requires : goal.close_up-requires
close_up-requires c =
    let w = c.args.self.now in
    let on = (w.ranked c.args.slot (alive w c.args.slot c.requires.placed)).0 in
    let e = rank_at w c.args.slot c.requires.placed in
    let room = w.room in
    record { ends = (omega arith, omega arith); live = λ i h k. (w.placed i (omega arith)).0; ranked = λ i h k. (w.placed i (omega arith)).1 }

-- what stands at a higher rank is another slot
apart : (w : Wiring) (s i : ℕ) → get_or (rank_in w.rank) s 0 ≤ i → i < w.count - 1 → get_or w.order (i + 1) 0 ≡ s → ⊥
apart w s i p q e = let z : get_or (rank_in w.rank) s 0 ≡ i + 1 = ap (λ t. get_or (rank_in w.rank) t 0) (sym e) ∙ (w.placed (i + 1) (omega arith)).1 in omega arith

-- the ranks closed up, and that of the slot forgotten
closed_up : (w : Wiring) (s from : ℕ) (o : List ℕ) (ranks : List (Option ℕ)) → from ≡ get_or (rank_in w.rank) s 0 → Closed w.count from s w.order o (rank_in w.rank) (rank_in ranks)
    → Closed w.count (get_or (rank_in w.rank) s 0) s w.order o (rank_in w.rank) (set (rank_in ranks) s 0)
closed_up w s from o ranks at closed = forgotten (apart w s) (subst (λ (n : ℕ). Closed w.count n s w.order o (rank_in w.rank) (rank_in ranks)) at closed)

pub invariant_of-self : goal.invariant_of-self
invariant_of-self c =
    let w = c.args.self.now in
    let s = c.args.slot in
    let f = c.close_up.ensures in
    let ranks = c.close_up.new.rank in
    let closed = closed_up w s c.rank_at-from.result c.close_up.new.order ranks (c.rank_at-from.ensures.rank ∙ rank_at w s c.requires.placed) (record { low = f.low; mid = f.mid; here = f.here; other = λ t _. f.other t }) in
    let x = removed_sound w.count w.order (rank_in w.rank) (live_of w.rank) (layout w) (sound w) s (alive w s c.requires.placed) c.requires.bare c.close_up.new.order (set (rank_in ranks) s 0) closed in
    let y : Sound (w.count - 1) c.close_up.new.order (rank_in (set ranks s None)) (live_of (set ranks s None)) (layout w) = rw (rank_in-clear ranks s, live_of-clear ranks s, f.live) x in
    let sized : Sized c.close_up.new.order (live_of (set ranks s None)) = (f.size, ap length (live_of-clear ranks s) ∙ length-set (live_of ranks) s false ∙ ap length f.live ∙ w.sized.1) in
    record { room = omega (arith, w.room); sized = sized; placed = y.placed; ranked = y.ranked; few = y.few; fits = y.fits; heads = y.heads; tails = y.tails; ascends = y.ascends }

pub returns-clause-order : goal.returns-clause-order
returns-clause-order c =
    let w = c.args.self.now in
    let s = c.args.slot in
    let f = c.close_up.ensures in
    let closed = closed_up w s c.rank_at-from.result c.close_up.new.order c.close_up.new.rank (c.rank_at-from.ensures.rank ∙ rank_at w s c.requires.placed) (record { low = f.low; mid = f.mid; here = f.here; other = λ t _. f.other t }) in
    removed_order w.count w.order (rank_in w.rank) (live_of w.rank) (layout w) (sound w) s (alive w s c.requires.placed) c.requires.bare c.close_up.new.order (set (rank_in c.close_up.new.rank) s 0) closed (omega (arith, w.room, w.sized.0)) (f.size ∙ sym w.sized.0)
