use Rattle.std.proofs.Common.{◌≡◌, ℕ, ◌+◌, ◌≤◌, true, false, length, get_or, take, sym, refl, ap, ◌∙◌, subst, arith, rules}
use Rattle.wiring.specs.Layout.{rank_of}
use Rattle.wiring.specs.Pass.{Marks, redealt}
use Rattle.wiring.specs.Sound.{live_of, rank_in, Sized, Sound}
use Rattle.wiring.specs.View.{layout}
use Rattle.wiring.proofs.Index.{member_is, rank_is}
use Rattle.wiring.proofs.Orders.{redealt_front}
use Rattle.wiring.proofs.Rewire.{turned_sound, turned_up}
use Rattle.wiring.proofs.Whole.{alive, in_table, live_is, rank_at, sound}
use Rattle.wiring.proofs.wiring.Wiring.reorder.Goals as goal

pub invariant_of-self : goal.invariant_of-self
invariant_of-self c =
    let w = c.args.self.now in
    let f = c.redeal.ensures in
    let from = c.rank_at-from.ensures.rank in
    let to = c.rank_at.ensures.rank in
    let marks = subst (λ (n : ℕ). Marks (layout w) (rank_in w.rank) c.args.target (n + 1) c.args.ahead.now.marks) (sym to) c.requires.marks in
    let x = turned_sound w.count w.order (rank_in w.rank) (live_of w.rank) (layout w) (sound w) c.args.ahead.now.marks c.args.source c.args.target (in_table w) (alive w c.args.source c.requires.source) (alive w c.args.target c.requires.target)
    c.rank_at-from.result (c.rank_at.result + 1) (from ∙ rank_at w c.args.target c.requires.target) (ap (λ n. n + 1) (to ∙ rank_at w c.args.source c.requires.source)) (omega (arith, c.requires.down)) marks
    c.redeal.new.order f.order (rank_in c.redeal.new.rank) f.here f.other in
    let y : Sound w.count c.redeal.new.order (rank_in c.redeal.new.rank) (live_of c.redeal.new.rank) (layout w) = rw f.live x in
    let sized : Sized c.redeal.new.order (live_of c.redeal.new.rank) = (f.size, ap length f.live ∙ w.sized.1) in
    record { room = w.room; sized = sized; placed = y.placed; ranked = y.ranked; few = y.few; fits = y.fits; heads = y.heads; tails = y.tails; ascends = y.ascends }

pub returns : goal.returns
returns c =
    let w = c.args.self.now in
    let f = c.redeal.ensures in
    let t = c.args.target in
    let s = c.args.source in
    let m = c.args.ahead.now.marks in
    let from = c.rank_at-from.ensures.rank in
    let to = c.rank_at.ensures.rank in
    let on_s : get_or (live_of w.rank) s false ≡ true = alive w s c.requires.source in
    let on_t : get_or (live_of w.rank) t false ≡ true = alive w t c.requires.target in
    let is_t = from ∙ rank_at w t c.requires.target in
    let is_s = ap (λ n. n + 1) (to ∙ rank_at w s c.requires.source) in
    let marks = subst (λ (n : ℕ). Marks (layout w) (rank_in w.rank) t (n + 1) m) (sym to) c.requires.marks in
    let o = c.redeal.new.order in
    let rank = rank_in c.redeal.new.rank in
    let long' : w.count ≤ length o = search rules in
    let x = turned_sound w.count w.order (rank_in w.rank) (live_of w.rank) (layout w) (sound w) m s t (in_table w) on_s on_t c.rank_at-from.result (c.rank_at.result + 1) is_t is_s (omega (arith, c.requires.down)) marks o f.order rank f.here f.other in
    let up = turned_up w.count w.order (rank_in w.rank) (live_of w.rank) (layout w) (sound w) m s t (in_table w) on_s on_t c.rank_at-from.result (c.rank_at.result + 1) is_t is_s (omega (arith, c.requires.down)) marks o f.order rank f.here f.other c.requires.free in
    record {
      order = ap (take w.count) f.order ∙ redealt_front w.order m c.rank_at-from.result (c.rank_at.result + 1) w.count (omega (arith, c.requires.down)) (omega (arith, c.rank_at.ensures.below)) (in_table w)
          ∙ ap (λ n. redealt (layout w).order m n (c.rank_at.result + 1)) from ∙ ap (λ n. redealt (layout w).order m (rank_of (layout w) t) (n + 1)) to;
      placed = λ u. member_is w.count o rank (live_of w.rank) long' x.placed x.ranked u ∙ sym (live_is w u);
      slots = refl;
      up = omega (arith, rank_is w.count o rank (live_of w.rank) long' x.placed x.ranked s on_s, rank_is w.count o rank (live_of w.rank) long' x.placed x.ranked t on_t);
    }
