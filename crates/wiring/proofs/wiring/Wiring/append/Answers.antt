use Rattle.std.proofs.Common.{◌+◌, ◌<◌, true, Some, length, set, sym, ◌∙◌, arith, rules}
use Rattle.std.proofs.lemmas.List.{length-set}
use Rattle.wiring.specs.Layout.{layout_of}
use Rattle.wiring.specs.Sound.{live_of, rank_in, Sized, Sound}
use Rattle.wiring.specs.View.{layout}
use Rattle.wiring.proofs.Insert.{inserted_sound}
use Rattle.wiring.proofs.Whole.{live_is, ranks_long, room_for, sound}
use Rattle.wiring.proofs.Standing.{rank_in-set, live_of-set}
use Rattle.wiring.proofs.Wires.{set_fewer, set_few}
use Rattle.wiring.proofs.wiring.Wiring.append.Goals as goal

pub bounds-self-self : goal.bounds-self-self
bounds-self-self c = room_for c.args.self.now c.args.slot (search rules) c.requires.free

pub overflow_cast-self : goal.overflow_cast-self
overflow_cast-self c = let h = room_for c.args.self.now c.args.slot (search rules) c.requires.free in search rules

pub invariant_of-self : goal.invariant_of-self
invariant_of-self c =
    let w = c.args.self.now in
    let s = c.args.slot in
    let b = c.args.block in
    let room = room_for w s (search rules) c.requires.free in
    let m = layout_of (w.count + 1) (set w.order w.count s) (set w.slots s b) in
    let small : s < length w.slots = search rules in
    let x = inserted_sound w.count w.order (rank_in w.rank) (live_of w.rank) (layout w) m s (search rules) (ranks_long w) w.sized.1 room (search rules) (sym (live_is w s) ∙ c.requires.free)
    (set_fewer w.slots s b small c.requires.bare w.count (w.count + 1) w.order (set w.order w.count s)) (set_few w.slots s b small c.requires.bare c.requires.few w.few) (sound w) in
    let y : Sound (w.count + 1) (set w.order w.count s) (rank_in (set w.rank s (Some w.count))) (live_of (set w.rank s (Some w.count))) m = rw (rank_in-set w.rank s w.count, live_of-set w.rank s w.count) x in
    let sized : Sized (set w.order w.count s) (live_of (set w.rank s (Some w.count))) = (length-set w.order w.count s ∙ w.sized.0, rw (live_of-set w.rank s w.count, length-set (live_of w.rank) s true) w.sized.1) in
    record { room = omega arith; sized = sized; placed = y.placed; ranked = y.ranked; few = y.few; fits = y.fits; heads = y.heads; tails = y.tails; ascends = y.ascends }
