use Rattle.std.proofs.Common.{◌≡◌, ℕ, ◌+◌, ◌-◌, ◌<◌, Bool, true, false, List, length, get_or, refl, ap, ◌∙◌, subst, arith, rules}
use Rattle.wiring.specs.Pass.{segment}
use Rattle.wiring.specs.Sound.{rank_in}
use Rattle.wiring.specs.Sound.{live_of, rank_in}
use Rattle.wiring.proofs.Standing.{rank_in-set, live_still, live_in}
use Rattle.wiring.proofs.Deals.{Dealing, dealing_none, ahead_in, other_in, deal_ahead, deal_other, dealt_order, dealt_here, dealt_other}
use Rattle.wiring.proofs.Places.{length-segment, seg_of}
use Rattle.wiring.proofs.deal.redeal.Goals as goal
use Rattle.wiring.proofs.deal.redeal.Goals.{then-marks-slot, else-marks-slot}

pub bounds-order-high : goal.bounds-order-high
bounds-order-high c = let h = ahead_in c.loop-slot.invariant.dealing c.loop-slot-test.true c.if-marks-slot.true in omega arith

pub overflow_cast-rank : goal.overflow_cast-rank
overflow_cast-rank c = let h = ahead_in c.loop-slot.invariant.dealing c.loop-slot-test.true c.if-marks-slot.true in search rules

pub overflow_add-high : goal.overflow_add-high
overflow_add-high c = let h = ahead_in c.loop-slot.invariant.dealing c.loop-slot-test.true c.if-marks-slot.true in search rules

pub bounds-order-low : goal.bounds-order-low
bounds-order-low c = let h = other_in c.loop-slot.invariant.dealing c.loop-slot-test.true c.if-marks-slot.false in omega arith

pub overflow_cast-rank-else-marks-slot : goal.overflow_cast-rank-else-marks-slot
overflow_cast-rank-else-marks-slot c = let h = other_in c.loop-slot.invariant.dealing c.loop-slot-test.true c.if-marks-slot.false in search rules

pub overflow_add-low : goal.overflow_add-low
overflow_add-low c = let h = other_in c.loop-slot.invariant.dealing c.loop-slot-test.true c.if-marks-slot.false in search rules

pub loop-slot-init : goal.loop-slot-init
loop-slot-init c = record {
  dealing = subst (Dealing c.args.marks.now c.args.order.now c.args.from c.args.to (rank_in c.args.rank.now) c.args.order.now (rank_in c.args.rank.now) c.args.low c.args.high) (let z : c.args.from ≡ c.args.from + 0 = omega arith in z)
      (dealing_none c.args.marks.now c.args.order.now c.args.from c.args.to c.requires.ends.0 (search rules) (rank_in c.args.rank.now) c.requires.ranked c.args.low c.args.high c.requires.low c.requires.high);
  live = refl;
}

pub loop-slot-preserved : goal.loop-slot-preserved
loop-slot-preserved c =
    let inv = c.loop-slot.invariant in
    let low : c.loop-slot.slot-index < c.args.to - c.args.from = omega (arith, length-segment c.args.order.now c.args.from c.args.to c.requires.ends.0 (search rules), c.loop-slot-test.true) in
    let slot = get_or (segment c.args.order.now c.args.from c.args.to) c.loop-slot.slot-index 0 in
    let on : get_or (live_of c.loop-slot.rank) slot false ≡ true =
    ap (λ (xs : List Bool). get_or xs slot false) inv.live ∙ ap (λ s. get_or (live_of c.args.rank.now) s false) (seg_of c.args.order.now c.args.from c.args.to c.loop-slot.slot-index low) ∙ c.requires.live (c.args.from + c.loop-slot.slot-index) (omega arith) (omega arith) in
    let small : slot < length (rank_in c.loop-slot.rank) = live_in c.loop-slot.rank slot on in
    elim c.if-marks-slot.branch [
      | then-marks-slot w ↦ rw (w.order-is, w.rank-is, w.low-is, w.high-is) (record {
        dealing = rw (rank_in-set c.loop-slot.rank slot c.loop-slot.high) (deal_ahead inv.dealing c.loop-slot-test.true small w.if-marks-slot.true);
        live = live_still c.loop-slot.rank slot c.loop-slot.high on ∙ inv.live;
      })
      | else-marks-slot w ↦ rw (w.order-is, w.rank-is, w.low-is, w.high-is) (record {
        dealing = rw (rank_in-set c.loop-slot.rank slot c.loop-slot.low) (deal_other inv.dealing c.loop-slot-test.true small w.if-marks-slot.false);
        live = live_still c.loop-slot.rank slot c.loop-slot.low on ∙ inv.live;
      })
    ]

pub returns : goal.returns
returns c =
    let end : c.args.from + c.loop-slot.slot-index ≡ c.args.to = omega (arith, length-segment c.args.order.now c.args.from c.args.to c.requires.ends.0 (search rules)) in
    let all = subst (λ (r : ℕ). Dealing c.args.marks.now c.args.order.now c.args.from c.args.to (rank_in c.args.rank.now) c.loop-slot.order (rank_in c.loop-slot.rank) c.loop-slot.low c.loop-slot.high r) end c.loop-slot.invariant.dealing in
    record { size = omega (arith, all.long); live = c.loop-slot.invariant.live; order = dealt_order all; here = dealt_here all; other = dealt_other all }
