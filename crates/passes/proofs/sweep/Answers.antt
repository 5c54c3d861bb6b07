use Rattle.std.proofs.Common.{ℕ, ◌<◌, List, length, get_or, ap, arith}
use Rattle.family.specs.Meaning.{meaning}
use Rattle.wiring.specs.View.{layout}
use Rattle.passes.proofs.Sweeping.{sweep_more, sweep_all}
use Rattle.passes.proofs.sweep.Goals as goal

pub loop-slot-preserved : goal.loop-slot-preserved
loop-slot-preserved g c =
    let order = c.order-slot-items.result.now in
    let e = c.order-slot-items.ensures.order in
    let i = c.loop-slot.slot-index in
    let slot = get_or order i 0 in
    let small : slot < 256 = omega (arith, (c.type_inv.slot-items i).fits) in
    sweep_more (meaning g.F.Family) (layout c.args.wiring.now) c.args.records.now.entries.now c.args.signals.now c.loop-slot.signals i slot c.at.result c.output_at-made.result
    (ap (λ (xs : List ℕ). get_or xs i 0) e) (omega (arith, ap length e)) (omega (arith, c.loop-slot.invariant.size, c.requires))
    c.at.ensures.entry c.output_at-made.ensures c.loop-slot.invariant

pub returns : goal.returns
returns g c =
    sweep_all (meaning g.F.Family) (layout c.args.wiring.now) c.args.records.now.entries.now c.args.signals.now c.loop-slot.signals c.loop-slot.slot-index
    (omega (arith, ap length c.order-slot-items.ensures.order)) c.loop-slot.invariant
