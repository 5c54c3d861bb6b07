use Rattle.std.proofs.Common.{ℕ, ◌<◌, List, length, get_or, refl, ap, arith}
use Rattle.std.proofs.lemmas.Option.{slice_get_read}
use Rattle.family.specs.Meaning.{meaning}
use Rattle.wiring.specs.View.{layout}
use Rattle.passes.proofs.Advancing.{advance_more}
use Rattle.passes.proofs.advance.Goals as goal

pub loop-slot-preserved : goal.loop-slot-preserved
loop-slot-preserved g c =
    let order = c.order-slot-items.result.now in
    let e = c.order-slot-items.ensures.order in
    let i = c.loop-slot.slot-index in
    let slot = get_or order i 0 in
    let cur = c.loop-slot.records in
    let r = c.index-records-slot.result in
    let small : slot < 256 = omega (arith, (c.type_inv.slot-items i).fits) in
    let within : slot < length cur = omega (arith, c.loop-slot.invariant.size, c.requires) in
    advance_more (meaning g.F.Family) (layout c.args.wiring.now) c.args.signals.now.entries.now c.args.records.now cur i slot r c.next_at-next.result
    (ap (λ (xs : List ℕ). get_or xs i 0) e) (omega (arith, ap length e)) within c.order-slot-items.ensures.lawful.apart
    (slice_get_read cur (length cur) slot r refl within c.index-records-slot.is) c.next_at-next.ensures c.loop-slot.invariant
