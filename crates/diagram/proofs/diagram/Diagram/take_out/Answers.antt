use Rattle.std.proofs.Common.{rules}
use Rattle.wiring.specs.View.{layout}
use Rattle.wiring.specs.Change.{Same as SameLayout, removed}
use Rattle.slots.specs.Ledger.{Same, emptied}
use Rattle.slots.specs.View.{ledger}
use Rattle.diagram.proofs.Agree.{agree_less}
use Rattle.diagram.proofs.diagram.Diagram.take_out.Goals as goal

pub invariant_of-self : goal.invariant_of-self
invariant_of-self g c =
    let d = c.args.self.now in
    let w = c.unwrap-self.result in
    let s = c.args.slot in
    let k : Same (ledger c.release.new.self) (emptied (ledger d.slots) s) = search rules in
    let l : SameLayout (layout w) (removed (layout d.wiring) s) = search rules in
    record { agree = agree_less (layout d.wiring) (layout w) s (ledger d.slots) (ledger c.release.new.self) l.order d.agree k.placed }
