use Rattle.std.proofs.Common.{refl, rules}
use Rattle.family.specs.Meaning.{meaning}
use Rattle.wiring.specs.View.{layout}
use Rattle.wiring.specs.Change.{Same as SameLayout, inserted}
use Rattle.slots.specs.Ledger.{Same, filled}
use Rattle.slots.specs.View.{ledger}
use Rattle.diagram.proofs.Agree.{agree_more}
use Rattle.diagram.proofs.Placed.{same_chart, ports_more, direct_more, source_more}
use Rattle.diagram.proofs.diagram.Diagram.put_in.Goals as goal

pub invariant_of-self : goal.invariant_of-self
invariant_of-self g c =
    let d = c.args.self.now in
    let w = c.unwrap-self.result in
    let s = c.args.slot in
    let x = c.shape_of.result in
    let k : Same (ledger c.take.new.self) (filled (ledger d.slots) s) = search rules in
    let l : SameLayout (layout w) (inserted (layout d.wiring) s x.ports x.late) = search rules in
    record { agree = agree_more (layout d.wiring) (layout w) s (ledger d.slots) (ledger c.take.new.self) l.order d.agree k.placed }

pub returns-clause-chart : goal.returns-clause-chart
returns-clause-chart g c =
    let d = c.args.self.now in
    let w = c.unwrap-self.result in
    let s = c.args.slot in
    let x = c.shape_of.result in
    let e = c.shape_of.ensures in
    let m = meaning g.F.Family in
    let few = g.met.F.Family.few in
    let k : Same (ledger c.take.new.self) (filled (ledger d.slots) s) = search rules in
    let l : SameLayout (layout w) (inserted (layout d.wiring) s x.ports x.late) = search rules in
    same_chart _ _ (record {
      placed = k.placed;
      generation = k.generation;
      ports = ports_more m few c.args.block (layout d.wiring) (layout w) s x.ports x.late l e.ports e.late;
      direct = direct_more m few c.args.block (layout d.wiring) (layout w) s x.ports x.late l e.ports e.late;
      source = source_more m few c.args.block (layout d.wiring) (layout w) s x.ports x.late l e.ports e.late;
      freed = k.freed;
      used = k.used;
      scan = refl;
      scans = refl;
    })
