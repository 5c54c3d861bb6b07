use Rattle.std.proofs.Common.{Some, rules}
use Rattle.wiring.specs.Change.{rewired}
use Rattle.wiring.specs.Layout.{Direct}
use Rattle.wiring.specs.View.{layout}
use Rattle.wiring.proofs.Rings.{ring_closed}
use Rattle.wiring.proofs.Wires.{direct_still, direct_new}
use Rattle.wiring.proofs.wiring.Wiring.ahead.Goals as goal

pub returns : goal.returns
returns c =
    let l = layout c.args.self.now in
    let t = c.args.target in
    let s = c.args.source in
    record {
      marks = search rules;
      others = search rules;
      ring = λ p ready direct on. ring_closed (Direct l) (Direct (rewired l t p (Some s))) (direct_still l t p (Some s) ready.free) s t ((c.pass.ensures.marks s).0 on).0 (direct_new l t p s ready.port direct);
    }
