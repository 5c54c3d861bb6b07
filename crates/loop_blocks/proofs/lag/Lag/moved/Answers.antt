use Rattle.std.proofs.Common.{◌≡◌, ◌≤◌, ◌*ℤ◌, nat_abs, arith, rules}
use Rattle.std.proofs.lemmas.Int.{ints}
use Rattle.loop_blocks.specs.Whole.{thousandth}
use Rattle.loop_blocks.specs.Lag.{gap, lag_next}
use Rattle.loop_blocks.specs.Lagging.{stays}
use Rattle.loop_blocks.proofs.lag.Lag.moved.Goals as goal

pub overflow_add-result : goal.overflow_add-result
overflow_add-result c = omega (arith, ints)

pub returns : goal.returns
returns c =
    let k = c.args.self.block in
    let step : c.thousandth.result ≡ thousandth (k.params.p *ℤ gap c.args.a.n k.u) = search rules in
    let stay : nat_abs (lag_next k.params.p c.args.a.n k.u) ≤ 1000000000 = stays k.params.p c.args.a.n k.u c.args.self.ranges.p_low c.args.self.ranges.p_high c.args.a.within c.args.self.ranges.u_range in
    record { value = omega (arith, ints); bound = omega (arith, ints) }
