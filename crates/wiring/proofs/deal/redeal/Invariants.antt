use Rattle.std.proofs.Common.{◌≡◌, ◌+◌}
use Rattle.wiring.specs.Sound.{live_of, rank_in}
use Rattle.wiring.proofs.Deals.{Dealing}
use Rattle.wiring.proofs.deal.redeal.Given as goal

abbrev pub invariant-loop-slot : goal.invariant-loop-slot
invariant-loop-slot l = record {
  dealing : Dealing l.marks l.initial.order l.from l.to (rank_in l.initial.rank) l.order (rank_in l.rank) l.low l.high (l.from + l.slot-index);
  live : live_of l.rank ≡ live_of l.initial.rank;
}
