use Rattle.std.proofs.Common.{◌≡◌}
use Rattle.wiring.specs.Sound.{live_of, rank_in}
use Rattle.wiring.proofs.Ranking.{Ranking}
use Rattle.wiring.proofs.deal.close_up.Given as goal

abbrev pub invariant-loop-i : goal.invariant-loop-i
invariant-loop-i l = record {
  ranking : Ranking l.from l.slot-items (rank_in l.initial.rank) (rank_in l.rank) l.i;
  live : live_of l.rank ≡ live_of l.initial.rank;
}
