use Rattle.std.proofs.Common.{◌≡◌, Some, None, arith}
use Rattle.std.proofs.lemmas.Bool.{cond-true}
use Rattle.wiring.specs.Layout.{is_placed, rank_of}
use Rattle.wiring.specs.View.{layout}
use Rattle.wiring.proofs.Whole.{alive, rank_at}
use Rattle.wiring.proofs.wiring.Wiring.rank_at.Goals as goal

pub returns-clause-below : goal.returns-clause-below
returns-clause-below c =
    let w = c.args.self.now in
    let s = c.args.slot in
    let is : c.unwrap.result ≡ rank_of (layout w) s = cc (cond-true (is_placed (layout w) s) (Some (rank_of (layout w) s)) None c.requires, c.rank.ensures, c.unwrap.ensures) in
    omega (arith, is, rank_at w s c.requires, (w.ranked s (alive w s c.requires)).0)
