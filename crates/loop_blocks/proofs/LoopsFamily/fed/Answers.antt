use Rattle.std.proofs.lemmas.Int.{to_z-of_z}
use Rattle.loop_blocks.proofs.LoopsFamily.fed.Goals as goal

pub returns : goal.returns
returns c = let made = simp (to_z-of_z, c.ranges.n) at c.fed.ensures in cc
