use Rattle.family.specs.Meaning.{meaning}
use Rattle.diagram.specs.Calls.{edit, feed}
use Rattle.std.proofs.lemmas.Int.{to_z-of_z}
use Rattle.runner.proofs.Tries.{one_name}
use Rattle.runner.proofs.lines.feed.Goals as goal

pub returns : goal.returns
returns g c signals said room = one_name (meaning g.F.Family) (λ _. 0) _ c.feed.result _ _ _ _ c.in_ok-handle.ensures.0 c.in_ok-handle.ensures.1 (λ h. edit h (feed c.args.number)) (simp (to_z-of_z, c.ranges.number) at (c.feed.ensures signals))
