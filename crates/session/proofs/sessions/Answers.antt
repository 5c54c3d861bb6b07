use Rattle.family.specs.Meaning.{meaning}
use Rattle.session.proofs.Law.{the_law}
use Rattle.session.proofs.Longer.{longer}
use Rattle.session.proofs.sessions.Goals as goal

pub returns : goal.returns
returns g c = longer (meaning g.F.Family) (the_law (meaning g.F.Family) (record { few = g.met.F.Family.few; lateness = g.met.F.Family.lateness; kind = g.met.F.Family.kind }))
