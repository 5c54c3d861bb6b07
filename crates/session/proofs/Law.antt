-- The law of sessions, of every family.
use Rattle.family.specs.Meaning.{Meaning}
use Rattle.diagram.specs.Calls.{Lawful}
use Rattle.session.specs.Begun.{LentLaw}
use Rattle.session.proofs.Solving.{solution}
use Rattle.session.proofs.Rings.{rings}
use Rattle.session.proofs.Alike.{confinement}

pub the_law : {R S : Type 0} (m : Meaning R S) → Lawful m → LentLaw m
the_law m lawful = record { rings = rings m lawful; solution = solution m lawful; confinement = confinement m lawful }
