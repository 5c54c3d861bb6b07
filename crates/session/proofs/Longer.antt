-- A session on rows that are long by their type is a session on lent rows, so the law of these is the law of those.
use Rattle.std.proofs.Common.{List}
use Rattle.family.specs.Meaning.{Meaning}
use Rattle.diagram.specs.Calls.{Event}
use Rattle.session.specs.World.{World}
use Rattle.session.specs.Begun as begun
use Rattle.session.specs.Law as law

module _ {R S : Type 0} (m : Meaning R S) where
  -- a session on long rows is one on lent rows
  session : {es : List (Event S)} {w : World R S} → law.Session m es w → begun.LentSession m es w.lent
  session (law.start {w = w} e) = begun.start e w.long
  session (law.then e s d t) = begun.then e (session s) d t

  -- so the law of these is the law of those
  pub longer : begun.LentLaw m → law.SessionLaw m
  longer k = record {
    rings = λ es e w s. k.rings es e w.lent (session s);
    solution = λ es e w s. k.solution es e w.lent (session s);
    confinement = λ h es fs w v s t. k.confinement h es fs w.lent v.lent (session s) (session t);
  }
