use Rattle.std.proofs.Common.{[], refl}
use Rattle.family.specs.Meaning.{meaning}
use Rattle.diagram_tests.proofs.Calls.{keeps}
use Rattle.diagram_tests.proofs.table.made.Goals as goal

pub returns-in-Place : goal.returns-in-Place
returns-in-Place g c = keeps (meaning g.F.Family) _ _ _ _ (λ h. refl) c.place.ensures

pub returns-in-Remove : goal.returns-in-Remove
returns-in-Remove g c = keeps (meaning g.F.Family) _ _ _ _ (λ h. refl) (c.remove.ensures [] [])

pub returns-in-Wire : goal.returns-in-Wire
returns-in-Wire g c = keeps (meaning g.F.Family) _ _ _ _ (λ h. refl) (c.wire.ensures [] [])

pub returns-in-Cut : goal.returns-in-Cut
returns-in-Cut g c = keeps (meaning g.F.Family) _ _ _ _ (λ h. refl) (c.cut.ensures [] [])
