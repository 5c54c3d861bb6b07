use Rattle.std.proofs.Common.{rules, tests, ◌≡◌, true, false}
use Rattle.std.proofs.lemmas.Iterator.{YieldsList-from_slice, first_from_find}
use Rattle.diagram.specs.View.{chart}
use Rattle.runner.proofs.Found.{used, first_entry}
use Rattle.runner.proofs.names.Names.lowest.Goals as goal

pub returns : goal.returns
returns g c =
    let d = chart c.args.diagram.now in
    let n = c.args.name.now in
    first_entry d c.args.self.now n c.find.result (search rules)
    (first_from_find c.find.new.self _ c.find.result (λ e. used d n e ≡ true) (λ e. used d n e ≡ false) c.find.ensures.ran (YieldsList-from_slice c.args.self.now.entries (cc)) (λ x q k. search (rules, tests)) (λ x q k. search (rules, tests)))
