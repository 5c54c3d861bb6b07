use Rattle.std.proofs.Common.{◌≡◌, sym, subst, w32, SFits, rules}
use Rattle.std.proofs.lemmas.Int.{to_z-of_z}
use Rattle.loop_blocks.specs.Loops.{output}
use Rattle.loop_blocks.specs.Steady.{RootExact}
use Rattle.loop_blocks.proofs.Squares.{root_exact}
use Rattle.loop_blocks.proofs.LoopsFamily.output.Goals as goal

pub returns-clause-root : goal.returns-clause-root
returns-clause-root c =
    let e : c.output.result ≡ output c.args.block c.args.inputs = search rules in
    let f : SFits w32 c.output.result = search rules in
    simp to_z-of_z (subst (RootExact c.args.block c.args.inputs) (sym e) (root_exact c.args.block c.args.inputs))
