use Rattle.std.proofs.Common.{replicate, refl, arith}
use Rattle.wiring.proofs.Insert.{empty_sound, no_ports, no_late, no_source}
use Rattle.wiring.proofs.wiring.Wiring.bare.Goals as goal

pub invariant_of-result : goal.invariant_of-result
invariant_of-result c =
    let x = empty_sound c.args.none c.requires.ports c.requires.late c.requires.source (replicate 256 0) (replicate 256 0) in
    record { room = omega arith; sized = (refl, refl); placed = x.placed; ranked = x.ranked; few = x.few; fits = x.fits; heads = x.heads; tails = x.tails; ascends = x.ascends }

pub returns : goal.returns
returns c = record {
  order = refl;
  ports = no_ports c.args.none c.requires.ports c.requires.late c.requires.source;
  late = no_late c.args.none c.requires.ports c.requires.late c.requires.source;
  source = no_source c.args.none c.requires.ports c.requires.late c.requires.source;
}
