use Rattle.std.proofs.Common.{refl, rules}
use Rattle.std.proofs.lemmas.Slice.{overwrites}
use Rattle.loop_file.proofs.put.put.Goals as goal

pub returns : goal.returns
returns c = record { place = refl; front = search (rules, overwrites); back = search (rules, overwrites); within = search (rules, overwrites) }
