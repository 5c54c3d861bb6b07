use Rattle.std.proofs.Common.{◌<◌, length, refl, rules}
use Rattle.slots.proofs.Leaving.{stack_more}
use Rattle.slots.proofs.slots.Slots.push.Goals as goal

pub returns : goal.returns
returns c =
    let d = c.args.self.now in
    let l : d.count < length d.freed = search rules in
    record { table = refl; freed = stack_more d.freed d.count c.args.slot l; used = refl }
