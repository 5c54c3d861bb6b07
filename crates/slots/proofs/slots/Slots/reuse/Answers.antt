use Rattle.std.proofs.Common.{ℕ, ◌+◌, ◌-◌, ◌<◌, ◌≤◌, true, false, List, length, get_or, ap, arith, rules}
use Rattle.slots.specs.Tables.{placed_in, emptied_in, trues, Idle, Unused, Untouched, Young, Spare}
use Rattle.slots.proofs.Table.{in_placed, with_block, placed_with, emptied_with}
use Rattle.slots.proofs.Trues.{trues_on, stack_fewer}
use Rattle.slots.proofs.Taking.{written, young_more, unused_more, idle_less}
use Rattle.slots.proofs.slots.Slots.reuse.Goals as goal

pub invariant_of-self : goal.invariant_of-self
invariant_of-self c =
    let d = c.args.self.now in
    let top = d.count - 1 in
    let slot = get_or d.freed top 0 in
    let table = with_block d.table slot in
    let placed = placed_with d.table slot in
    let emptied = emptied_with d.table slot in
    let last : top < d.count = omega arith in
    let low = d.been_used top last in
    let l : slot < length (placed_in d.table) = in_placed d.table slot (search rules) in
    let tally : trues (placed_in table) + top ≤ d.used = rw placed (omega (arith, trues_on (placed_in d.table) slot l (d.idle top last), d.tally)) in
    let idle : Idle (placed_in table) d.freed top = rw placed (idle_less (placed_in d.table) d.freed d.count c.requires l d.apart d.idle) in
    let unused : Unused (placed_in table) d.used = rw placed (unused_more (placed_in d.table) slot l d.used d.used (omega arith) low d.unused) in
    let untouched : Untouched (emptied_in table) d.used = rw emptied d.untouched in
    let young : Young (placed_in table) (emptied_in table) = rw (placed, emptied) (young_more (placed_in d.table) slot l (emptied_in d.table) (d.spare top last) d.young) in
    let spare : Spare (emptied_in table) d.freed top = rw emptied (λ i h. d.spare i (omega arith)) in
    record {
      span = d.span;
      tally = tally;
      idle = idle;
      been_used = λ i h. d.been_used i (omega arith);
      apart = λ i j h. d.apart i j (h.0, omega (arith, h.1));
      unused = unused;
      untouched = untouched;
      young = young;
      spare = spare;
    }

pub returns-clause-change : goal.returns-clause-change
returns-clause-change c =
    let d = c.args.self.now in
    let slot = get_or d.freed (d.count - 1) 0 in
    let l : slot < length (placed_in d.table) = in_placed d.table slot (search rules) in
    let rest = stack_fewer d.freed d.count d.used c.requires in
    record { placed = λ t. rw (placed_with d.table slot) (written (placed_in d.table) slot true false l t); generation = λ t. ap (λ (xs : List ℕ). get_or xs t 0 + 1) (emptied_with d.table slot); freed = rest.0; used = rest.1 }
