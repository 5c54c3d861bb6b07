use Rattle.std.proofs.Common.{ℕ, ◌+◌, ◌<◌, ◌≤◌, true, false, List, length, get_or, ap, arith, rules}
use Rattle.slots.specs.Tables.{placed_in, emptied_in, trues, Unused, Untouched, Young}
use Rattle.slots.proofs.Table.{in_placed, with_block, placed_with, emptied_with}
use Rattle.slots.proofs.Trues.{trues_on}
use Rattle.slots.proofs.Taking.{written, young_more, unused_more}
use Rattle.slots.proofs.slots.Slots.start.Goals as goal

pub invariant_of-self : goal.invariant_of-self
invariant_of-self c =
    let d = c.args.self.now in
    let slot = d.used in
    let table = with_block d.table slot in
    let placed = placed_with d.table slot in
    let emptied = emptied_with d.table slot in
    let l : slot < length (placed_in d.table) = in_placed d.table slot (search rules) in
    let same : slot ≤ slot = omega arith in
    let fit : get_or (emptied_in d.table) slot 0 < 65535 = omega (arith, d.untouched slot same) in
    let tally : trues (placed_in table) + d.count ≤ slot + 1 = rw placed (omega (arith, trues_on (placed_in d.table) slot l (d.unused slot same), d.tally)) in
    let unused : Unused (placed_in table) (slot + 1) = rw placed (unused_more (placed_in d.table) slot l slot (slot + 1) (omega arith) (omega arith) d.unused) in
    let untouched : Untouched (emptied_in table) (slot + 1) = rw emptied (λ s h. d.untouched s (omega arith)) in
    let young : Young (placed_in table) (emptied_in table) = rw (placed, emptied) (young_more (placed_in d.table) slot l (emptied_in d.table) fit d.young) in
    record {
      span = omega (arith, c.requires.room);
      tally = tally;
      idle = λ i h. absurd (omega (arith, c.requires.none));
      been_used = λ i h. absurd (omega (arith, c.requires.none));
      apart = λ i j h. absurd (omega (arith, c.requires.none, h.1));
      unused = unused;
      untouched = untouched;
      young = young;
      spare = λ i h. absurd (omega (arith, c.requires.none));
    }

pub returns-clause-change : goal.returns-clause-change
returns-clause-change c =
    let d = c.args.self.now in
    let l : d.used < length (placed_in d.table) = in_placed d.table d.used (search rules) in
    record { placed = λ t. rw (placed_with d.table d.used) (written (placed_in d.table) d.used true false l t); generation = λ t. ap (λ (xs : List ℕ). get_or xs t 0 + 1) (emptied_with d.table d.used); freed = search rules; used = search rules }
