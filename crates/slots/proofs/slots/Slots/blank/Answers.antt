use Rattle.std.proofs.Common.{ℕ, ◌+◌, ◌≤◌, Bool, false, List, get_or, replicate, sym, ap, ◌∙◌, subst, arith}
use Rattle.slots.specs.declared.slot.Slot.{Slot}
use Rattle.slots.specs.Tables.{placed_in, emptied_in, trues, Unused, Untouched, Young}
use Rattle.slots.proofs.Fresh.{all_one, trues_none, young_none, none_placed, none_emptied}
use Rattle.slots.proofs.slots.Slots.blank.Goals as goal

pub invariant_of-result : goal.invariant_of-result
invariant_of-result c =
    let slot : Slot = c.args.slot in
    let table : List Slot = replicate 256 slot in
    let placed = none_placed slot c.requires.placed c.requires.emptied in
    let emptied = none_emptied slot c.requires.placed c.requires.emptied in
    let tally : trues (placed_in table) + 0 ≤ 0 = omega (arith, ap trues placed, trues_none 256) in
    let unused : Unused (placed_in table) 0 = λ s l. ap (λ (xs : List Bool). get_or xs s false) placed ∙ all_one 256 false s in
    let untouched : Untouched (emptied_in table) 0 = λ s l. ap (λ (xs : List ℕ). get_or xs s 0) emptied ∙ all_one 256 0 s in
    let young : Young (placed_in table) (emptied_in table) = subst (λ (xs : List Bool). Young xs (emptied_in table)) (sym placed) (subst (Young (replicate 256 false)) (sym emptied) young_none) in
    record {
      span = omega arith;
      tally = tally;
      idle = λ i l. absurd (omega arith);
      been_used = λ i l. absurd (omega arith);
      apart = λ i j l. absurd (omega (arith, l.1));
      unused = unused;
      untouched = untouched;
      young = young;
      spare = λ i l. absurd (omega arith);
    }
