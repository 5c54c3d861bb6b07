use Rattle.std.proofs.Common.{◌≡◌, ◌+◌, ◌<◌, ◌≤◌, false, length, get_or, set, refl, ap, ◌∙◌, arith, rules}
use Rattle.std.proofs.lemmas.List.{get_or-set_same}
use Rattle.slots.specs.Tables.{placed_in, emptied_in, trues, Idle, Unused, Untouched, Young, Spare}
use Rattle.slots.proofs.Table.{placed_in-set, emptied_in-set, blank, emptied_at, in_placed, in_emptied}
use Rattle.slots.proofs.Trues.{trues_off}
use Rattle.slots.proofs.Leaving.{was_used, empty_still, other, young_less, spare_less, untouched_less}
use Rattle.slots.proofs.slots.Slots.clear.Goals as goal

pub invariant_of-self : goal.invariant_of-self
invariant_of-self c =
    let d = c.args.self.now in
    let s = c.args.slot in
    let n = (get_or d.table s blank).emptied + 1 in
    let table = set d.table s (record { placed = false; emptied = n }) in
    let placed : placed_in table ≡ set (placed_in d.table) s false = placed_in-set d.table s _ in
    let emptied : emptied_in table ≡ set (emptied_in d.table) s n = emptied_in-set d.table s _ in
    let l : s < length (placed_in d.table) = in_placed d.table s (search rules) in
    let tally : trues (placed_in table) + d.count ≤ d.used = rw placed (omega (arith, trues_off (placed_in d.table) s c.requires, d.tally)) in
    let idle : Idle (placed_in table) d.freed d.count = rw placed (λ i h. empty_still (placed_in d.table) s c.requires l (get_or d.freed i 0) (d.idle i h)) in
    let unused : Unused (placed_in table) d.used = rw placed (λ t h. empty_still (placed_in d.table) s c.requires l t (d.unused t h)) in
    let untouched : Untouched (emptied_in table) d.used = rw emptied (untouched_less (placed_in d.table) s c.requires l (emptied_in d.table) d.used n d.unused d.untouched) in
    let young : Young (placed_in table) (emptied_in table) = rw (placed, emptied) (young_less (placed_in d.table) s c.requires l (emptied_in d.table) n d.young) in
    let spare : Spare (emptied_in table) d.freed d.count = rw emptied (spare_less (placed_in d.table) s c.requires l (emptied_in d.table) d.freed d.count n d.idle d.spare) in
    record { span = d.span; tally = tally; idle = idle; been_used = d.been_used; apart = d.apart; unused = unused; untouched = untouched; young = young; spare = spare }

pub returns : goal.returns
returns c =
    let d = c.args.self.now in
    let s = c.args.slot in
    let n = (get_or d.table s blank).emptied + 1 in
    let placed = placed_in-set d.table s (record { placed = false; emptied = n }) in
    let emptied = emptied_in-set d.table s (record { placed = false; emptied = n }) in
    let l : s < length (placed_in d.table) = in_placed d.table s (search rules) in
    let room : trues (set (placed_in d.table) s false) + d.count < d.used = omega (arith, trues_off (placed_in d.table) s c.requires, d.tally) in
    record {
      placed = placed;
      emptied = emptied ∙ ap (λ k. set (emptied_in d.table) s (k + 1)) (emptied_at d.table s);
      freed = refl;
      count = refl;
      used = refl;
      within = (l, in_emptied d.table s (search rules));
      loose = λ fit. record {
        empty = rw placed (get_or-set_same (placed_in d.table) s false false l);
        old = was_used (placed_in d.table) d.used s d.unused c.requires;
        apart = other (placed_in d.table) s c.requires l d.freed d.count d.idle;
        room = rw placed room;
        fit = fit;
      };
    }
