-- The table of slots as a ledger, and the two steps of emptying one.
use Rattle.std.specs.Prelude.{◌≡◌, ℕ, ◌+◌, ◌<◌, false, ◌∷◌, length, get_or, ◌≢◌, slice_index, slice_index_or, slice_set}
use Rattle.slots.specs.declared.slots.Slots.{Slots}
use Rattle.slots.specs.Ledger.{Ledger}
use Rattle.slots.specs.Tables.{placed_in, emptied_in, trues, stack}

-- what the tables say
abbrev pub ledger : Slots → Ledger
ledger d = record {
  placed = λ s. slice_index_or (placed_in d.table) s false;
  generation = λ s. slice_index (emptied_in d.table) s + 1;
  freed = stack d.freed d.count;
  used = d.used;
}

-- the empty slot s can be put on the stack of those to use again
pub record Loose (d : Slots) (s : ℕ) : Type 0 where
  pub empty : get_or (placed_in d.table) s false ≡ false
  pub old : s < d.used
  pub apart : (i : ℕ) → i < d.count → slice_index d.freed i ≢ s
  pub room : trues (placed_in d.table) + d.count < d.used
  pub fit : get_or (emptied_in d.table) s 0 < 65535

-- e is d with the block at the slot s taken out, and that counted
pub record Cleared (d : Slots) (s : ℕ) (e : Slots) : Type 0 where
  pub placed : placed_in e.table ≡ slice_set (placed_in d.table) s false
  pub emptied : emptied_in e.table ≡ slice_set (emptied_in d.table) s (slice_index (emptied_in d.table) s + 1)
  pub freed : e.freed ≡ d.freed
  pub count : e.count ≡ d.count
  pub used : e.used ≡ d.used
  pub within : (s < length (placed_in d.table)) × (s < length (emptied_in d.table))
  pub loose : get_or (emptied_in e.table) s 0 < 65535 → Loose e s

-- e is d with the slot s on the stack
pub record Pushed (d : Slots) (s : ℕ) (e : Slots) : Type 0 where
  pub table : e.table ≡ d.table
  pub freed : stack e.freed e.count ≡ s ∷ stack d.freed d.count
  pub used : e.used ≡ d.used
