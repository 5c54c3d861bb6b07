-- A table of slots, one entry changed: where blocks stand, and how often each slot was emptied.
use Rattle.std.proofs.Common.{◌≡◌, ℕ, ◌<◌, true, false, List, length, get_or, set, sym, refl, arith}
use Rattle.std.proofs.lemmas.List.{map-set, length-map}
use Rattle.std.proofs.Math.Seq.{map-set_same}
use Rattle.std.proofs.Math.ListN.{get_or-map}
use Rattle.slots.specs.declared.slot.Slot.{Slot}
use Rattle.slots.specs.Tables.{placed_in, emptied_in}

pub placed_in-set : (table : List Slot) (s : ℕ) (x : Slot) → placed_in (set table s x) ≡ set (placed_in table) s x.placed
placed_in-set table s x = map-set (λ (y : Slot). y.placed) table s x

pub emptied_in-set : (table : List Slot) (s : ℕ) (x : Slot) → emptied_in (set table s x) ≡ set (emptied_in table) s x.emptied
emptied_in-set table s x = map-set (λ (y : Slot). y.emptied) table s x

-- an entry that was emptied as often as before
pub emptied_in-same : (table : List Slot) (s : ℕ) (x d : Slot) → x.emptied ≡ (get_or table s d).emptied → emptied_in (set table s x) ≡ emptied_in table
emptied_in-same table s x d e = map-set_same (λ (y : Slot). y.emptied) table s x d e

-- no block, and never emptied
abbrev pub blank : Slot
blank = record { placed = false; emptied = 0 }

-- how often a slot of the table was emptied
pub emptied_at : (table : List Slot) (s : ℕ) → (get_or table s blank).emptied ≡ get_or (emptied_in table) s 0
emptied_at table s = sym (get_or-map (λ (y : Slot). y.emptied) table s blank)

-- a slot of the table is one of both lists
pub in_placed : (table : List Slot) (s : ℕ) → s < length table → s < length (placed_in table)
in_placed table s l = omega (arith, length-map table (λ (y : Slot). y.placed))

pub in_emptied : (table : List Slot) (s : ℕ) → s < length table → s < length (emptied_in table)
in_emptied table s l = omega (arith, length-map table (λ (y : Slot). y.emptied))

-- a table with a block put at a slot
abbrev pub with_block : List Slot → ℕ → List Slot
with_block table s = set table s (record { placed = true; emptied = (get_or table s blank).emptied })

pub placed_with : (table : List Slot) (s : ℕ) → placed_in (with_block table s) ≡ set (placed_in table) s true
placed_with table s = placed_in-set table s _

pub emptied_with : (table : List Slot) (s : ℕ) → emptied_in (with_block table s) ≡ emptied_in table
emptied_with table s = emptied_in-same table s _ blank refl
