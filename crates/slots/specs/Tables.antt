-- What the tables of slots keep.
use Rattle.std.specs.Prelude.{◌≡◌, ℕ, zero, suc, ◌<◌, ◌≤◌, Bool, true, false, cond, ◌≢◌, List, [], ◌∷◌, map, slice_index, slice_index_or}
use Rattle.slots.specs.declared.slot.Slot.{Slot}

-- of each slot: whether a block stands there
abbrev pub placed_in : List Slot → List Bool
placed_in table = map (λ s. s.placed) table

-- and how often it was emptied
abbrev pub emptied_in : List Slot → List ℕ
emptied_in table = map (λ s. s.emptied) table

-- how many are true
abbrev pub trues : List Bool → ℕ
trues [] = 0
trues (b ∷ bs) = cond b (suc (trues bs)) (trues bs)

-- the first n of a stack, the last one first
abbrev pub stack : List ℕ → ℕ → List ℕ
stack freed zero = []
stack freed (suc n) = slice_index freed n ∷ stack freed n

-- the slots to use again are empty,
abbrev pub Idle : List Bool → List ℕ → ℕ → Type 0
Idle placed freed count = (i : ℕ) → i < count → slice_index_or placed (slice_index freed i) false ≡ false

-- have been used,
abbrev pub Old : List ℕ → ℕ → ℕ → Type 0
Old freed count used = (i : ℕ) → i < count → slice_index freed i < used

-- and are all different
abbrev pub Apart : List ℕ → ℕ → Type 0
Apart freed count = (i j : ℕ) → (i < j) × (j < count) → slice_index freed i ≢ slice_index freed j

-- no block stands at a slot that was never used,
abbrev pub Unused : List Bool → ℕ → Type 0
Unused placed used = (s : ℕ) → used ≤ s → slice_index_or placed s false ≡ false

-- and it was never emptied
abbrev pub Untouched : List ℕ → ℕ → Type 0
Untouched emptied used = (s : ℕ) → used ≤ s → slice_index emptied s ≡ 0

-- a slot with a block is not worn out,
abbrev pub Young : List Bool → List ℕ → Type 0
Young placed emptied = (s : ℕ) → slice_index_or placed s false ≡ true → slice_index emptied s < 65535

-- nor is one to use again
abbrev pub Spare : List ℕ → List ℕ → ℕ → Type 0
Spare emptied freed count = (i : ℕ) → i < count → slice_index emptied (slice_index freed i) < 65535
