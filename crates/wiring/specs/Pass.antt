-- What the two passes of a wire compute, at tables.
use Rattle.std.specs.Prelude.{◌≡◌, ℕ, ◌<◌, Bool, true, false, cond, not, List, ◌++◌, take, drop, Some, None, Decides, filter, slice_index, slice_index_or, slice_range}
use Rattle.wiring.specs.declared.block.Block.{Block}
use Rattle.wiring.specs.Layout.{Layout, Direct, is_placed}
use Rattle.wiring.specs.Reach.{Reaches}

-- some direct port of the block is fed from a marked slot
abbrev pub Fed : Block → List Bool → Type 0
Fed b marks = (p : ℕ) × (s : ℕ) × (slice_index_or b.source p None ≡ Some s) × (p < b.ports) × (slice_index_or b.late p false ≡ false) × (slice_index_or marks s false ≡ true)

-- the marks are those of the slots of rank below r that direct wires reach from the target
abbrev pub Marks : Layout → List ℕ → ℕ → ℕ → List Bool → Type 0
Marks l rank target r marks = (s : ℕ) → Decides (slice_index_or marks s false) (Reaches (Direct l) target s × (slice_index rank s < r))

-- whether the slot's mark is `which`
abbrev pub is_marked : List Bool → Bool → ℕ → Bool
is_marked marks which s = cond which (slice_index_or marks s false) (not (slice_index_or marks s false))

-- the slots whose mark is `which`, in their order
abbrev pub marked : List Bool → Bool → List ℕ → List ℕ
marked marks which xs = filter (is_marked marks which) xs

-- the slots of the ranks from `from` to before `to`
abbrev pub segment : List ℕ → ℕ → ℕ → List ℕ
segment order from to = slice_range order from to

-- the order with these ranks dealt out again: first to the unmarked, then to the marked
abbrev pub redealt : List ℕ → List Bool → ℕ → ℕ → List ℕ
redealt order marks from to = take from order ++ (marked marks false (segment order from to) ++ (marked marks true (segment order from to) ++ drop to order))

-- the wire from s into the port p of t has none of the faults but a ring
pub record Ready (l : Layout) (t p s : ℕ) : Type 0 where
  pub target : is_placed l t ≡ true
  pub source : is_placed l s ≡ true
  pub port : p < l.ports t
  pub free : l.source t p ≡ None
