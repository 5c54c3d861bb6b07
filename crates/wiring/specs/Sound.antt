-- What a wiring's tables keep: the ranks permute the placed slots, and the wires go between placed slots and up the ranks.
use Rattle.std.specs.Prelude.{◌≡◌, ℕ, ◌<◌, ◌≤◌, Bool, true, false, List, length, is_some, Some, Option, map, slice_index, slice_index_or, unwrap_or}
use Rattle.wiring.specs.Layout.{Layout, WireTo, Direct}

-- of each slot: whether it has a rank, which is that a block stands there
abbrev pub live_of : List (Option ℕ) → List Bool
live_of ranks = map is_some ranks

-- the rank, 0 where there is none
abbrev pub rank_in : List (Option ℕ) → List ℕ
rank_in ranks = map (λ r. unwrap_or r 0) ranks

-- the tables have an entry for each slot
abbrev pub Sized : List ℕ → List Bool → Type 0
Sized order live = (length order ≡ 256) × (length live ≡ 256)

-- each rank below the count is that of a live slot
abbrev pub Placed : ℕ → List ℕ → List ℕ → List Bool → Type 0
Placed count order rank live = (r : ℕ) → r < count → (slice_index_or live (slice_index order r) false ≡ true) × (slice_index rank (slice_index order r) ≡ r)

-- each live slot has a rank below the count, and stands there
abbrev pub Ranked : ℕ → List ℕ → List ℕ → List Bool → Type 0
Ranked count order rank live = (s : ℕ) → slice_index_or live s false ≡ true → (slice_index rank s < count) × (slice_index order (slice_index rank s) ≡ s)

-- a block has at most three ports
abbrev pub Few : Layout → Type 0
Few l = (t : ℕ) → l.ports t ≤ 3

-- a port that is wired
abbrev pub Taken : Layout → ℕ → ℕ → Type 0
Taken l t p = (s : ℕ) × (l.source t p ≡ Some s)

-- is one of its block's ports
abbrev pub Fits : Layout → Type 0
Fits l = (t p : ℕ) → Taken l t p → p < l.ports t

-- every wire comes from a live slot
abbrev pub Heads : List Bool → Layout → Type 0
Heads live l = (s t : ℕ) → WireTo l s t → slice_index_or live s false ≡ true

-- and goes to a live slot
abbrev pub Tails : List Bool → Layout → Type 0
Tails live l = (s t : ℕ) → WireTo l s t → slice_index_or live t false ≡ true

-- every direct wire ascends
abbrev pub Ascends : List ℕ → Layout → Type 0
Ascends rank l = (s t : ℕ) → Direct l s t → slice_index rank s < slice_index rank t

-- all of this
pub record Sound (count : ℕ) (order rank : List ℕ) (live : List Bool) (l : Layout) : Type 0 where
  pub placed : Placed count order rank live
  pub ranked : Ranked count order rank live
  pub few : Few l
  pub fits : Fits l
  pub heads : Heads live l
  pub tails : Tails live l
  pub ascends : Ascends rank l
