-- What holds of every wiring's layout.
use Rattle.std.specs.Prelude.{◌≡◌, ℕ, ◌<◌, ◌≤◌, true, length, Some, ◌≢◌, slice_index}
use Rattle.wiring.specs.Layout.{Layout, Direct, WireTo, rank_of, is_placed}
use Rattle.wiring.specs.Ring.{HasRing}

pub record Lawful (l : Layout) : Type 0 where
  -- no slot stands twice in the order
  pub apart : (i j : ℕ) → i < j → j < length l.order → slice_index l.order i ≢ slice_index l.order j
  pub small : (i : ℕ) → i < length l.order → slice_index l.order i < 256
  -- a block has at most three ports, and wires only at these
  pub few : (t : ℕ) → l.ports t ≤ 3
  pub fits : (s t p : ℕ) → l.source t p ≡ Some s → p < l.ports t
  -- a wire goes between blocks that are placed, and a direct one to a higher rank
  pub heads : (s t : ℕ) → WireTo l s t → is_placed l s ≡ true
  pub tails : (s t : ℕ) → WireTo l s t → is_placed l t ≡ true
  pub ascends : (s t : ℕ) → Direct l s t → rank_of l s < rank_of l t
  pub free : HasRing (Direct l) → ⊥
