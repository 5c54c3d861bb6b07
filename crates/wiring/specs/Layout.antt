-- A wiring as its reader sees it, and the words for it.
use Rattle.std.specs.Prelude.{◌≡◌, ℕ, suc, ◌<◌, Bool, false, cond, ◌||◌, List, [], ◌∷◌, get_or, take, Some, None, Option, ◌==◌, slice_index_or}
use Rattle.wiring.specs.declared.block.Block.{Block}

-- the blocks of a diagram and their wires
pub record Layout : Type 0 where
  pub order : List ℕ  -- the slots where a block stands, by rank
  pub ports : ℕ → ℕ  -- of each slot: how many ports its block has
  pub late : ℕ → ℕ → Bool  -- whether its port p is late
  pub source : ℕ → ℕ → Option ℕ  -- the slot that feeds its port p

-- where s stands in a list, or the list's length
abbrev pub index : List ℕ → ℕ → ℕ
index [] s = 0
index (x ∷ xs) s = cond (x == s) 0 (suc (index xs s))

-- whether s stands in a list
abbrev pub member : List ℕ → ℕ → Bool
member [] s = false
member (x ∷ xs) s = x == s || member xs s

-- the rank of the block at s
abbrev pub rank_of : Layout → ℕ → ℕ
rank_of l s = index l.order s

-- whether a block stands at s
abbrev pub is_placed : Layout → ℕ → Bool
is_placed l s = member l.order s

-- a wire from s to t
abbrev pub WireTo : Layout → ℕ → ℕ → Type 0
WireTo l s t = (p : ℕ) × (l.source t p ≡ Some s)

-- a direct wire from s to t: into a port of t that is not late
abbrev pub Direct : Layout → ℕ → ℕ → Type 0
Direct l s t = (p : ℕ) × (l.source t p ≡ Some s) × (p < l.ports t) × (l.late t p ≡ false)

-- a slot with no block
abbrev pub no_block : Block
no_block = record { ports = 0; late = []; source = [] }

-- how many ports the slot t has in a table of blocks
abbrev pub ports_at : List Block → ℕ → ℕ
ports_at blocks t = (get_or blocks t no_block).ports

-- whether its port p is late
abbrev pub late_at : List Block → ℕ → ℕ → Bool
late_at blocks t p = slice_index_or (get_or blocks t no_block).late p false

-- what feeds its port p
abbrev pub source_at : List Block → ℕ → ℕ → Option ℕ
source_at blocks t p = slice_index_or (get_or blocks t no_block).source p None

-- the layout that tables hold, where the first `count` of the order are in use
abbrev pub layout_of : ℕ → List ℕ → List Block → Layout
layout_of count order blocks = record { order = take count order; ports = ports_at blocks; late = late_at blocks; source = source_at blocks }
