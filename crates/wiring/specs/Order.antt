-- The order after a wire.
use Rattle.std.specs.Prelude.{◌≡◌, ℕ, ◌+◌, ◌-◌, ◌≤◌, false, List, [], ◌∷◌, ◌++◌, take, drop, Some}
use Rattle.wiring.specs.Change.{rewired}
use Rattle.wiring.specs.Layout.{Layout, Direct, rank_of}
use Rattle.wiring.specs.Reach.{Reaches}

-- s is ahead: direct wires reach it from the target, and its rank is at most the source's
abbrev pub Ahead : Layout → ℕ → ℕ → ℕ → Type 0
Ahead l target source s = Reaches (Direct l) target s × (rank_of l s ≤ rank_of l source)

-- xs parted into those that are not P and those that are, each in their old order
pub data Parted (P : ℕ → Type 0) : List ℕ → List ℕ → List ℕ → Type 0 where
  none : Parted P [] [] []
  stays : {x : ℕ} {xs ys zs : List ℕ} → (P x → ⊥) → Parted P xs ys zs → Parted P (x ∷ xs) (x ∷ ys) zs
  moves : {x : ℕ} {xs ys zs : List ℕ} → P x → Parted P xs ys zs → Parted P (x ∷ xs) ys (x ∷ zs)

-- the blocks of the ranks from the target's to the source's
abbrev pub between : Layout → ℕ → ℕ → List ℕ
between l target source = take (rank_of l source + 1 - rank_of l target) (drop (rank_of l target) l.order)

-- those ranks dealt out again: to the blocks there that are not ahead, and then to those that are
pub record Dealt (l : Layout) (target source : ℕ) (order' : List ℕ) : Type 0 where
  pub others : List ℕ
  pub ahead : List ℕ
  pub parted : Parted (Ahead l target source) (between l target source) others ahead
  pub is : order' ≡ take (rank_of l target) l.order ++ (others ++ (ahead ++ drop (rank_of l source + 1) l.order))

-- a wire into the port p of t moves blocks: the port is not late, and the source has not the lower rank
abbrev pub Descends : Layout → ℕ → ℕ → ℕ → Type 0
Descends l t p s = (l.late t p ≡ false) × (rank_of l t ≤ rank_of l s)

-- the order after that wire
pub record NewOrder (l : Layout) (t p s : ℕ) (order' : List ℕ) : Type 0 where
  pub kept : (Descends l t p s → ⊥) → order' ≡ l.order
  pub dealt : Descends l t p s → Dealt l t s order'
  -- no other order is dealt so
  pub only : Descends l t p s → (o : List ℕ) → Dealt l t s o → o ≡ order'

-- m is l with the port p of t fed from s
pub record Connected (l m : Layout) (t p s : ℕ) : Type 0 where
  pub order : NewOrder l t p s m.order
  pub ports : (u : ℕ) → m.ports u ≡ l.ports u
  pub late : (u q : ℕ) → m.late u q ≡ l.late u q
  pub source : (u q : ℕ) → m.source u q ≡ (rewired l t p (Some s)).source u q
