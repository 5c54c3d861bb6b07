-- The tables before any slot is used.
use Rattle.std.proofs.Common.{◌≡◌, ℕ, zero, suc, false, ◌∷◌, get_or, map, replicate, refl, ap, ◌∙◌, inl, inr, arith}
use Rattle.std.proofs.lemmas.List.{get_or-replicate, get_or_past, length-replicate}
use Rattle.std.proofs.lemmas.Bool.{cases_lt, both_ways}
use Rattle.slots.specs.declared.slot.Slot.{Slot}
use Rattle.slots.specs.Tables.{placed_in, emptied_in, trues, Young}

-- every entry of a table of one value, within it and past it
pub all_one : {A : Type 0} (n : ℕ) (a : A) (k : ℕ) → get_or (replicate n a) k a ≡ a
all_one n a k = elim (cases_lt k n) [
  | inl l ↦ get_or-replicate n k a a l
  | inr l ↦ get_or_past (replicate n a) k a (omega (arith, length-replicate n a))
]

-- nothing is true
pub trues_none : (n : ℕ) → trues (replicate n false) ≡ 0
trues_none zero = refl
trues_none (suc n) = trues_none n

pub young_none : Young (replicate 256 false) (replicate 256 0)
young_none s e = absurd (both_ways _ (all_one 256 false s) e)

map-replicate : {A B : Type 0} (f : A → B) (n : ℕ) (a : A) → map f (replicate n a) ≡ replicate n (f a)
map-replicate f zero a = refl
map-replicate f (suc n) a = ap (λ xs. f a ∷ xs) (map-replicate f n a)

-- in a table of one slot where no block stands
module _ (slot : Slot) (empty : slot.placed ≡ false) (new : slot.emptied ≡ 0) where
  pub none_placed : placed_in (replicate 256 slot) ≡ replicate 256 false
  none_placed = map-replicate (λ (s : Slot). s.placed) 256 slot ∙ ap (replicate 256) empty

  pub none_emptied : emptied_in (replicate 256 slot) ≡ replicate 256 0
  none_emptied = map-replicate (λ (s : Slot). s.emptied) 256 slot ∙ ap (replicate 256) new
