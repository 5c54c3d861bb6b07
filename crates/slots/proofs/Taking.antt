-- A block put at an empty slot.
use Rattle.std.proofs.Common.{◌≡◌, ℕ, ◌-◌, ◌<◌, ◌≤◌, Bool, true, false, cond, eqb, ◌≢◌, List, length, get_or, set, sym, ap, ◌∙◌, subst, inl, inr, arith}
use Rattle.std.proofs.lemmas.List.{get_or-set_same, get_or-set_other}
use Rattle.std.proofs.lemmas.Bool.{cases_eq, cond-true, cond-false, eq-eqb, ne_eqb}
use Rattle.slots.specs.Tables.{Idle, Apart, Unused, Young}

-- what an entry is after a write, by the slot
pub written : {A : Type 0} (xs : List A) (s : ℕ) (v d : A) → s < length xs → (t : ℕ) → get_or (set xs s v) t d ≡ cond (eqb t s) v (get_or xs t d)
written xs s v d l t = elim (cases_eq t s) [
  | inl e ↦ ap (λ (k : ℕ). get_or (set xs s v) k d) e ∙ get_or-set_same xs s v d l ∙ sym (cond-true (eqb t s) v (get_or xs t d) (eq-eqb t s e))
  | inr ne ↦ get_or-set_other xs s t v d ne ∙ sym (cond-false (eqb t s) v (get_or xs t d) (ne_eqb t s ne))
]

module _ (placed : List Bool) (slot : ℕ) (within : slot < length placed) where
  -- slots but this one stay empty
  pub still_empty : (t : ℕ) → t ≢ slot → get_or placed t false ≡ false → get_or (set placed slot true) t false ≡ false
  still_empty t ne e = get_or-set_other placed slot t true false ne ∙ e

  -- no slot taken is worn out
  pub young_more : (emptied : List ℕ) → get_or emptied slot 0 < 65535 → Young placed emptied → Young (set placed slot true) emptied
  young_more emptied fit was t e = elim (cases_eq t slot) [
    | inl s ↦ subst (λ (k : ℕ). get_or emptied k 0 < 65535) (sym s) fit
    | inr ne ↦ was t (sym (get_or-set_other placed slot t true false ne) ∙ e)
  ]

  -- no block at slots never used, of which this is none any more
  pub unused_more : (used used' : ℕ) → used ≤ used' → slot < used' → Unused placed used → Unused (set placed slot true) used'
  unused_more used used' up low was t h = still_empty t (λ e. absurd (omega arith)) (was t (omega arith))

-- the slots left to use again are empty, once the last one is taken
pub idle_less : (placed : List Bool) (freed : List ℕ) (count : ℕ) → 0 < count → get_or freed (count - 1) 0 < length placed → Apart freed count → Idle placed freed count → Idle (set placed (get_or freed (count - 1) 0) true) freed (count - 1)
idle_less placed freed count h l apart was i low = still_empty placed (get_or freed (count - 1) 0) l (get_or freed i 0) (apart i (count - 1) (low, omega arith)) (was i (omega arith))
