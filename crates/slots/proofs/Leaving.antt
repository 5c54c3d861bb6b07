-- A block taken out of its slot, and the slot put on the stack.
use Rattle.std.proofs.Common.{◌≡◌, ℕ, zero, suc, ◌+◌, ◌<◌, ◌≤◌, Bool, true, false, ◌≢◌, List, ◌∷◌, length, get_or, set, sym, refl, ap, ◌∙◌, subst, inl, inr, add-one, arith}
use Rattle.std.proofs.lemmas.List.{get_or-set_same, get_or-set_other}
use Rattle.std.proofs.lemmas.Bool.{cases_eq, cases_lt, both_ways}
use Rattle.slots.specs.Tables.{stack, Idle, Unused, Untouched, Young, Spare}

-- a slot with a block has been used
pub was_used : (placed : List Bool) (used s : ℕ) → Unused placed used → get_or placed s false ≡ true → s < used
was_used placed used s unused on = elim (cases_lt s used) [ inl l ↦ l | inr l ↦ absurd (both_ways _ (unused s l) on) ]

module _ (placed : List Bool) (slot : ℕ) (on : get_or placed slot false ≡ true) (within : slot < length placed) where
  -- an empty slot stays empty
  pub empty_still : (t : ℕ) → get_or placed t false ≡ false → get_or (set placed slot false) t false ≡ false
  empty_still t e = get_or-set_other placed slot t false false (λ s. both_ways _ e (ap (λ (k : ℕ). get_or placed k false) s ∙ on)) ∙ e

  -- a slot to use again is another one
  pub other : (freed : List ℕ) (count : ℕ) → Idle placed freed count → (i : ℕ) → i < count → get_or freed i 0 ≡ slot → ⊥
  other freed count idle i l e = both_ways _ (idle i l) (ap (λ (k : ℕ). get_or placed k false) e ∙ on)

  -- a slot where a block stands still is another one, and was counted as before
  pub young_less : (emptied : List ℕ) (n : ℕ) → Young placed emptied → Young (set placed slot false) (set emptied slot n)
  young_less emptied n was t e = elim (cases_eq t slot) [
    | inl s ↦ absurd (both_ways _ (ap (λ (k : ℕ). get_or (set placed slot false) k false) s ∙ get_or-set_same placed slot false false within) e)
    | inr ne ↦ subst (λ (k : ℕ). k < 65535) (sym (get_or-set_other emptied slot t n 0 ne)) (was t (sym (get_or-set_other placed slot t false false ne) ∙ e))
  ]

  -- the slots to use again were counted as before
  pub spare_less : (emptied freed : List ℕ) (count n : ℕ) → Idle placed freed count → Spare emptied freed count → Spare (set emptied slot n) freed count
  spare_less emptied freed count n idle was i l = subst (λ (k : ℕ). k < 65535) (sym (get_or-set_other emptied slot (get_or freed i 0) n 0 (other freed count idle i l))) (was i l)

  -- and so were the slots never used
  pub untouched_less : (emptied : List ℕ) (used n : ℕ) → Unused placed used → Untouched emptied used → Untouched (set emptied slot n) used
  untouched_less emptied used n unused was t h =
      let low = was_used placed used slot unused on in
      get_or-set_other emptied slot t n 0 (λ e. absurd (omega arith)) ∙ was t h

module _ (freed : List ℕ) (count slot : ℕ) (room : count < length freed) where
  -- the new top of the stack, and what lies below it
  top_is : (i : ℕ) → i ≡ count → get_or (set freed count slot) i 0 ≡ slot
  top_is i e = ap (λ (k : ℕ). get_or (set freed count slot) k 0) e ∙ get_or-set_same freed count slot 0 room

  below_is : (i : ℕ) → i ≢ count → get_or (set freed count slot) i 0 ≡ get_or freed i 0
  below_is i ne = get_or-set_other freed count i slot 0 ne

  -- below the top nothing changes
  stack_below : (n : ℕ) → n ≤ count → stack (set freed count slot) n ≡ stack freed n
  stack_below zero l = refl
  stack_below (suc n) l =
      let e : get_or (set freed count slot) n 0 ≡ get_or freed n 0 = below_is n (λ k. absurd (omega arith)) in
      let rest = stack_below n (omega arith) in
      cc

  -- the stack with the slot on top
  pub stack_more : stack (set freed count slot) (count + 1) ≡ slot ∷ stack freed count
  stack_more =
      let top = top_is count refl in
      let rest = stack_below count (omega arith) in
      rw add-one (let e : get_or (set freed count slot) count 0 ∷ stack (set freed count slot) count ≡ slot ∷ stack freed count = cc in e)
