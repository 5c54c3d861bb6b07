-- The slot that the next block gets.
use Rattle.std.proofs.Common.{◌≡◌, ℕ, zero, suc, ◌<◌, ◌≤◌, Bool, false, ltb, List, get_or, Some, None, sym, ap, ◌∙◌, inl, inr, arith}
use Rattle.std.proofs.lemmas.Bool.{cases_lt, cond-true, cond-false, lt-ltb, le-ltb}
use Rattle.slots.specs.declared.slots.Slots.{Slots}
use Rattle.slots.specs.Ledger.{free_of}
use Rattle.slots.specs.Tables.{placed_in, stack, Idle, Old, Unused}
use Rattle.slots.specs.View.{ledger}

-- from the tables
free_of_stack : (placed : List Bool) (freed : List ℕ) (count used : ℕ) → Idle placed freed count → Old freed count used → Unused placed used → used ≤ 256
    → (s : ℕ) → free_of (stack freed count) used ≡ Some s → (get_or placed s false ≡ false) × (s < 256)
free_of_stack placed freed zero used idle old unused span s e = elim (cases_lt used 256) [
  | inl l ↦
      let f : Some used ≡ Some s = sym (cond-true (ltb used 256) (Some used) None (lt-ltb used 256 l)) ∙ e in
      let z : used ≡ s = cc in
      (unused s (omega arith), omega arith)
  | inr l ↦
      let f : None ≡ Some s = sym (cond-false (ltb used 256) (Some used) None (le-ltb used 256 l)) ∙ e in
      let z : ◌≡◌ {A = ℕ} 0 1 = cc in absurd (omega arith)
]
free_of_stack placed freed (suc n) used idle old unused span s e =
    let z : get_or freed n 0 ≡ s = cc in
    let o = old n (omega arith) in
    (ap (λ (x : ℕ). get_or placed x false) (sym z) ∙ idle n (omega arith), omega arith)

-- it is empty, and one of the 256
pub free_empty : (d : Slots) (s : ℕ) → free_of (ledger d).freed (ledger d).used ≡ Some s → ((ledger d).placed s ≡ false) × (s < 256)
free_empty d = free_of_stack (placed_in d.table) d.freed d.count d.used d.idle d.been_used d.unused d.span
