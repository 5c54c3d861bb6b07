-- Counting what is true, and the stack of freed slots.
use Rattle.std.proofs.Common.{◌≡◌, ℕ, zero, suc, ◌-◌, ◌<◌, Bool, true, false, List, [], ◌∷◌, length, get_or, set, refl, ap, arith}
use Rattle.std.proofs.lemmas.Bool.{both_ways}
use Rattle.slots.specs.Ledger.{fewer, more}
use Rattle.slots.specs.Tables.{trues, stack}

-- one more is true
pub trues_on : (xs : List Bool) (s : ℕ) → s < length xs → get_or xs s false ≡ false → trues (set xs s true) ≡ suc (trues xs)
trues_on [] s h e = absurd (omega arith)
trues_on (true ∷ xs) zero h e = absurd (both_ways _ e refl)
trues_on (false ∷ xs) zero h e = refl
trues_on (true ∷ xs) (suc s) h e = ap suc (trues_on xs s (omega arith) e)
trues_on (false ∷ xs) (suc s) h e = trues_on xs s (omega arith) e

-- one less is true
pub trues_off : (xs : List Bool) (s : ℕ) → get_or xs s false ≡ true → suc (trues (set xs s false)) ≡ trues xs
trues_off [] s e = absurd (both_ways _ refl e)
trues_off (true ∷ xs) zero e = refl
trues_off (false ∷ xs) zero e = absurd (both_ways _ refl e)
trues_off (true ∷ xs) (suc s) e = ap suc (trues_off xs s e)
trues_off (false ∷ xs) (suc s) e = trues_off xs s e

-- the stack without its top
pub stack_fewer : (freed : List ℕ) (count used : ℕ) → 0 < count → (stack freed (count - 1) ≡ fewer (stack freed count)) × (used ≡ more (stack freed count) used)
stack_fewer freed zero used h = absurd (omega arith)
stack_fewer freed (suc n) used h = (ap (stack freed) (let e : suc n - 1 ≡ n = omega arith in e), refl)
