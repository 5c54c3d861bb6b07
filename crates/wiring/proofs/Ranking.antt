-- Slots that get their ranks one after another.
use Rattle.std.proofs.Common.{◌≡◌, ℕ, ◌+◌, ◌<◌, List, length, get_or, set, sym, ap, ◌∙◌, inl, inr, arith}
use Rattle.std.proofs.lemmas.List.{length-set, get_or-set_same, get_or-set_other}
use Rattle.std.proofs.lemmas.Bool.{cases_eq}

-- the first i of the slots xs have the ranks from a on, and the others those that they had
pub record Ranking (a : ℕ) (xs rank now : List ℕ) (i : ℕ) : Type 0 where
  pub size : length now ≡ length rank
  pub here : (k : ℕ) → k < i → get_or now (get_or xs k 0) 0 ≡ a + k
  pub other : (s : ℕ) → ((k : ℕ) → k < i → get_or xs k 0 ≡ s → ⊥) → get_or now s 0 ≡ get_or rank s 0

-- one slot more, which is none of those before
pub ranking_more : {a : ℕ} {xs rank now : List ℕ} {i : ℕ} → ((k : ℕ) → k < i → get_or xs k 0 ≡ get_or xs i 0 → ⊥) → get_or xs i 0 < length now → Ranking a xs rank now i
    → Ranking a xs rank (set now (get_or xs i 0) (a + i)) (i + 1)
ranking_more {a} {xs} {rank} {now} {i} apart small was = record {
  size = length-set now (get_or xs i 0) (a + i) ∙ was.size;
  here = λ k l. elim (cases_eq k i) [
    | inl e ↦ ap (λ n. get_or (set now (get_or xs i 0) (a + i)) (get_or xs n 0) 0) e ∙ get_or-set_same now (get_or xs i 0) (a + i) 0 small ∙ sym (ap (λ n. a + n) e)
    | inr ne ↦ get_or-set_other now (get_or xs i 0) (get_or xs k 0) (a + i) 0 (apart k (omega arith)) ∙ was.here k (omega arith)
  ];
  other = λ s none. get_or-set_other now (get_or xs i 0) s (a + i) 0 (λ e. none i (omega arith) (sym e)) ∙ was.other s (λ k l. none k (omega arith));
}
