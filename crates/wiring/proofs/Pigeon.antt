-- No room for one more: where a slot is dead, not all ranks are taken.
use Rattle.std.proofs.Common.{◌≡◌, ℕ, zero, suc, ◌+◌, ◌<◌, ◌≤◌, Bool, false, cond, eqb, List, length, get_or, sym, ap, ◌∙◌, inl, inr, arith}
use Rattle.std.proofs.lemmas.List.{get_or_past}
use Rattle.std.proofs.lemmas.Bool.{cases_eq, cases_lt, eq-eqb, ne_eqb, cond-true, cond-false, both_ways}
use Rattle.wiring.specs.Sound.{Placed}

-- f takes the numbers below m to numbers below n
abbrev Into : (ℕ → ℕ) → ℕ → ℕ → Type 0
Into f m n = (i : ℕ) → i < m → f i < n

-- f takes no two numbers below m to one
abbrev OneToOne : (ℕ → ℕ) → ℕ → Type 0
OneToOne f m = (i j : ℕ) → i < m → j < m → f i ≡ f j → i ≡ j

-- f, with the value n replaced by x
abbrev patched : (ℕ → ℕ) → ℕ → ℕ → ℕ → ℕ
patched f n x i = cond (eqb (f i) n) x (f i)

-- where f is n
patched_yes : (f : ℕ → ℕ) (n x i : ℕ) → f i ≡ n → patched f n x i ≡ x
patched_yes f n x i e = cond-true (eqb (f i) n) x (f i) (eq-eqb (f i) n e)

-- and where it is not
patched_no : (f : ℕ → ℕ) (n x i : ℕ) → (f i ≡ n → ⊥) → patched f n x i ≡ f i
patched_no f n x i e = cond-false (eqb (f i) n) x (f i) (ne_eqb (f i) n e)

-- no function takes n + 1 numbers to n, one to one
pigeon : (n : ℕ) (f : ℕ → ℕ) → Into f (n + 1) n → OneToOne f (n + 1) → ⊥
pigeon zero f into one = let h = into 0 (omega arith) in omega arith
pigeon (suc n) f into one = pigeon n (patched f n (f (n + 1))) into' one'
  where
    -- none of the others is taken where the last is
    last : (i : ℕ) → i < n + 1 → f i ≡ f (n + 1) → ⊥
    last i h e = let z = one i (n + 1) (omega arith) (omega arith) e in omega arith

    -- the patched function misses n
    into' : Into (patched f n (f (n + 1))) (n + 1) n
    into' i h = elim (cases_eq (f i) n) [
      | inl e ↦ let l = into (n + 1) (omega arith) in let ne : f (n + 1) ≡ n → ⊥ = λ x. last i h (e ∙ sym x) in omega (arith, patched_yes f n (f (n + 1)) i e)
      | inr e ↦ let l = into i (omega arith) in omega (arith, patched_no f n (f (n + 1)) i e)
    ]

    -- and is one to one
    one' : OneToOne (patched f n (f (n + 1))) (n + 1)
    one' i j h k e = elim (cases_eq (f i) n) [
      | inl a ↦ elim (cases_eq (f j) n) [
        | inl b ↦ one i j (omega arith) (omega arith) (a ∙ sym b)
        | inr b ↦ absurd (last j k (sym (patched_no f n (f (n + 1)) j b) ∙ sym e ∙ patched_yes f n (f (n + 1)) i a))
      ]
      | inr a ↦ elim (cases_eq (f j) n) [
        | inl b ↦ absurd (last i h (sym (patched_no f n (f (n + 1)) i a) ∙ e ∙ patched_yes f n (f (n + 1)) j b))
        | inr b ↦ one i j (omega arith) (omega arith) (sym (patched_no f n (f (n + 1)) i a) ∙ e ∙ patched_no f n (f (n + 1)) j b)
      ]
    ]

-- the order, with the slot at 256
abbrev with_slot : List ℕ → ℕ → ℕ → ℕ
with_slot order slot i = cond (eqb i 256) slot (get_or order i 0)

-- where a slot is dead, not all ranks are taken
pub some_room : (count : ℕ) (order rank : List ℕ) (live : List Bool) (slot : ℕ) → Placed count order rank live → count ≤ 256 → length live ≡ 256 → slot < 256 → get_or live slot false ≡ false → count < 256
some_room count order rank live slot placed room long s dead = elim (cases_lt count 256) [ inl l ↦ l | inr l ↦ absurd (full (omega arith)) ]
  where
    -- at 256 stands the slot
    at_end : (i : ℕ) → i ≡ 256 → with_slot order slot i ≡ slot
    at_end i e = cond-true (eqb i 256) slot (get_or order i 0) (eq-eqb i 256 e)

    -- and before it the order
    before : (i : ℕ) → (i ≡ 256 → ⊥) → with_slot order slot i ≡ get_or order i 0
    before i e = cond-false (eqb i 256) slot (get_or order i 0) (ne_eqb i 256 e)

    -- 256 ranks and the slot would be one too many
    full : count ≡ 256 → ⊥
    full c = pigeon 256 (with_slot order slot) into one
      where
        small : (i : ℕ) → i < 256 → get_or order i 0 < 256
        small i h = elim (cases_lt (get_or order i 0) 256) [ inl l ↦ l | inr l ↦ absurd (both_ways (get_or live (get_or order i 0) false) (get_or_past live (get_or order i 0) false (omega arith)) (placed i (omega arith)).0) ]

        into : Into (with_slot order slot) (256 + 1) 256
        into i h = elim (cases_eq i 256) [ inl e ↦ omega (arith, at_end i e) | inr e ↦ omega (arith, before i e, small i (omega arith)) ]

        other : (i : ℕ) → i < 256 + 1 → (i ≡ 256 → ⊥) → with_slot order slot i ≡ slot → ⊥
        other i h ne e = both_ways (get_or live slot false) dead (ap (λ x. get_or live x false) (sym (sym (before i ne) ∙ e)) ∙ (placed i (omega arith)).0)

        one : OneToOne (with_slot order slot) (256 + 1)
        one i j h k e = elim (cases_eq i 256) [
          | inl a ↦ elim (cases_eq j 256) [ inl b ↦ a ∙ sym b | inr b ↦ absurd (other j k b (sym e ∙ at_end i a)) ]
          | inr a ↦ elim (cases_eq j 256) [
            | inl b ↦ absurd (other i h a (e ∙ at_end j b))
            | inr b ↦ sym (placed i (omega arith)).1 ∙ ap (λ x. get_or rank x 0) (sym (before i a) ∙ e ∙ before j b) ∙ (placed j (omega arith)).1
          ]
        ]
