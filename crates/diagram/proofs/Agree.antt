-- The wiring and the table of slots have blocks at the same slots, after each change.
use Rattle.std.proofs.Common.{◌≡◌, ℕ, Bool, true, false, cond, not, ◌||◌, eqb, List, [], ◌∷◌, ◌++◌, filter, sym, refl, ap, ◌∙◌, inl, inr}
use Rattle.std.proofs.lemmas.Bool.{cases_eq, cond-true, cond-false, eq-eqb, ne_eqb, or_right}
use Rattle.wiring.specs.Layout.{Layout, member, is_placed}
use Rattle.wiring.specs.Change.{removed}
use Rattle.slots.specs.Ledger.{Ledger, filled, emptied}

-- the members of a list without s
member_kept : (s : ℕ) (xs : List ℕ) (t : ℕ) → member (filter (λ u. not (eqb u s)) xs) t ≡ cond (eqb t s) false (member xs t)
member_kept s [] t = elim (eqb t s) as (λ b. false ≡ cond b false false) [ true ↦ refl | false ↦ refl ]
member_kept s (x ∷ xs) t = elim (cases_eq x s) [
  | inl e ↦
      ap (λ (b : Bool). member (cond (not b) (x ∷ filter (λ u. not (eqb u s)) xs) (filter (λ u. not (eqb u s)) xs)) t) (eq-eqb x s e) ∙ member_kept s xs t ∙ (elim (cases_eq t s) [
        | inl i ↦ cond-true (eqb t s) false (member xs t) (eq-eqb t s i) ∙ sym (cond-true (eqb t s) false (member (x ∷ xs) t) (eq-eqb t s i))
        | inr ne ↦ ap (λ (b : Bool). cond (eqb t s) false (b || member xs t)) (sym (ne_eqb x t (λ i. ne (sym i ∙ e))))
      ])
  | inr ne ↦
      ap (λ (b : Bool). member (cond (not b) (x ∷ filter (λ u. not (eqb u s)) xs) (filter (λ u. not (eqb u s)) xs)) t) (ne_eqb x s ne) ∙ ap (λ (b : Bool). eqb x t || b) (member_kept s xs t) ∙ (elim (cases_eq t s) [
        | inl i ↦ ap (λ (b : Bool). b || cond (eqb t s) false (member xs t)) (ne_eqb x t (λ j. ne (j ∙ i))) ∙ cond-true (eqb t s) false (member xs t) (eq-eqb t s i) ∙ sym (cond-true (eqb t s) false (member (x ∷ xs) t) (eq-eqb t s i))
        | inr out ↦ ap (λ (b : Bool). eqb x t || b) (cond-false (eqb t s) false (member xs t) (ne_eqb t s out)) ∙ sym (cond-false (eqb t s) false (member (x ∷ xs) t) (ne_eqb t s out))
      ])
]

-- the members of a list with s at its end
member_more : (s : ℕ) (xs : List ℕ) (t : ℕ) → member (xs ++ (s ∷ [])) t ≡ cond (eqb t s) true (member xs t)
member_more s [] t = elim (cases_eq t s) [
  | inl e ↦ ap (λ (b : Bool). b || false) (eq-eqb s t (sym e)) ∙ sym (cond-true (eqb t s) true false (eq-eqb t s e))
  | inr ne ↦ ap (λ (b : Bool). b || false) (ne_eqb s t (λ e. ne (sym e))) ∙ sym (cond-false (eqb t s) true false (ne_eqb t s ne))
]
member_more s (x ∷ xs) t = ap (λ (b : Bool). eqb x t || b) (member_more s xs t) ∙ (elim (cases_eq t s) [
  | inl e ↦ ap (λ (b : Bool). eqb x t || b) (cond-true (eqb t s) true (member xs t) (eq-eqb t s e)) ∙ or_right (eqb x t) true refl ∙ sym (cond-true (eqb t s) true (member (x ∷ xs) t) (eq-eqb t s e))
  | inr ne ↦ ap (λ (b : Bool). eqb x t || b) (cond-false (eqb t s) true (member xs t) (ne_eqb t s ne)) ∙ sym (cond-false (eqb t s) true (member (x ∷ xs) t) (ne_eqb t s ne))
])

-- a block put into both
pub agree_more : (l l' : Layout) (s : ℕ) (k k' : Ledger) → l'.order ≡ l.order ++ (s ∷ []) → ((t : ℕ) → is_placed l t ≡ k.placed t) → ((t : ℕ) → k'.placed t ≡ (filled k s).placed t) → (t : ℕ) → is_placed l' t ≡ k'.placed t
agree_more l l' s k k' e was same t = ap (λ (o : List ℕ). member o t) e ∙ member_more s l.order t ∙ ap (λ (b : Bool). cond (eqb t s) true b) (was t) ∙ sym (same t)

-- a block taken out of both
pub agree_less : (l l' : Layout) (s : ℕ) (k k' : Ledger) → l'.order ≡ (removed l s).order → ((t : ℕ) → is_placed l t ≡ k.placed t) → ((t : ℕ) → k'.placed t ≡ (emptied k s).placed t) → (t : ℕ) → is_placed l' t ≡ k'.placed t
agree_less l l' s k k' e was same t = ap (λ (o : List ℕ). member o t) e ∙ member_kept s l.order t ∙ ap (λ (b : Bool). cond (eqb t s) false b) (was t) ∙ sym (same t)
