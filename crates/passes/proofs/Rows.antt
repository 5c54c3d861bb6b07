-- One entry of a row changed, and which entries a row has.
use Rattle.std.proofs.Common.{◌≡◌, ℕ, zero, suc, ◌<◌, true, eqb, List, [], ◌∷◌, length, get_or, set, is_some, Some, sym, refl, ap, ◌∙◌, inl, inr, arith, length-set}
use Rattle.std.specs.List.{slice_get}
use Rattle.std.proofs.lemmas.Option.{slice_get-get_or, slice_get_past}
use Rattle.std.proofs.lemmas.List.{get_or-set_same, get_or-set_other}
use Rattle.std.proofs.lemmas.Bool.{cases_eq, cases_lt, cond-true, cond-false, eq-eqb, ne_eqb}
use Rattle.passes.specs.Rows.{put}

pub put_same : {A : Type 0} (f : ℕ → A) (k : ℕ) (v : A) (s : ℕ) → s ≡ k → put f k v s ≡ v
put_same f k v s e = cond-true (eqb s k) v (f s) (eq-eqb s k e)

pub put_other : {A : Type 0} (f : ℕ → A) (k : ℕ) (v : A) (s : ℕ) → (s ≡ k → ⊥) → put f k v s ≡ f s
put_other f k v s ne = cond-false (eqb s k) v (f s) (ne_eqb s k ne)

-- a row has an entry at each place before its end
pub slice_get-is_some : {A : Type 0} (xs : List A) (i : ℕ) → i < length xs → is_some (slice_get xs i) ≡ true
slice_get-is_some [] i l = absurd (omega arith)
slice_get-is_some (x ∷ xs) zero l = refl
slice_get-is_some (x ∷ xs) (suc i) l = slice_get-is_some xs i (omega arith)

-- a signal written
pub get_or-put : {S : Type 0} (xs : List S) (i : ℕ) (v d : S) → i < length xs → (s : ℕ) → get_or (set xs i v) s d ≡ put (λ (k : ℕ). get_or xs k d) i v s
get_or-put xs i v d l s = elim (cases_eq s i) [
  | inl e ↦ ap (λ (k : ℕ). get_or (set xs i v) k d) e ∙ get_or-set_same xs i v d l ∙ sym (put_same (λ (k : ℕ). get_or xs k d) i v s e)
  | inr ne ↦ get_or-set_other xs i s v d ne ∙ sym (put_other (λ (k : ℕ). get_or xs k d) i v s ne)
]

-- a record written
pub slice_get-put : {R : Type 0} (xs : List R) (i : ℕ) (v : R) → i < length xs → (s : ℕ) → slice_get (set xs i v) s ≡ put (slice_get xs) i (Some v) s
slice_get-put xs i v l s = elim (cases_eq s i) [
  | inl e ↦ ap (slice_get (set xs i v)) e ∙ slice_get-get_or (set xs i v) i v (omega (arith, length-set xs i v)) ∙ ap Some (get_or-set_same xs i v v l) ∙ sym (put_same (slice_get xs) i (Some v) s e)
  | inr ne ↦ (elim (cases_lt s (length xs)) [
    | inl k ↦ slice_get-get_or (set xs i v) s v (omega (arith, length-set xs i v)) ∙ ap Some (get_or-set_other xs i s v v ne) ∙ sym (slice_get-get_or xs s v k)
    | inr k ↦ slice_get_past (set xs i v) s (omega (arith, length-set xs i v)) ∙ sym (slice_get_past xs s k)
  ]) ∙ sym (put_other (slice_get xs) i (Some v) s ne)
]
