-- A settle on its way: the records of the blocks passed so far.
use Rattle.std.proofs.Common.{◌≡◌, ℕ, zero, suc, ◌+◌, ◌<◌, Bool, true, false, cond, ◌||◌, eqb, List, [], ◌∷◌, length, get_or, take, set, Some, sym, refl, ap, ◌∙◌, inl, inr, add-one, arith, length-set}
use Rattle.std.specs.List.{slice_get}
use Rattle.std.proofs.lemmas.Bool.{cases_eq, cond-true, cond-false, eq-eqb, ne_eqb, or_right, or_from}
use Rattle.family.specs.Meaning.{Meaning}
use Rattle.wiring.specs.Layout.{Layout, member}
use Rattle.passes.specs.Rows.{on_some, row}
use Rattle.passes.specs.Scan.{inputs_of, advanced}
use Rattle.passes.proofs.Rows.{slice_get-put, put_same, put_other}

-- the first i + 1 of a list have the one at i, and else those of the first i
member_here : (xs : List ℕ) (i s : ℕ) → i < length xs → s ≡ get_or xs i 0 → member (take (suc i) xs) s ≡ true
member_here [] i s h e = absurd (omega arith)
member_here (x ∷ xs) zero s h e = ap (λ (b : Bool). b || member (take 0 xs) s) (eq-eqb x s (sym e))
member_here (x ∷ xs) (suc i) s h e = ap (λ (b : Bool). eqb x s || b) (member_here xs i s (omega arith) e) ∙ or_right (eqb x s) true refl

member_there : (xs : List ℕ) (i s : ℕ) → (s ≡ get_or xs i 0 → ⊥) → member (take (suc i) xs) s ≡ member (take i xs) s
member_there [] zero s ne = refl
member_there [] (suc i) s ne = refl
member_there (x ∷ xs) zero s ne = ap (λ (b : Bool). b || false) (ne_eqb x s (λ e. ne (sym e)))
member_there (x ∷ xs) (suc i) s ne = ap (λ (b : Bool). eqb x s || b) (member_there xs i s ne)

-- what is none of the first n is no member of them
not_before : (xs : List ℕ) (n s : ℕ) → ((k : ℕ) → k < n → k < length xs → get_or xs k 0 ≡ s → ⊥) → member (take n xs) s ≡ false
not_before [] zero s h = refl
not_before [] (suc n) s h = refl
not_before (x ∷ xs) zero s h = refl
not_before (x ∷ xs) (suc n) s h =
    or_from (eqb x s) (member (take n xs) s) (ne_eqb x s (h 0 (omega arith) (omega arith))) (not_before xs n s (λ k low within. h (suc k) (omega arith) (omega arith)))

module _ {R S : Type 0} (m : Meaning R S) (l : Layout) (signals : List S) (before : List R) where
  -- the next record of the block at s
  abbrev brought : ℕ → R → R
  brought s r = m.next r (inputs_of m (row m signals) (l.source s))

  -- the row stands at `cur`, and the blocks of the ranks below i are done
  pub record Advancing (cur : List R) (i : ℕ) : Type 0 where
    pub size : length cur ≡ length before
    pub records : (s : ℕ) → slice_get cur s ≡ advanced m l.source (row m signals) (member (take i l.order)) (slice_get before) s

  -- one more block, at the slot of rank i
  pub advance_more : (cur : List R) (i slot : ℕ) (r q : R) → slot ≡ get_or l.order i 0 → i < length l.order → slot < length cur
      → ((k j : ℕ) → k < j → j < length l.order → get_or l.order k 0 ≡ get_or l.order j 0 → ⊥)
      → slice_get cur slot ≡ Some r → q ≡ brought slot r → Advancing cur i → Advancing (set cur slot q) (i + 1)
  advance_more cur i slot r q at low within apart held is was =
      let fresh : member (take i l.order) slot ≡ false = not_before l.order i slot (λ k less in_list e. apart k i less low (e ∙ at)) in
      let old : slice_get before slot ≡ Some r = sym (was.records slot ∙ cond-false (member (take i l.order) slot) _ (slice_get before slot) fresh) ∙ held in
      record {
        size = length-set cur slot q ∙ was.size;
        records = λ s. slice_get-put cur slot q within s ∙ (elim (cases_eq s slot) [
          | inl e ↦
              put_same (slice_get cur) slot (Some q) s e ∙ ap (λ (x : R). Some x) is ∙ sym (ap (on_some (brought slot)) old) ∙ ap (λ (t : ℕ). on_some (brought t) (slice_get before t)) (sym e)
              ∙ sym (cond-true (member (take (i + 1) l.order) s) (on_some (brought s) (slice_get before s)) (slice_get before s) (rw add-one (member_here l.order i s low (e ∙ at))))
          | inr ne ↦
              put_other (slice_get cur) slot (Some q) s ne ∙ was.records s
              ∙ ap (λ (b : Bool). cond b (on_some (brought s) (slice_get before s)) (slice_get before s)) (sym (rw add-one (member_there l.order i s (λ e. ne (e ∙ sym at)))))
        ]);
      }
