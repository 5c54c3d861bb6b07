-- The lowest slot of a name, and names that are not there.
use Rattle.std.proofs.Common.{◌≡◌, ℕ, zero, suc, ◌≤◌, ◌<◌, Bool, true, false, ◌&&◌, cond, List, [], get_or, replicate, Some, None, Option, MatchOption, Bor, length, zero-le, sym, refl, ap, ◌∙◌, subst, inl, inr, arith}
use Rattle.std.proofs.lemmas.List.{get_or-replicate, get_or_past, length-replicate}
use Rattle.std.specs.List.{AllWithin, HoldsAt}
use Rattle.std.specs.Str.{bytes_eq}
use Rattle.std.proofs.lemmas.Bool.{cases_lt, cases_eq, and_parts}
use Rattle.diagram.specs.Chart.{Chart, names}
use Rattle.runner.specs.declared.names.Entry.{Entry}
use Rattle.runner.specs.declared.names.Names.{Names}
use Rattle.runner.specs.Book.{either, in_use, lowest}
use Rattle.runner.specs.View.{name_in, blank, book, Lowest}

-- where none is, none is found
pub lowest_none : (p : ℕ → Bool) (k : ℕ) → ((i : ℕ) → i < k → p i ≡ false) → lowest p k ≡ None
unfolding lowest
lowest_none p zero h = refl
lowest_none p (suc k) h = (λ i. either (lowest_none p k (λ j l. h j (omega arith)) i) (cond (h k (omega arith) i) (Some k) None))

-- what was found stays found
lowest_on : (p : ℕ → Bool) (k s n : ℕ) → lowest p k ≡ Some s → k ≤ n → lowest p n ≡ Some s
unfolding lowest
lowest_on p k s zero e l = subst (λ (j : ℕ). lowest p j ≡ Some s) (let z : k ≡ 0 = omega arith in z) e
lowest_on p k s (suc n) e l = elim (cases_eq k (suc n)) [
  | inl i ↦ subst (λ (j : ℕ). lowest p j ≡ Some s) i e
  | inr ne ↦ ap (λ (o : Option ℕ). either o (cond (p n) (Some n) None)) (lowest_on p k s n e (omega arith))
]

-- the first that is one is found
pub lowest_first : (p : ℕ → Bool) (i n : ℕ) → i < n → p i ≡ true → ((j : ℕ) → j < i → p j ≡ false) → lowest p n ≡ Some i
unfolding lowest
lowest_first p i n l here before = lowest_on p (suc i) i n (λ k. either (lowest_none p i before k) (cond (here k) (Some i) None)) (omega arith)

-- a table of entries with no name
pub all_blank : (e : Entry) → name_in e ≡ [] → e.handle ≡ 0 → (s : ℕ) → (name_in (get_or (replicate 256 e) s blank) ≡ []) × ((get_or (replicate 256 e) s blank).handle ≡ 0)
all_blank e name handle s = elim (cases_lt s 256) [
  | inl l ↦ let i = get_or-replicate 256 s e blank l in (ap name_in i ∙ name, ap (λ (x : Entry). x.handle) i ∙ handle)
  | inr l ↦ let i = get_or_past (replicate 256 e) s blank (omega (arith, length-replicate 256 e)) in (ap name_in i, ap (λ (x : Entry). x.handle) i)
]

-- whether an entry is of the name and in use
abbrev pub used : Chart → List ℕ → Entry → Bool
used c n e = bytes_eq (name_in e) n && names c e.handle

-- the first entry of the name in use stands at the lowest slot of these
pub first_entry : (c : Chart) (t : Names) (n : List ℕ) (r : Option (Bor Entry)) → length t.entries ≡ 256
    → MatchOption r (AllWithin (λ e. used c n e ≡ false) t.entries 0 (length t.entries)) (λ x. (used c n x.now ≡ true) × (i : ℕ) × (i < length t.entries) × HoldsAt (λ e. e ≡ x.now) t.entries i × AllWithin (λ e. used c n e ≡ false) t.entries 0 i)
    → MatchOption r (lowest (in_use c (book t) n) 256 ≡ None) (λ e. Lowest c t n e.now)
first_entry c t n None len all = lowest_none (in_use c (book t) n) 256 (λ i l. all i blank zero-le (omega (arith, len)))
first_entry c t n (Some x) len h =
    let here : in_use c (book t) n h.1 ≡ true = subst (λ (e : Entry). used c n e ≡ true) (sym (h.3 blank)) h.0 in
    (h.1, lowest_first (in_use c (book t) n) h.1 256 (omega (arith, len, h.2)) here (λ j l. h.4 j blank zero-le l), sym (h.3 blank), (and_parts (bytes_eq (name_in x.now) n) (names c x.now.handle) h.0).1)
