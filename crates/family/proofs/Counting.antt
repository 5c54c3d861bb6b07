-- A record as it counts: it passes its kind's test, and a change that keeps code and test keeps the kind.
use Rattle.std.proofs.Common.{◌≡◌, ℕ, Bool, true, false, cond, Some, None, Option, refl, ap, ◌∙◌}
use Rattle.std.proofs.lemmas.Bool.{cond-true}
use Rattle.family.specs.Counts.{kind_for, record_for}

-- the idle record has the plain kind's code, and passes its test
module _ {K R : Type 0} (code : R → ℕ) (kind_of : ℕ → Option K) (fits : K → R → Bool) (plain : K) (idle : R)
    (idle_kind : kind_of (code idle) ≡ Some plain) (idle_fits : fits plain idle ≡ true) where
  -- the kind that a record counts as, and the record as it counts
  abbrev kind_in : R → K
  kind_in r = kind_for fits plain idle (kind_of (code r)) r

  abbrev counted : R → R
  counted r = record_for fits plain idle (kind_of (code r)) r

  -- a record that passes counts as itself, any other as the idle one
  by_test : (b : Bool) (t : K) (r : R) → fits t r ≡ b → kind_of (code r) ≡ Some t →
      (fits (cond b t plain) (cond b r idle) ≡ true) × (kind_of (code (cond b r idle)) ≡ Some (cond b t plain))
  by_test true t r e c = (e, c)
  by_test false t r e c = (idle_fits, idle_kind)

  by_kind : (o : Option K) (r : R) → kind_of (code r) ≡ o →
      (fits (kind_for fits plain idle o r) (record_for fits plain idle o r) ≡ true) × (kind_of (code (record_for fits plain idle o r)) ≡ Some (kind_for fits plain idle o r))
  by_kind None r c = (idle_fits, idle_kind)
  by_kind (Some t) r c = by_test (fits t r) t r refl c

  -- what a record counts as passes the test of the kind that it counts as
  pub counted_fits : (r : R) → fits (kind_in r) (counted r) ≡ true
  counted_fits r = (by_kind (kind_of (code r)) r refl).0

  -- a record with the code of a kind whose test it passes counts as that kind, and as itself
  counts_as : (t : K) (r : R) → kind_of (code r) ≡ Some t → fits t r ≡ true → (kind_in r ≡ t) × (counted r ≡ r)
  counts_as t r c e = (
    ap (λ (o : Option K). kind_for fits plain idle o r) c ∙ cond-true (fits t r) t plain e,
    ap (λ (o : Option K). record_for fits plain idle o r) c ∙ cond-true (fits t r) r idle e,
  )

  -- a change that keeps code and test keeps the kind, and gives what counts as itself
  pub kept : (r q : R) → code q ≡ code (counted r) → fits (kind_in r) q ≡ true → (kind_in q ≡ kind_in r) × (counted q ≡ q)
  kept r q same passes = counts_as (kind_in r) q (ap kind_of same ∙ (by_kind (kind_of (code r)) r refl).1) passes
