-- The two laws of a family and its bound on ports, from what it owes of its kinds.
use Rattle.std.specs.Prelude.{◌≡◌, ℕ, ◌≤◌, true, not, ℤ, pos, is_some, Some, None, Option, refl}
use Rattle.std.proofs.Common.{ap, ◌∙◌}
use Rattle.std.proofs.lemmas.Bool.{cond_both, and_parts, and_from}
use Rattle.family.specs.declared.values.Inputs.{Inputs}
use Rattle.family.specs.declared.values.Params.{Params}
use Rattle.family.specs.Laws.{SamePorts, LateLaw, KindLaw}
use Rattle.family.specs.Rules.{Rules, Lawful, fits, idle, kind_in, counted, fed_of, meaning_of}
use Rattle.family.proofs.Counting as counting

module _ {K R S : Type 0} (q : Rules K R S) (law : Lawful q) where
  -- the idle record is of the plain kind
  idle_kind : q.of_code (q.code_in (idle q)) ≡ Some q.plain
  idle_kind = ap q.of_code (law.made_code (q.code q.plain) _ (pos 0)) ∙ law.coded q.plain

  -- what a record counts as passes the test of the kind that it counts as
  pub counted_fits : (k : R) → fits q (kind_in q k) (counted q k) ≡ true
  counted_fits = counting.counted_fits q.code_in q.of_code (fits q) q.plain (idle q) idle_kind law.idle_fits

  -- a record with the same code that passes the same test is of the same kind, and counts as itself
  kept : (k p : R) → q.code_in p ≡ q.code_in (counted q k) → fits q (kind_in q k) p ≡ true → (kind_in q p ≡ kind_in q k) × (counted q p ≡ p)
  kept = counting.kept q.code_in q.of_code (fits q) q.plain (idle q) idle_kind law.idle_fits

  -- the next record is of the same kind, and counts as itself
  pub next_kept : (k : R) (x : Inputs S) → (kind_in q ((meaning_of q).next k x) ≡ kind_in q k) × (counted q ((meaning_of q).next k x) ≡ (meaning_of q).next k x)
  next_kept k x = kept k ((meaning_of q).next k x) (law.next_code (kind_in q k) (counted q k) x) (law.next_fits (kind_in q k) (counted q k) x (counted_fits k))

  -- so is the fed one
  fed_code : (t : K) (k : R) (n : ℤ) → q.code_in (fed_of q t k n) ≡ q.code_in k
  fed_code t k n = cond_both (q.takes t) (q.with_u k (q.told n)) k (λ p. q.code_in p ≡ q.code_in k) (λ _. law.with_u_code k (q.told n)) (λ _. refl)

  fed_fits : (t : K) (k : R) (n : ℤ) → fits q t k ≡ true → fits q t (fed_of q t k n) ≡ true
  fed_fits t k n h = cond_both (q.takes t) (q.with_u k (q.told n)) k (λ p. fits q t p ≡ true) (λ e. law.told_fits t k n e h) (λ _. h)

  -- and the acceptably tuned one: its states are judged alone
  tuned_fits : (t : K) (k : R) (x : Params) → q.bad t x ≡ None → fits q t k ≡ true → fits q t (q.retuned k x) ≡ true
  tuned_fits t k x none h =
      and_from (not (is_some (q.bad t (q.params_in (q.retuned k x))))) (q.holds t (q.retuned k x))
      (ap (λ (y : Params). not (is_some (q.bad t y))) (law.retuned_params k x) ∙ ap (λ (o : Option ℕ). not (is_some o)) none)
      (law.retuned_holds t k x ∙ (and_parts (not (is_some (q.bad t (q.params_in k)))) (q.holds t k) h).1)

  -- records of one kind have the same ports
  same_ports : (p k : R) → kind_in q p ≡ kind_in q k → SamePorts (meaning_of q).ports (meaning_of q).late p k
  same_ports p k e = (ap q.ports e, λ i. ap (λ (t : K). q.late t i) e)

  -- a block has at most three ports
  pub few : (k : R) → (meaning_of q).ports k ≤ 3
  few k = law.few (kind_in q k)

  -- the output depends on the direct ports alone
  pub late_law : LateLaw (meaning_of q).ports (meaning_of q).late (meaning_of q).output
  late_law k x y h = law.lateness (counted q k) (kind_in q k) x y h

  -- a block keeps its kind, and so its ports
  pub kind_law : KindLaw (meaning_of q).ports (meaning_of q).late (meaning_of q).next (meaning_of q).fed (meaning_of q).unfit (meaning_of q).tuned
  kind_law = record {
    next_same = λ k x. same_ports _ k (next_kept k x).0;
    fed_same = λ k n. same_ports _ k (kept k _ (fed_code (kind_in q k) (counted q k) n) (fed_fits (kind_in q k) (counted q k) n (counted_fits k))).0;
    tuned_same = λ k x none. same_ports _ k (kept k _ (law.retuned_code (counted q k) x) (tuned_fits (kind_in q k) (counted q k) x none (counted_fits k))).0;
  }
