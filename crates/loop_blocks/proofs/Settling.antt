-- A lag settles: the gap is at most 999 + m above and m below, and each scan takes one from m.
use Rattle.std.proofs.Common.{◌≡◌, ℕ, zero, suc, ◌+◌, ◌-◌, ◌*◌, ◌/◌, ◌<◌, ◌≤◌, true, ◌⊎◌, ℤ, pos, negsuc, ◌+ℤ◌, ◌-ℤ◌, ◌*ℤ◌, neg_ℤ, nat_abs, ◌≤ℤ◌, sym, refl, ap, ◌∙◌, subst, inl, inr, suc-mul, arith}
use native.Mathlib.Nat.{sub-zero}
use Rattle.std.proofs.lemmas.Int.{ints}
use Rattle.std.proofs.lemmas.Nat.{mul-le}
use Rattle.family.specs.declared.values.Inputs.{Inputs}
use Rattle.loop_blocks.specs.declared.record.Kind.{Kind}
use Rattle.loop_blocks.specs.declared.record.Kind.TheVariants.{Lag}
use Rattle.loop_blocks.specs.declared.record.LoopRecord.{LoopRecord}
use Rattle.loop_blocks.specs.Whole.{thousandth}
use Rattle.loop_blocks.specs.Lag.{gap, lag_next}
use Rattle.family.specs.Rules.{fits}
use Rattle.family.proofs.Kept.{counted_fits, next_kept}
use Rattle.loop_blocks.specs.Counts.{heard, heard_all}
use Rattle.loop_blocks.specs.Loops.{kinds, kind_in, counted, output, next, output_of, next_of}
use Rattle.loop_blocks.specs.Ranges.{LagRanges}
use Rattle.loop_blocks.specs.Steady.{after, LagSettles}
use Rattle.loop_blocks.specs.Laws.{lawful, lag_ranges, heard_small}

-- the gap D lies between -m and 999 + m
abbrev Near : ℕ → ℤ → Type 0
Near m (pos d) = d ≤ 999 + m
Near m (negsuc d) = suc d ≤ m

near_neg : (m n : ℕ) → n ≤ m → Near m (neg_ℤ (pos n))
near_neg m zero h = omega arith
near_neg m (suc n) h = h

-- what a step leaves of a gap above
up_step : (p d m : ℕ) → 1 ≤ p → p ≤ 1000 → d ≤ 999 + m → (p * d / 1000 ≤ d) × (d - p * d / 1000 ≤ 999 + (m - 1))
up_step p d m lo hi h =
    let above : p * d ≤ 1000 * d = mul-le p d 1000 d hi (omega arith) in
    let below : 1 * d ≤ p * d = mul-le 1 d p d lo (omega arith) in
    (omega arith, omega arith)

sub_pos : (d x : ℕ) → x ≤ d → pos (d - x) ≡ pos d -ℤ pos x
sub_pos d x h = omega (arith, ints)

sub_neg : (d x : ℕ) → x ≤ d → neg_ℤ (pos (d - x)) ≡ negsuc d -ℤ negsuc x
sub_neg d x h = omega (arith, ints)

-- a step takes one from m
moved : (p m : ℕ) (D : ℤ) → 1 ≤ p → p ≤ 1000 → Near m D → Near (m - 1) (D -ℤ thousandth (pos p *ℤ D))
moved p m (pos d) lo hi h =
    let s = up_step p d m lo hi h in
    subst (Near (m - 1)) (sub_pos d (p * d / 1000) s.0) s.1
moved zero m (negsuc d) lo hi h = absurd (omega arith)
moved (suc p) m (negsuc d) lo hi h =
    let y : ℕ = p * suc d + d in
    let same : suc y ≡ suc p * suc d = omega (arith, suc-mul p (suc d)) in
    let top : suc p * suc d ≤ 1000 * suc d = mul-le (suc p) (suc d) 1000 (suc d) hi (omega arith) in
    let low : y / 1000 ≤ d = omega arith in
    subst (λ (n : ℕ). Near (m - 1) (negsuc d -ℤ thousandth (neg_ℤ (pos n)))) same
    (subst (Near (m - 1)) (sub_neg d (y / 1000) low) (near_neg (m - 1) (d - y / 1000) (omega arith)))

gap_moved : (a u q : ℤ) → gap a u -ℤ q ≡ gap a (u +ℤ q)
gap_moved a u q = omega (arith, ints)

near_next : (p : ℤ) (m : ℕ) (a u : ℤ) → pos 1 ≤ℤ p → p ≤ℤ pos 1000 → Near m (gap a u) → Near (m - 1) (gap a (lag_next p a u))
near_next (negsuc p) m a u lo hi h = absurd (omega (arith, ints))
near_next (pos p) m a u lo hi h =
    subst (Near (m - 1)) (gap_moved a u (thousandth (pos p *ℤ gap a u))) (moved p m (gap a u) (omega (arith, ints)) (omega (arith, ints)) h)

near_in : (m : ℕ) (D : ℤ) → nat_abs D ≤ m → Near m D
near_in m (pos d) h = omega arith
near_in m (negsuc d) h = h

-- rounding down gives the one z with a remainder below the divisor
thousandth_is : (w z : ℤ) (r : ℕ) → r < 1000 → w ≡ pos 1000 *ℤ z +ℤ pos r → thousandth w ≡ z
thousandth_is (pos n) (pos k) r h e = ap pos (omega (arith, ints))
thousandth_is (pos n) (negsuc k) r h e = absurd (omega (arith, ints))
thousandth_is (negsuc n) (pos k) r h e = absurd (omega (arith, ints))
thousandth_is (negsuc n) (negsuc k) r h e = ap negsuc (omega (arith, ints))

-- a gap of 0 to 999 gives the input or one below it
at_end : (a u D : ℤ) → gap a u ≡ D → Near 0 D → (thousandth u ≡ a) ⊎ (thousandth u ≡ a -ℤ pos 1)
at_end a u (pos zero) e h = inl (thousandth_is u a 0 (omega arith) (omega (arith, ints)))
at_end a u (pos (suc d)) e h = inr (thousandth_is u (a -ℤ pos 1) (999 - d) (omega arith) (omega (arith, ints)))
at_end a u (negsuc d) e h = absurd (omega arith)

-- what counts as a lag lies in its ranges
in_range : (k : LoopRecord) → kind_in k ≡ Lag → LagRanges (counted k)
in_range k e = lag_ranges (counted k) (subst (λ (t : Kind). fits kinds t (counted k) ≡ true) e (counted_fits kinds lawful k))

-- the next record of a lag is a lag with the next state
next_lag : (k : LoopRecord) (x : Inputs ℤ) → kind_in k ≡ Lag → (counted (next k x)).u ≡ lag_next (counted k).params.p (heard x.a) (counted k).u
next_lag k x e = ap (λ (q : LoopRecord). q.u) ((next_kept kinds lawful k x).1 ∙ ap (λ (t : Kind). next_of t (counted k) (heard_all x)) e)

-- each scan takes one from m
near_after : (n m : ℕ) (k : LoopRecord) (x : Inputs ℤ) → kind_in k ≡ Lag → Near m (gap (heard x.a) (counted k).u) →
    (kind_in (after n k x) ≡ Lag) × Near (m - n) (gap (heard x.a) (counted (after n k x)).u)
unfolding after
near_after zero m k x e h = (e, rw sub-zero h)
near_after (suc n) m k x e h =
    let r = in_range k e in
    let one = near_next (counted k).params.p m (heard x.a) (counted k).u r.p_low r.p_high h in
    let more = near_after n (m - 1) (next k x) x ((next_kept kinds lawful k x).0 ∙ e) (subst (λ (u : ℤ). Near (m - 1) (gap (heard x.a) u)) (sym (next_lag k x e)) one) in
    let less : m - 1 - n ≡ m - suc n = omega arith in
    (more.0, subst (λ (i : ℕ). Near i (gap (heard x.a) (counted (after n (next k x) x)).u)) less more.1)

pub settles : LagSettles 2000000000
settles k x n e long =
    let a = heard_small x.a in
    let r = in_range k e in
    let wide : nat_abs (gap (heard x.a) (counted k).u) ≤ 2000000000 = omega (arith, ints) in
    let run = near_after n 2000000000 k x e (near_in 2000000000 _ wide) in
    let none : 2000000000 - n ≡ 0 = omega arith in
    let q = after n k x in
    let out : output q x ≡ thousandth (counted q).u = ap (λ (t : Kind). output_of t (counted q) (heard_all x)) run.0 in
    elim (at_end (heard x.a) (counted q).u _ refl (subst (λ (i : ℕ). Near i (gap (heard x.a) (counted q).u)) none run.1))
    [ inl s ↦ inl (out ∙ s) | inr s ↦ inr (out ∙ s) ]
