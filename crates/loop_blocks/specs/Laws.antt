-- What the family owes of its kinds, and so the laws of the family.
use Rattle.std.specs.Prelude.{◌≡◌, ◌≤◌, true, not, ℤ, pos, ◌+ℤ◌, ◌-ℤ◌, ◌*ℤ◌, ◌≤ℤ◌, is_some, Some, unsigned_abs, refl}
use Rattle.std.proofs.Common.{arith, rules}
use Rattle.std.proofs.lemmas.Int.{ints}
use Rattle.std.proofs.lemmas.Bool.Decides.{nat_tests}
use Rattle.std.proofs.lemmas.Bool.{and_parts, and_from}
use Rattle.family.specs.declared.values.Inputs.{Inputs}
use Rattle.family.specs.Laws.{LateLaw, KindLaw}
use Rattle.family.specs.Rules.{Lawful, fits}
use Rattle.family.proofs.Kept as kept
use Rattle.loop_blocks.specs.declared.record.Kind.{Kind}
use Rattle.loop_blocks.specs.declared.record.Kind.TheVariants.{In, Pid, Pidt, Lim, Root, Lag, Hold, Low, High, Sum, Gain}
use Rattle.loop_blocks.specs.declared.record.Limits.{Limits}
use Rattle.loop_blocks.specs.declared.record.LoopRecord.{LoopRecord}
use Rattle.loop_blocks.specs.Whole.{span, wide, thousandth}
use Rattle.loop_blocks.specs.Pid.{moved_of, sum_of, shifted}
use Rattle.loop_blocks.specs.Lag.{lag_next}
use Rattle.loop_blocks.specs.Kinds.{kind_of, kind_code, ports_of, late_of, takes_of, bad_of}
use Rattle.loop_blocks.specs.Counts.{limits_of, states_fit, heard, heard_all}
use Rattle.loop_blocks.specs.Loops.{output_of, next_of, with_u, kinds, loops}
use Rattle.loop_blocks.specs.Ranges.{PidRanges, LagRanges}
use Rattle.loop_blocks.specs.Lagging.{stays}

-- a kind has at most three ports
few : (t : Kind) → ports_of t ≤ 3
few t = search rules

-- a kind is the kind of its code
coded : (t : Kind) → kind_of (kind_code t) ≡ Some t
coded t = grind arith

-- the output of a block depends on its direct ports alone
lateness : (k : LoopRecord) → LateLaw ports_of late_of (λ t x. output_of t k (heard_all x))
lateness k In x y h = refl
lateness k Pid x y h = let ea = h 0 refl in let eb = h 1 refl in cc
lateness k Pidt x y h = let ea = h 0 refl in let eb = h 1 refl in cc
lateness k Lim x y h = let ea = h 0 refl in cc
lateness k Root x y h = let ea = h 0 refl in cc
lateness k Lag x y h = refl
lateness k Hold x y h = refl
lateness k Low x y h = let ea = h 0 refl in let eb = h 1 refl in cc
lateness k High x y h = let ea = h 0 refl in let eb = h 1 refl in cc
lateness k Sum x y h = let ea = h 0 refl in let eb = h 1 refl in let ec = h 2 refl in cc
lateness k Gain x y h = let ea = h 0 refl in cc

-- what is limited is small
pub heard_small : (s : ℤ) → unsigned_abs (heard s) ≤ 1000000
heard_small s = grind (arith, nat_tests, ints)

wide_small : (n : ℤ) → unsigned_abs (wide n) ≤ 1000000000
wide_small n = grind (arith, nat_tests, ints)

span_small : (n : ℤ) → unsigned_abs (span n) ≤ 1000000
span_small n = grind (arith, nat_tests, ints)

-- states within their limits pass
states_pass : (m : Limits) (k : LoopRecord) → unsigned_abs k.u ≤ m.u → unsigned_abs k.v ≤ m.v → unsigned_abs k.w ≤ m.w → unsigned_abs k.z ≤ m.z → states_fit m k ≡ true
states_pass m k hu hv hw hz = grind (arith, nat_tests)

-- the two halves of a kind's test
params_pass : (t : Kind) (k : LoopRecord) → fits kinds t k ≡ true → not (is_some (bad_of t k.params)) ≡ true
params_pass t k h = (and_parts (not (is_some (bad_of t k.params))) (states_fit (limits_of t) k) h).0

passes : (t : Kind) (k : LoopRecord) → not (is_some (bad_of t k.params)) ≡ true → states_fit (limits_of t) k ≡ true → fits kinds t k ≡ true
passes t k = and_from (not (is_some (bad_of t k.params))) (states_fit (limits_of t) k)

-- a controller's record that passes lies in its ranges
pub pid_ranges : (k : LoopRecord) → fits kinds Pid k ≡ true → PidRanges k
pid_ranges k h = grind (arith, nat_tests)

-- and so does a lag's
pub lag_ranges : (k : LoopRecord) → fits kinds Lag k ≡ true → LagRanges k
lag_ranges k h = grind (arith, nat_tests, ints)

-- the limits of a limiter whose record passes are in order
pub lim_order : (k : LoopRecord) → fits kinds Lim k ≡ true → k.params.p ≤ℤ k.params.q
lim_order k h = grind (arith, nat_tests, ints)

-- a controller's record that is shifted passes, where its state is limited
shifted_fits : (k : LoopRecord) (x : Inputs ℤ) (n : ℤ) → fits kinds Pid k ≡ true → fits kinds Pid (shifted k (heard x.a) (heard x.b) (wide n)) ≡ true
shifted_fits k x n h =
    let a = heard_small x.a in
    let b = heard_small x.b in
    let e : unsigned_abs (heard x.a -ℤ heard x.b) ≤ 2000000 = omega (arith, ints) in
    let q = shifted k (heard x.a) (heard x.b) (wide n) in
    passes Pid q (params_pass Pid k h) (states_pass (limits_of Pid) q (wide_small n) e b (pid_ranges k h).w_range)

-- the next record passes
next_fits : (t : Kind) (k : LoopRecord) (x : Inputs ℤ) → fits kinds t k ≡ true → fits kinds t (next_of t k (heard_all x)) ≡ true
next_fits Pid k x h = shifted_fits k x (moved_of k (heard x.a) (heard x.b)) h
next_fits Pidt k x h =
    let s = sum_of k (heard x.a) (heard x.b) in
    shifted_fits k x (s +ℤ pos 1000 *ℤ (heard x.c -ℤ thousandth s)) h
next_fits Lag k x h =
    let r = lag_ranges k h in
    let u : unsigned_abs (lag_next k.params.p (heard x.a) k.u) ≤ 1000000000 = stays k.params.p (heard x.a) k.u r.p_low r.p_high (heard_small x.a) r.u_range in
    grind (arith, nat_tests)
next_fits Hold k x h = let u = heard_small x.a in grind (arith, nat_tests)
next_fits _ k x h = grind arith

-- the next record has the code of the record before
next_code : (t : Kind) (k : LoopRecord) (x : Inputs ℤ) → (next_of t k x).code ≡ k.code
next_code t k x = grind arith

-- the fed record of a kind that takes feeds passes
told_fits : (t : Kind) (k : LoopRecord) (n : ℤ) → takes_of t ≡ true → fits kinds t k ≡ true → fits kinds t (with_u k (span n)) ≡ true
told_fits In k n e h = let u = span_small n in grind (arith, nat_tests)
told_fits _ k n e h = grind arith

pub lawful : Lawful kinds
lawful = record {
  few = few;
  lateness = lateness;
  coded = coded;
  idle_fits = refl;
  made_code = λ n x u. refl;
  next_code = λ t k x. next_code t k (heard_all x);
  with_u_code = λ k u. refl;
  retuned_code = λ k x. refl;
  retuned_params = λ k x. refl;
  retuned_holds = λ t k x. refl;
  next_fits = next_fits;
  told_fits = told_fits;
}

-- the laws of the family
pub at_most_three : (k : LoopRecord) → loops.ports k ≤ 3
at_most_three = kept.few kinds lawful

pub late_law : LateLaw loops.ports loops.late loops.output
late_law = kept.late_law kinds lawful

pub kind_law : KindLaw loops.ports loops.late loops.next loops.fed loops.unfit loops.tuned
kind_law = kept.kind_law kinds lawful
