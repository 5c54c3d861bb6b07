-- What the family owes of its kinds, and so the laws of the family.
use Rattle.std.specs.Prelude.{◌≡◌, ◌≤◌, Bool, true, false, cond, not, is_some, ℤ, pos, ◌+ℤ◌, Some, refl}
use Rattle.std.specs.Int.{int_min}
use Rattle.std.proofs.Common.{arith, rules}
use Rattle.std.proofs.lemmas.Int.{ints}
use Rattle.std.proofs.lemmas.Bool.Decides.{nat_tests}
use Rattle.std.proofs.lemmas.Bool.{and_parts, and_from}
use Rattle.family.specs.declared.values.Inputs.{Inputs}
use Rattle.family.specs.Laws.{LateLaw, KindLaw}
use Rattle.family.specs.Params.{within, among}
use Rattle.family.specs.Rules.{Lawful, fits}
use Rattle.family.proofs.Kept as kept
use Rattle.interlock_blocks.specs.declared.record.Kind.{Kind}
use Rattle.interlock_blocks.specs.declared.record.Kind.TheVariants.{In, And, Or, Not, Latch, Hold, Timer}
use Rattle.interlock_blocks.specs.declared.record.InterlockRecord.{InterlockRecord}
use Rattle.interlock_blocks.specs.Kinds.{kind_of, kind_code, ports_of, late_of, takes_of, bad_of, limit_of}
use Rattle.interlock_blocks.specs.Interlocks.{bit, output_of, next_u, with_u, kinds, interlocks}

-- a kind has at most three ports
few : (t : Kind) → ports_of t ≤ 3
few t = search rules

-- the output of a block depends on its direct ports alone
lateness : (k : InterlockRecord) → LateLaw ports_of late_of (λ t. output_of t k)
lateness k In x y h = refl
lateness k And x y h = let ea = h 0 refl in let eb = h 1 refl in cc
lateness k Or x y h = let ea = h 0 refl in let eb = h 1 refl in cc
lateness k Not x y h = let ea = h 0 refl in cc
lateness k Latch x y h = let ea = h 0 refl in let eb = h 1 refl in cc
lateness k Hold x y h = refl
lateness k Timer x y h = let ea = h 0 refl in cc

-- true and false are states of 0 to 1
bit_among : (b : Bool) → among (pos 0) (bit b) (pos 1) ≡ true
bit_among true = refl
bit_among false = refl

-- a timer's next count is one that it can have
count_among : (b : Bool) (p u : ℤ) → among (pos 1) p (pos 1000000) ≡ true → among (pos 0) u (pos 1000000) ≡ true → among (pos 0) (cond b (int_min (u +ℤ pos 1) p) (pos 0)) (pos 1000000) ≡ true
count_among true p u hp hu = grind (arith, nat_tests, ints)
count_among false p u hp hu = refl

-- the parameters pass, and the state passes
params_pass : (t : Kind) (k : InterlockRecord) → fits kinds t k ≡ true → not (is_some (bad_of t k.params)) ≡ true
params_pass t k h = (and_parts _ (among (pos 0) k.u (limit_of t)) h).0

state_passes : (t : Kind) (k : InterlockRecord) → fits kinds t k ≡ true → among (pos 0) k.u (limit_of t) ≡ true
state_passes t k h = (and_parts _ (among (pos 0) k.u (limit_of t)) h).1

-- another state that the kind can have passes
state_fits : (t : Kind) (k : InterlockRecord) (u : ℤ) → fits kinds t k ≡ true → among (pos 0) u (limit_of t) ≡ true → fits kinds t (with_u k u) ≡ true
state_fits t k u h = and_from _ (among (pos 0) u (limit_of t)) (params_pass t k h)

-- the next state passes
next_passes : (t : Kind) (k : InterlockRecord) (x : Inputs Bool) → fits kinds t k ≡ true → among (pos 0) (next_u t k x) (limit_of t) ≡ true
next_passes Latch k x h = bit_among (output_of Latch k x)
next_passes Hold k x h = bit_among x.a
next_passes Timer k x h = count_among x.a k.params.p k.u (grind (arith, nat_tests)) (state_passes Timer k h)
next_passes _ k x h = grind arith

-- a kind that takes feeds can have either state
takes_bit : (t : Kind) (b : Bool) → takes_of t ≡ true → among (pos 0) (bit b) (limit_of t) ≡ true
takes_bit In b e = bit_among b
takes_bit _ b e = grind arith

-- a kind is the kind of its code
coded : (t : Kind) → kind_of (kind_code t) ≡ Some t
coded t = grind arith

pub lawful : Lawful kinds
lawful = record {
  few = few;
  lateness = lateness;
  coded = coded;
  idle_fits = refl;
  made_code = λ n x u. refl;
  next_code = λ t k x. refl;
  with_u_code = λ k u. refl;
  retuned_code = λ k x. refl;
  retuned_params = λ k x. refl;
  retuned_holds = λ t k x. refl;
  next_fits = λ t k x h. state_fits t k (next_u t k x) h (next_passes t k x h);
  told_fits = λ t k n e h. let b = not (within n 0) in state_fits t k (bit b) h (takes_bit t b e);
}

-- the laws of the family
pub at_most_three : (k : InterlockRecord) → interlocks.ports k ≤ 3
at_most_three = kept.few kinds lawful

pub late_law : LateLaw interlocks.ports interlocks.late interlocks.output
late_law = kept.late_law kinds lawful

pub kind_law : KindLaw interlocks.ports interlocks.late interlocks.next interlocks.fed interlocks.unfit interlocks.tuned
kind_law = kept.kind_law kinds lawful
