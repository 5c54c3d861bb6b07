-- What interlock blocks do, kind by kind, and the meaning of the family.
use Rattle.std.specs.Prelude.{Bool, false, cond, not, ◌&&◌, ◌||◌, ℤ, pos, ◌+ℤ◌, int_le, int_lt}
use Rattle.std.specs.Int.{int_min}
use Rattle.family.specs.declared.values.Inputs.{Inputs}
use Rattle.family.specs.Meaning.{Meaning}
use Rattle.family.specs.Params.{within, among}
use Rattle.family.specs.Rules.{Rules, meaning_of}
use Rattle.interlock_blocks.specs.declared.record.Kind.{Kind}
use Rattle.interlock_blocks.specs.declared.record.Kind.TheVariants.{In, And, Or, Not, Latch, Hold, Timer}
use Rattle.interlock_blocks.specs.declared.record.InterlockRecord.{InterlockRecord}
use Rattle.interlock_blocks.specs.Kinds.{kind_named, kind_of, kind_code, ports_of, late_of, takes_of, starts_of, bad_of, limit_of}

-- a state of 0 or 1 as true or false
abbrev pub is_on : ℤ → Bool
is_on u = int_lt (pos 0) u

-- true is 1, false is 0
abbrev pub bit : Bool → ℤ
bit b = cond b (pos 1) (pos 0)

-- the output of a block of a kind
abbrev pub output_of : Kind → InterlockRecord → Inputs Bool → Bool
output_of In k x = is_on k.u
output_of And k x = x.a && x.b
output_of Or k x = x.a || x.b
output_of Not k x = not x.a
output_of Latch k x = (x.a || is_on k.u) && not x.b
output_of Hold k x = is_on k.u
output_of Timer k x = x.a && int_le k.params.p k.u

-- the next state of a block of a kind
abbrev pub next_u : Kind → InterlockRecord → Inputs Bool → ℤ
next_u Latch k x = bit (output_of Latch k x)
next_u Hold k x = bit x.a
next_u Timer k x = cond x.a (int_min (k.u +ℤ pos 1) k.params.p) (pos 0)
next_u _ k x = k.u

-- the record with another state
abbrev pub with_u : InterlockRecord → ℤ → InterlockRecord
with_u k u = record { code = k.code; params = k.params; u = u }

-- what the kinds say: each state is judged alone, and a feed of 0 is false, of any other number true
abbrev pub kinds : Rules Kind InterlockRecord Bool
kinds = record {
  named = kind_named;
  of_code = kind_of;
  code = kind_code;
  plain = In;
  ports = ports_of;
  late = late_of;
  takes = takes_of;
  told = λ n. bit (not (within n 0));
  starts = starts_of;
  bad = bad_of;
  holds = λ t k. among (pos 0) k.u (limit_of t);
  made = λ n x u. record { code = n; params = x; u = u };
  code_in = λ k. k.code;
  params_in = λ k. k.params;
  retuned = λ k x. record { code = k.code; params = x; u = k.u };
  with_u = with_u;
  output = output_of;
  next = λ t k x. with_u k (next_u t k x);
  number = bit;
  rest = false;
}

-- the family's meaning, for every record and every signal
abbrev pub interlocks : Meaning InterlockRecord Bool
interlocks = meaning_of kinds

-- the record after a feed, what a block puts out, and the record after the scan
abbrev pub fed : InterlockRecord → ℤ → InterlockRecord
fed = interlocks.fed

abbrev pub output : InterlockRecord → Inputs Bool → Bool
output = interlocks.output

abbrev pub next : InterlockRecord → Inputs Bool → InterlockRecord
next = interlocks.next
