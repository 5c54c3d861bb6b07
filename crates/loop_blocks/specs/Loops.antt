-- What loop blocks do, kind by kind, and the meaning of the family.
use Rattle.std.specs.Prelude.{ℤ, pos, ◌+ℤ◌, ◌-ℤ◌, ◌*ℤ◌}
use Rattle.std.specs.Int.{int_min, int_max}
use Rattle.family.specs.declared.values.Inputs.{Inputs}
use Rattle.family.specs.declared.values.Params.{Params}
use Rattle.family.specs.Meaning.{Meaning}
use Rattle.family.specs.Rules.{Rules, meaning_of, kind_in as counts_as, counted as counts}
use Rattle.loop_blocks.specs.declared.record.Kind.{Kind}
use Rattle.loop_blocks.specs.declared.record.Kind.TheVariants.{In, Pid, Pidt, Lim, Root, Lag, Hold, Low, High, Sum, Gain}
use Rattle.loop_blocks.specs.declared.record.LoopRecord.{LoopRecord}
use Rattle.loop_blocks.specs.Whole.{limit, span, thousandth}
use Rattle.loop_blocks.specs.Root.{root_out}
use Rattle.loop_blocks.specs.Pid.{pid_out, pid_next, pidt_next}
use Rattle.loop_blocks.specs.Lag.{lag_next}
use Rattle.loop_blocks.specs.Kinds.{kind_named, kind_of, kind_code, ports_of, late_of, takes_of, starts_of, bad_of}
use Rattle.loop_blocks.specs.Counts.{limits_of, states_fit, heard, heard_all}

-- the output of a block of a kind
abbrev pub output_of : Kind → LoopRecord → Inputs ℤ → ℤ
output_of In k x = k.u
output_of Pid k x = pid_out k x.a x.b
output_of Pidt k x = pid_out k x.a x.b
output_of Lim k x = limit k.params.p k.params.q x.a
output_of Root k x = root_out x.a
output_of Lag k x = thousandth k.u
output_of Hold k x = k.u
output_of Low k x = int_min x.a x.b
output_of High k x = int_max x.a x.b
output_of Sum k x = span (x.a +ℤ x.b -ℤ x.c)
output_of Gain k x = span (thousandth (k.params.p *ℤ x.a))

-- the record with another state u
abbrev pub with_u : LoopRecord → ℤ → LoopRecord
with_u k u = record { code = k.code; params = k.params; u = u; v = k.v; w = k.w; z = k.z }

-- the next record of a block of a kind
abbrev pub next_of : Kind → LoopRecord → Inputs ℤ → LoopRecord
next_of Pid k x = pid_next k x.a x.b
next_of Pidt k x = pidt_next k x.a x.b x.c
next_of Lag k x = with_u k (lag_next k.params.p x.a k.u)
next_of Hold k x = with_u k x.a
next_of _ k x = k

-- the record with other parameters
abbrev pub retuned : LoopRecord → Params → LoopRecord
retuned k x = record { code = k.code; params = x; u = k.u; v = k.v; w = k.w; z = k.z }

-- what the kinds say
abbrev pub kinds : Rules Kind LoopRecord ℤ
kinds = record {
  named = kind_named;
  of_code = kind_of;
  code = kind_code;
  plain = In;
  ports = ports_of;
  late = late_of;
  takes = takes_of;
  told = span;
  starts = starts_of;
  bad = bad_of;
  holds = λ t. states_fit (limits_of t);
  made = λ n x u. record { code = n; params = x; u = u; v = pos 0; w = pos 0; z = pos 0 };
  code_in = λ k. k.code;
  params_in = λ k. k.params;
  retuned = retuned;
  with_u = with_u;
  output = λ t k x. output_of t k (heard_all x);
  next = λ t k x. next_of t k (heard_all x);
  number = heard;
  rest = pos 0;
}

-- the family's meaning, for every record and every signal
abbrev pub loops : Meaning LoopRecord ℤ
loops = meaning_of kinds

-- the kind that a record counts as, and the record as it counts
abbrev pub kind_in : LoopRecord → Kind
kind_in = counts_as kinds

abbrev pub counted : LoopRecord → LoopRecord
counted = counts kinds

-- what a block puts out, and the record after the scan
abbrev pub output : LoopRecord → Inputs ℤ → ℤ
output = loops.output

abbrev pub next : LoopRecord → Inputs ℤ → LoopRecord
next = loops.next
