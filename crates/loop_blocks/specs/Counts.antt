-- What states and signals count: each state of a record within the limit of its kind, and a signal within its own.
use Rattle.std.specs.Prelude.{Bool, cond, ◌&&◌, ℤ, pos}
use Rattle.family.specs.declared.values.Inputs.{Inputs}
use Rattle.family.specs.Params.{within}
use Rattle.loop_blocks.specs.declared.record.Kind.{Kind}
use Rattle.loop_blocks.specs.declared.record.Kind.TheVariants.{In, Pid, Pidt, Lag, Hold}
use Rattle.loop_blocks.specs.declared.record.Limits.{Limits}
use Rattle.loop_blocks.specs.declared.record.LoopRecord.{LoopRecord}

-- how large each state of a kind can be; one that the kind does not have is 0
abbrev pub limits_of : Kind → Limits
limits_of In = record { u = 1000000; v = 0; w = 0; z = 0 }
limits_of Pid = record { u = 1000000000; v = 2000000; w = 1000000; z = 1000000 }
limits_of Pidt = record { u = 1000000000; v = 2000000; w = 1000000; z = 1000000 }
limits_of Lag = record { u = 1000000000; v = 0; w = 0; z = 0 }
limits_of Hold = record { u = 1000000; v = 0; w = 0; z = 0 }
limits_of _ = record { u = 0; v = 0; w = 0; z = 0 }

-- each state within its limit, each judged alone
abbrev pub states_fit : Limits → LoopRecord → Bool
states_fit m k = ((within k.u m.u && within k.v m.v) && within k.w m.w) && within k.z m.z

-- a signal as it counts: one out of range is at rest
abbrev pub heard : ℤ → ℤ
heard s = cond (within s 1000000) s (pos 0)

-- three inputs as they count
abbrev pub heard_all : Inputs ℤ → Inputs ℤ
heard_all x = record { a = heard x.a; b = heard x.b; c = heard x.c }
