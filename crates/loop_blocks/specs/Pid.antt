-- The velocity form of a controller, gains in thousandths per scan: a is the set point, b the measurement, c the tracking input.
use Rattle.std.specs.Prelude.{ℤ, pos, ◌+ℤ◌, ◌-ℤ◌, ◌*ℤ◌}
use Rattle.loop_blocks.specs.declared.record.LoopRecord.{LoopRecord}
use Rattle.loop_blocks.specs.Whole.{wide, thousandth}

-- e, the error
abbrev pub error_of : ℤ → ℤ → ℤ
error_of a b = a -ℤ b

-- d, by how much the measurement's change has changed: w and z are the measurements of the two scans before
abbrev pub bend_of : LoopRecord → ℤ → ℤ
bend_of k b = b -ℤ pos 2 *ℤ k.w +ℤ k.z

-- the state, with p times the error's change, q times the error, and less r times d: v is the error of the scan before
abbrev pub moved_of : LoopRecord → ℤ → ℤ → ℤ
moved_of k a b = k.u +ℤ k.params.p *ℤ (error_of a b -ℤ k.v) +ℤ k.params.q *ℤ error_of a b -ℤ k.params.r *ℤ bend_of k b

-- s, the output in thousandths
abbrev pub sum_of : LoopRecord → ℤ → ℤ → ℤ
sum_of k a b = wide (moved_of k a b)

-- y, the output
abbrev pub pid_out : LoopRecord → ℤ → ℤ → ℤ
pid_out k a b = thousandth (sum_of k a b)

-- the next record, with u given
abbrev pub shifted : LoopRecord → ℤ → ℤ → ℤ → LoopRecord
shifted k a b u = record { code = k.code; params = k.params; u = u; v = error_of a b; w = b; z = k.w }

-- without tracking: u is s
abbrev pub pid_next : LoopRecord → ℤ → ℤ → LoopRecord
pid_next k a b = shifted k a b (sum_of k a b)

-- with tracking: u is s, moved by as much as c lies off y
abbrev pub pidt_next : LoopRecord → ℤ → ℤ → ℤ → LoopRecord
pidt_next k a b c = shifted k a b (wide (sum_of k a b +ℤ pos 1000 *ℤ (c -ℤ pid_out k a b)))
