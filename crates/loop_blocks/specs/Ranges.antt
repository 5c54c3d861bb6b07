-- The ranges that the parameters and states of a controller and of a lag lie in once their records count.
use Rattle.std.specs.Prelude.{◌≤◌, pos, ◌≤ℤ◌, unsigned_abs}
use Rattle.loop_blocks.specs.declared.record.LoopRecord.{LoopRecord}

-- a controller's
pub record PidRanges (k : LoopRecord) : Type 0 where
  pub p_range : unsigned_abs k.params.p ≤ 100000
  pub q_range : unsigned_abs k.params.q ≤ 100000
  pub r_range : unsigned_abs k.params.r ≤ 100000
  pub u_range : unsigned_abs k.u ≤ 1000000000
  pub v_range : unsigned_abs k.v ≤ 2000000
  pub w_range : unsigned_abs k.w ≤ 1000000
  pub z_range : unsigned_abs k.z ≤ 1000000

-- a lag's
pub record LagRanges (k : LoopRecord) : Type 0 where
  pub p_low : pos 1 ≤ℤ k.params.p
  pub p_high : k.params.p ≤ℤ pos 1000
  pub u_range : unsigned_abs k.u ≤ 1000000000
