-- Local time, in microseconds of a device's own free-running counter, and when seconds begin by it.
-- Here the counter does not wrap.
-- Source: this project's profile.
use Rattle.std.specs.Prelude.{ℕ, ◌+◌, ◌≤◌}
use Rattle.irig_sync.specs.Edges.{IsSteady}
use Rattle.irig_time.specs.declared.claim.Claim.{Claim}
use Rattle.irig_time.specs.Timelines.{TimelineValue, IsTrueClaim}
use Rattle.irig_lines.specs.Exactness.{most_drift_us}

-- `edges n` is the local time at which T(n) begins, by a counter that is at most d us a second
-- wrong, and never more than 100
pub record IsQuartz (d : ℕ) (edges : ℕ → ℕ) : Type 0 where
  pub steady : IsSteady d edges
  pub few : d ≤ most_drift_us

-- the time lies at most so far before the n-th edge, and so far behind it
pub record IsNear (edges : ℕ → ℕ) (before behind n time : ℕ) : Type 0 where
  pub least : edges n ≤ time + before
  pub most : time ≤ edges n + behind

-- the time lies so near the edge of a second, and the claim is the true one of the second before it
pub record IsTrueNear (t : TimelineValue) (edges : ℕ → ℕ) (before behind time : ℕ) (claim : Claim)
    : Type 0 where
  pub second : ℕ
  pub near : IsNear edges before behind (second + 1) time
  pub truth : IsTrueClaim t (second + 1) claim
