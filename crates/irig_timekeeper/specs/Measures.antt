-- What a device measures of its own counter.
-- Source: this project's profile.
use Rattle.std.specs.Prelude.{◌≡◌, ℕ, ◌+◌, ◌≤◌, Option, Some}
use Rattle.irig_lines.specs.declared.rate.Rate.{Rate}
use Rattle.irig_lines.specs.Edges.{IsNear}
use Rattle.irig_lines.specs.Exactness.{most_vote_us, most_held_us}
use Rattle.irig_lines.specs.Rates.{IsMeanFrom}
use Rattle.irig_timekeeper.specs.Truth.{IsEdgeAt}

-- the rate is a mean of so many seconds that end with the one that was counted last: the device's edge
-- at the last tick lies less than half a second from T(from + seconds)
pub record IsMeasured (edges : ℕ → ℕ) (tick : ℕ) (edge_us : Option ℕ) (rate : Rate) : Type 0 where
  pub from : ℕ
  pub some : 1 ≤ rate.seconds
  pub few : rate.seconds ≤ 2000
  pub mean : IsMeanFrom edges from rate
  pub e : ℕ
  pub edge : ℕ
  pub told : edge_us ≡ Some e
  pub at : IsEdgeAt e edge tick
  pub near : IsNear edges (most_vote_us + most_held_us) (most_vote_us + most_held_us)
      (from + rate.seconds) edge
