-- What a simulated device told, by its calls.
-- Source: docs/WIRES.md, it announces; this project's profile.
use Rattle.std.specs.Prelude.{◌≡◌, ℕ, ◌+◌, ◌≤◌, ◌++◌, List}
use Rattle.std.specs.List.{Contains}
use Rattle.irig_time.specs.declared.second.UtcSecond.{UtcSecond}
use Rattle.irig_reader.specs.Locking.{voted_report}
use Rattle.irig_simulated.specs.declared.told_second.ToldSecond.{ToldSecond}
use Rattle.irig_simulated.specs.Kinds.{Kind, edges_by_kind}
use Rattle.irig_simulated.specs.Courses.{Course}
use Rattle.irig_simulated.specs.Doings.{told_by}

-- of these seconds one announces u by a vote, and began by its counter 98 ms behind the n-th edge at most
pub record IsAmong (k : Kind) (n : ℕ) (u : UtcSecond) (seconds : List ToldSecond) : Type 0 where
  pub told : ToldSecond
  pub among : Contains seconds told
  pub soon : told.told_count ≤ edges_by_kind k n + 98000
  pub says : told.beat.report ≡ voted_report u

-- between two places of a course it told what its calls in between answered
pub record HasTold (k : Kind) (x y : Course) : Type 0 where
  pub more : List ToldSecond
  pub told : y.told ≡ x.told ++ more
  pub calls : told_by k y.calls ≡ told_by k x.calls ++ more
