-- A device that is misled, though all but one premise of its laws is kept.
-- Source: this project's profile.
use Rattle.std.specs.Prelude.{◌≡◌, ℕ, ◌+◌, ◌*◌, ◌%◌, ◌^◌, ◌≤◌, List, ◌∷◌, Some, None}
use Rattle.irig_time.specs.declared.second.UtcSecond.{UtcSecond}
use Rattle.irig_time.specs.Timelines.{TimelineValue, IsSecond}
use Rattle.irig_time.specs.TimelineFaults.{IsTimeline}
use Rattle.irig_time.specs.Tables.{table_fault}
use Rattle.irig_timekeeper.specs.declared.clock.Beat.{Beat}
use Rattle.irig_lines.specs.Edges.{IsQuartz, IsNear}
use Rattle.irig_lines.specs.Lines.{IsTrueLately}
use Rattle.irig_timekeeper.specs.Keeping.{answer_at}
use Rattle.irig_timekeeper.specs.Truth.{IsEdgeAt}
use Rattle.irig_timekeeper.specs.Life.{Call, Made, AreInOrder, AreTrueAtTicks, life_of}
use Rattle.irig_timekeeper.specs.Life.Call.{Tick}
use Rattle.irig_lines.specs.Exactness.{most_held_us}
use Rattle.irig_lines.specs.Paces.{WandersAsSet}

-- a device of a setup and a table that are not refused, with a steady counter that wanders no more than it
-- may, on a sound timeline:
-- its calls are in order, and at each tick all but at most so many lines are true. The last tick
-- tells an edge near that of T(m), and announces a second that is not T(m)
pub record IsMisled (t : TimelineValue) (made : Made) (untrue_lines : ℕ) : Type 0 where
  pub edges : ℕ → ℕ
  pub steady : IsQuartz made.clock.drift_us edges
  pub sound : IsTimeline t
  pub listed : table_fault made.table.until made.table.leaps ≡ None
  pub start : ℕ
  pub calls : List Call
  pub now : ℕ
  pub learns : WandersAsSet made.clock edges
  pub order : AreInOrder start made.clock.redundancy (Tick now ∷ calls)
  pub truth : AreTrueAtTicks (IsTrueLately made.clock.within.us made.rules t edges) untrue_lines (Tick now ∷ calls)
  pub beat : Beat
  pub answer : answer_at (life_of made calls) (now % 2 ^ 32) ≡ Some beat
  pub u : UtcSecond
  pub says : beat.report.announce ≡ Some u
  pub m : ℕ
  pub edge : ℕ
  pub told : IsEdgeAt beat.edge_us edge now
  pub near : IsNear edges beat.bound_us beat.bound_us m edge
  pub untrue : ¬ IsSecond t m u
