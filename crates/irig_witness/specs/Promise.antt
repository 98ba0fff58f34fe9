-- What is promised of a device whose audit is kept.
-- Source: docs/WIRES.md; this project's profile.
use Rattle.std.specs.Prelude.{ℕ, ◌+◌, ◌*◌, ◌≤◌, List}
use Rattle.irig_frame.specs.declared.symbol.Symbol.{Symbol}
use Rattle.irig_time.specs.declared.rules.Rules.{Rules}
use Rattle.irig_time.specs.Tables.{TableValue}
use Rattle.irig_time.specs.Timelines.{TimelineValue, IsSecond}
use Rattle.irig_time.specs.TimelineFaults.{IsTimeline}
use Rattle.irig_reader.specs.Lives.{KnowsMonthEnds}
use Rattle.irig_lines.specs.declared.setup.ClockRules.{ClockRules}
use Rattle.irig_lines.specs.Lines.{IsLineOf}
use Rattle.irig_lines.specs.Paces.{WandersAsSet}
use Rattle.irig_timekeeper.specs.declared.stamp.Stamp.{Stamp}
use Rattle.irig_timekeeper.specs.Truth.{IsDevice}
use Rattle.irig_witness.specs.Elements.{KeepsRate}
use Rattle.irig_witness.specs.TrueFrames.{true_symbol}
use Rattle.irig_witness.specs.Witness.{TrueLines, lines_by}

-- a device is what its setting says, and each line that its audit compares with is true
pub record IsTrueDevice (t : TimelineValue) (rules : Rules) (c : ClockRules) (table : TableValue)
    (x : TrueLines)
    : Type 0 where
  pub is : IsDevice t c.drift_us x.edges c.reader_rules table
  pub learns : WandersAsSet c x.edges
  pub lines : (line : ℕ) → IsLineOf rules t (x.symbol line)

-- what a plant line has to say of a device: its counter keeps its rate, and its leap table is true
-- if it needs one
pub record IsTrueSetup (t : TimelineValue) (rate : ℕ) (c : ClockRules) (table : TableValue)
    : Type 0 where
  pub times : IsTimeline t
  pub steady : KeepsRate c.drift_us rate
  pub knows : KnowsMonthEnds t c.reader_rules table

-- the lines of generators, which send such frames, by such a counter
abbrev pub lines_of : Rules → TimelineValue → (sent : (line second : ℕ) → List (List Symbol))
    → (first rate : ℕ) → TrueLines
lines_of rules t sent first rate =
    lines_by (λ line. true_symbol rules t (sent line)) first rate

-- the stamp names the instant so many microseconds behind T(n), but for its bound and the drift of
-- two seconds
pub record IsStampedInTime (t : TimelineValue) (d n tau : ℕ) (stamp : Stamp) : Type 0 where
  pub m : ℕ
  pub truth : IsSecond t m stamp.second
  pub early : n * 1000000 + tau ≤ m * 1000000 + stamp.offset_us + stamp.bound_us + 2 * d
  pub late : m * 1000000 + stamp.offset_us ≤ n * 1000000 + tau + stamp.bound_us + 2 * d
