-- A clock that is not right itself: its seconds begin before those of UTC, or behind them.
-- Source: this project's profile. A clock says by its time quality how far off it may be: IEEE 1344-1995,
-- annex on IRIG-B.
use Rattle.std.specs.Prelude.{◌≡◌, ℕ, ◌+◌, ◌*◌, ◌≤◌, List, length}
use Rattle.irig_frame.specs.declared.symbol.Symbol.{Symbol}
use Rattle.irig_sync.specs.Lines.{Pulse, StandAt}
use Rattle.irig_time.specs.declared.rules.Rules.{Rules}
use Rattle.irig_time.specs.Timelines.{TimelineValue}
use Rattle.irig_port.specs.Limits.{quality_in}
use Rattle.irig_lines.specs.declared.setup.ClockRules.{ClockRules}
use Rattle.irig_lines.specs.Edges.{IsQuartz, IsNear}
use Rattle.irig_lines.specs.Lines.{IsTrueLately}
use Rattle.irig_lines.specs.Widths.{quality_us, worst_of}

-- the line was true for the last 1.2 s by the seconds of its own clock. Each of those begins at most
-- `off` us before the second of UTC or behind it, and is as long by the device's counter as one of UTC
-- may be
pub record IsTrueByItsClock (off within d : ℕ) (rules : Rules) (t : TimelineValue) (edges : ℕ → ℕ)
    (now : ℕ) (pulses : List Pulse) : Type 0 where
  pub own : ℕ → ℕ
  pub steady : IsQuartz d own
  pub near : (n : ℕ) → IsNear edges off off n (own n)
  pub truth : IsTrueLately within rules t own now pulses

-- the same, but that the second with which a frame ends begins no further off than the frame's quality
-- says, if that has a vote
pub record IsTrueByItsQuality (c : ClockRules) (rules : Rules) (t : TimelineValue) (edges : ℕ → ℕ)
    (now : ℕ) (pulses : List Pulse) : Type 0 where
  pub own : ℕ → ℕ
  pub steady : IsQuartz c.drift_us own
  pub truth : IsTrueLately c.within.us rules t own now pulses
  pub near : (f : ℕ) (s : List Symbol) → length s ≡ 100 → StandAt truth.line (100 * f) s
      → quality_in s ≤ worst_of c → IsNear edges (quality_us (quality_in s))
      (quality_us (quality_in s)) (f + 1) (own (f + 1))
