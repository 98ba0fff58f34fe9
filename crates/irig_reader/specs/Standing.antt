-- Where a reader stands, by what is true.
-- Source: docs/HEADLINE.md; this project's profile.
use Rattle.std.specs.Prelude.{ℕ, ⊤}
use Rattle.irig_time.specs.Timelines.{TimelineValue}
use Rattle.irig_hold.specs.Truth.{IsOnTime}
use Rattle.irig_reader.specs.declared.rule.State.{State}
use Rattle.irig_reader.specs.declared.rule.State.TheVariants.{Idle, Acquiring, Locked}

-- the reader has nothing to go on, or its hold has come to T(n)
abbrev pub StandsAtTruth : TimelineValue → ℕ → State → Type 0
StandsAtTruth t n Idle = ⊤
StandsAtTruth t n (Acquiring h count) = IsOnTime t n h
StandsAtTruth t n (Locked h) = IsOnTime t n h
