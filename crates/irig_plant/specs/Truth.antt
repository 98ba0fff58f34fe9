-- What it is for the entries of a reader to keep to the truth.
-- Source: docs/HEADLINE.md.
use Rattle.std.specs.Prelude.{◌≡◌, ◌<◌, ◌⊎◌, List, Some, None}
use Rattle.std.specs.List.{Contains}
use Rattle.irig_time.specs.declared.second.UtcSecond.{UtcSecond}
use Rattle.irig_time.specs.Timelines.{TimelineValue, second_at}
use Rattle.irig_reader.specs.declared.report.Cause.TheVariants.{Jump, RangeEnd, LeapGuard}
use Rattle.irig_plant.specs.declared.event.Event.{Event}
use Rattle.irig_plant.specs.declared.entry.Entry.{Entry}
use Rattle.irig_plant.specs.Schedule.{Setup, log_of}
use Rattle.irig_plant.specs.Edges.{voted_edges_of, IsGuard}
use Rattle.irig_plant.specs.Premises.{HasPremises}

-- under its premises an entry announces T of its edge, or nothing
pub record AnnouncesTruth (s : Setup) (ev : List Event) (e : Entry) : Type 0 where
  pub second : HasPremises s ev e → (u : UtcSecond) → e.report.announce ≡ Some u
      → second_at s.times e.edge ≡ Some u

-- its cause is then no jump, the end of the range only if there is no T of its edge, and the guard
-- only at a guard edge
pub record GivesNoFalseAlarm (s : Setup) (ev : List Event) (e : Entry) : Type 0 where
  pub jump : HasPremises s ev e → ¬ (e.report.cause ≡ Jump)
  pub range_end : HasPremises s ev e → e.report.cause ≡ RangeEnd → second_at s.times e.edge ≡ None
  pub leap_guard : HasPremises s ev e → e.report.cause ≡ LeapGuard
      → IsGuard (voted_edges_of s e.reader ev) e.edge

-- an entry announces T of its edge, or nothing, without a premise
pub record IsTruthful (t : TimelineValue) (e : Entry) : Type 0 where
  pub second : (u : UtcSecond) → e.report.announce ≡ Some u → second_at t e.edge ≡ Some u

-- ---- two entries

-- an entry of the log has its premises, and announces this second
pub record Announces (s : Setup) (ev : List Event) (e : Entry) (u : UtcSecond) : Type 0 where
  pub logged : Contains (log_of s ev) e
  pub premises : HasPremises s ev e
  pub second : e.report.announce ≡ Some u

-- a second is earlier than another: of an earlier day, or earlier on the same day
abbrev pub IsBefore : UtcSecond → UtcSecond → Type 0
IsBefore u v = (u.day < v.day) ⊎ ((u.day ≡ v.day) × (u.sod < v.sod))
