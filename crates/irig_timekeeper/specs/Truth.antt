-- What is true of a device's lines, and of where it stands.
-- Source: this project's profile.
use Rattle.std.specs.Prelude.{◌≡◌, ℕ, ◌+◌, ◌*◌, ◌%◌, ◌^◌, ◌<◌, ◌≤◌, ◌⊎◌, Bool, true, false, List, count_by, Option, Some, None, ⊤}
use Rattle.std.specs.List.{range_with_len}
use Rattle.irig_sync.specs.Lines.{Pulse}
use Rattle.irig_time.specs.declared.rules.Rules.{Rules}
use Rattle.irig_time.specs.declared.second.UtcSecond.{UtcSecond}
use Rattle.irig_time.specs.Timelines.{TimelineValue, IsSecond, leap_of, mark_by}
use Rattle.irig_time.specs.TimelineFaults.{IsTimeline}
use Rattle.irig_time.specs.Tables.{TableValue, table_mark}
use Rattle.irig_time.specs.Days.{is_month_end}
use Rattle.irig_time.specs.declared.mark.Mark.TheVariants.{Unspoken}
use Rattle.irig_hold.specs.Steps.{HoldValue}
use Rattle.irig_hold.specs.Truth.{IsTrueTable, IsOnTime}
use Rattle.irig_reader.specs.declared.rules.ReaderRules.{ReaderRules}
use Rattle.irig_reader.specs.declared.rule.State.{State}
use Rattle.irig_reader.specs.declared.rule.State.TheVariants.{Idle, Acquiring, Locked}
use Rattle.irig_reader.specs.Lives.{KnowsMonthEnds}
use Rattle.irig_timekeeper.specs.declared.clock.Beat.{Beat}
use Rattle.irig_lines.specs.declared.lines.Vote.{Vote}
use Rattle.irig_lines.specs.declared.lines.Lines.{Lines}
use Rattle.irig_timekeeper.specs.declared.stamp.Stamp.{Stamp}
use Rattle.irig_lines.specs.declared.pace.Pace.{Pace}
use Rattle.irig_lines.specs.Paces.{grown_us}
use Rattle.irig_timekeeper.specs.Clock.{age_of, lasted}
use Rattle.irig_lines.specs.Edges.{IsQuartz, IsNear, IsTrueNear}
use Rattle.irig_lines.specs.Lines.{IfKept, IsInTurnOf}
use Rattle.irig_lines.specs.Steps.{line_at, claim_kept}
use Rattle.irig_lines.specs.declared.setup.ClockRules.{ClockRules}
use Rattle.irig_lines.specs.Widths.{vote_us}
use Rattle.irig_lines.specs.Exactness.{most_drift_us, most_vote_us, most_held_us}

-- the lines keep frames of these pulses, and all but at most f of the five are such true lines; a
-- line that is not there brought no pulse
pub record AreHeardTruly (IsTrue : List Pulse → Type 0) (c : ClockRules) (rules : Rules) (f now : ℕ)
    (lines : Lines) (pulses : ℕ → List Pulse)
    : Type 0 where
  pub untrue : ℕ → Bool
  pub few : count_by untrue (range_with_len 0 5) ≤ f
  pub true_lines : (i : ℕ) → i < 5 → untrue i ≡ false → IsTrue (pulses i)
  pub kept : (i : ℕ) → i < 5
      → IfKept (IsInTurnOf now) c rules (claim_kept c (line_at lines i).frame) (pulses i)

-- lines claim the true second before an edge, and the edge on which they agree lies no further from it
-- than its bound, and so much more before it and behind it; it has come, at most 103 ms ago
pub record IsTrueVote (t : TimelineValue) (edges : ℕ → ℕ) (early late now : ℕ) (vote : Vote)
    : Type 0 where
  pub edge : ℕ
  pub clock : vote.edge_us ≡ edge % 2 ^ 32
  pub truth : IsTrueNear t edges (early + vote.bound_us) (late + vote.bound_us) edge vote.claim
  pub small : vote.bound_us ≤ most_vote_us
  pub come : edge ≤ now
  pub soon : now ≤ edge + 103000

-- ---- where a device stands

-- a device's edge, by a clock of 32 bits, is that of the last tick, at this time: it lies at most
-- 1.006 s back, and not ahead
pub record IsEdgeAt (e edge tick : ℕ) : Type 0 where
  pub clock : e ≡ edge % 2 ^ 32
  pub come : edge ≤ tick
  pub soon : tick < edge + 1006000

-- so is it if there is an edge
abbrev pub IfEdgeAt : Option ℕ → ℕ → Type 0
IfEdgeAt None tick = ⊤
IfEdgeAt (Some e) tick = (edge : ℕ) × IsEdgeAt e edge tick

-- the hold has come to T(n), and will know how its month ends: its table is true; or, if it has heard
-- nothing on the month's last day, its last vote came at 23:59:01 at the latest, as true votes tell
-- from then on
pub record IsSureAt (t : TimelineValue) (table : TableValue) (n : ℕ) (h : HoldValue) : Type 0 where
  pub on_time : IsOnTime t n h
  pub knows : IsTrueTable t table
      ⊎ (h.heard ≡ Unspoken → is_month_end h.last.day ≡ true → h.last.sod ≤ 86341 + h.age)

-- the reader has nothing to go on, or its hold has come to T(n) so
abbrev pub StandsSurely : TimelineValue → TableValue → ℕ → State → Type 0
StandsSurely t table n Idle = ⊤
StandsSurely t table n (Acquiring h count) = IsSureAt t table n h
StandsSurely t table n (Locked h) = IsSureAt t table n h

-- the reader stands at T(w), as which its edge is right but for the bound of the last vote and so much
-- more, no more than comes of the edges since; what was announced last was T(last) at most
pub record StandsAt (t : TimelineValue) (edges : ℕ → ℕ) (early late d last : ℕ)
    (table : TableValue) (tick : ℕ) (stands : State) (voted : ℕ) (pace : Option Pace) (e w more : ℕ)
    : Type 0 where
  pub edge : ℕ
  pub at : IsEdgeAt e edge tick
  pub near : IsNear edges (early + voted + more) (late + voted + more) w edge
  pub small : voted ≤ most_vote_us
  pub truth : StandsSurely t table w stands
  pub grown : more ≤ grown_us d pace (age_of stands)
  pub few : more ≤ most_held_us
  pub behind : last ≤ w

-- a device has nothing to go on, or stands at the truth; its votes lie no further from their edges than
-- their bounds, that of the last one `voted`, and so much more before them and behind them
abbrev pub IsOnTrack : TimelineValue → (ℕ → ℕ) → (early late d last : ℕ) → TableValue → ℕ → State
    → (voted : ℕ) → Option Pace → Option ℕ → Type 0
IsOnTrack t edges early late d last table tick state voted pace None = (state ≡ Idle) × (last ≡ 0)
IsOnTrack t edges early late d last table tick state voted pace (Some e) =
    ((state ≡ Idle)
    × ((edge : ℕ) × IsEdgeAt e edge tick × (edges last + late + most_vote_us < edge + 500000)))
    ⊎ ((w : ℕ) × (more : ℕ)
    × StandsAt t edges early late d last table tick state voted pace e w more)

-- ---- what a device tells

-- the second is T(m), for an edge m that lies so near the one that is told, which has come, less than
-- 1.006 s ago
pub record IsToldTruly (t : TimelineValue) (edges : ℕ → ℕ) (before behind now : ℕ)
    (beat : Beat) (u : UtcSecond) : Type 0 where
  pub m : ℕ
  pub edge : ℕ
  pub clock : beat.edge_us ≡ edge % 2 ^ 32
  pub near : IsNear edges before behind m edge
  pub come : edge ≤ now
  pub soon : now < edge + 1006000
  pub truth : IsSecond t m u

-- the same, no further from the edge than the bound that is told, and so much more before it and
-- behind it; the bound is at most that of a vote and the drift of as many edges as the holdover has
-- lasted, and never above 492,899 us
pub record IsToldInHoldover (t : TimelineValue) (edges : ℕ → ℕ)
    (early late : ℕ) (c : ClockRules) (now : ℕ) (beat : Beat) (u : UtcSecond) : Type 0 where
  pub told : IsToldTruly t edges (early + beat.bound_us) (late + beat.bound_us) now beat u
  pub bound : beat.bound_us ≤ vote_us c c.drift_us + lasted beat.report.lock * c.drift_us
  pub few : lasted beat.report.lock ≤ c.reader_rules.holdover
  pub small : beat.bound_us ≤ most_vote_us + most_held_us

-- what is true of a device: its counter, the timeline, and its leap table if it needs one
pub record IsDevice (t : TimelineValue) (d : ℕ) (edges : ℕ → ℕ) (rules : ReaderRules)
    (table : TableValue) : Type 0 where
  pub steady : IsQuartz d edges
  pub sound : IsTimeline t
  pub knows : KnowsMonthEnds t rules table

-- a leap table does not keep a device from the truth that frames tell: it yields to them, or is true
abbrev pub FollowsTruth : TimelineValue → (prefers_frames : Bool) → TableValue → Type 0
FollowsTruth t prefers_frames table = (prefers_frames ≡ true) ⊎ IsTrueTable t table

-- the table knows how this day ends, if a month ends with it
abbrev pub KnowsEnd : TimelineValue → TableValue → ℕ → Type 0
KnowsEnd t table day =
    is_month_end day ≡ true → table_mark table day ≡ mark_by (leap_of t.leaps day)

-- the one second is T(m), and the other one T(n) for a greater n
pub record IsLaterSecond (t : TimelineValue) (u v : UtcSecond) : Type 0 where
  pub m : ℕ
  pub n : ℕ
  pub less : m < n
  pub before : IsSecond t m u
  pub then : IsSecond t n v

-- each of two edges that are told has come, less than 1.006 s before its tick, and the later one lies
-- half a second behind the other at least
pub record AreApartBeats (before now : ℕ) (beat then : Beat) : Type 0 where
  pub edge : ℕ
  pub later : ℕ
  pub told : IsEdgeAt beat.edge_us edge before
  pub told_later : IsEdgeAt then.edge_us later now
  pub apart : edge + 500000 ≤ later

-- the second and the offset of a stamp name the event's instant, but for its bound and so much more
pub record IsStampedTruly (t : TimelineValue) (edges : ℕ → ℕ) (more time : ℕ) (stamp : Stamp)
    : Type 0 where
  pub m : ℕ
  pub truth : IsSecond t m stamp.second
  pub early : edges m + stamp.offset_us ≤ time + stamp.bound_us + more
  pub late : time ≤ edges m + stamp.offset_us + stamp.bound_us + more
  pub small : stamp.bound_us ≤ most_vote_us + most_held_us
  pub behind : stamp.offset_us
      ≤ 1000000 + stamp.bound_us + most_vote_us + most_drift_us + 2 * more

-- by a counter that is at most d us a second wrong the time is that of the instant tau us behind
-- T(n), before the next second begins
pub record IsInstant (d : ℕ) (edges : ℕ → ℕ) (n tau time : ℕ) : Type 0 where
  pub least : edges n + tau ≤ time + d
  pub most : time ≤ edges n + tau + d
  pub begun : edges n ≤ time
  pub before_next : time < edges (n + 1)
