-- What is promised of the log of a station.
-- Source: docs/HEADLINE.md; this project's profile.
use Rattle.std.specs.Prelude.{ℕ, ◌+◌, ◌*◌, ◌/◌, ◌%◌, ◌≤◌, Option, Some, None, ⊤, ◌≡◌, ◌++◌, List, ◌<◌, []}
use Rattle.irig_time.specs.Timelines.{TimelineValue, IsSecond}
use Rattle.std.specs.List.{Contains}
use Rattle.irig_time.specs.declared.second.UtcSecond.{UtcSecond}
use Rattle.irig_reader.specs.Locking.{voted_report}
use Rattle.irig_timekeeper.specs.declared.stamp.Stamp.{Stamp}
use Rattle.irig_timekeeper.specs.Announcing.{ComesWhole}
use Rattle.irig_timekeeper.specs.Life.{Call, HaveRisen, last_tick}
use Rattle.irig_timekeeper.specs.Lived.{keeping_after}
use Rattle.irig_witness.specs.Promise.{IsStampedInTime}
use Rattle.irig_simulated.specs.declared.heard.HeardPulse.{HeardPulse}
use Rattle.irig_simulated.specs.declared.told_second.ToldSecond.{ToldSecond}
use Rattle.irig_simulated.specs.Kinds.{edges_by_kind}
use Rattle.irig_simulated.specs.Truth.{IsToldOfItsEdge}
use Rattle.irig_station.specs.declared.entry.Entry.{Entry}
use Rattle.irig_station.specs.declared.entry.Entry.TheVariants.{Told, Stamped}
use Rattle.irig_station.specs.declared.audit.Audit.TheVariants.{Kept}
use Rattle.irig_station.specs.declared.event.Event.{Event}
use Rattle.irig_station.specs.declared.event.Event.TheVariants as event
use Rattle.irig_station.specs.StationSetups.{StationSetup, kind_of_device}
use Rattle.irig_station.specs.StationStandings.{StationStanding}

-- how many microseconds a second the counter of device r may be wrong, by its setting
abbrev pub drift_of_device : StationSetup → (r : ℕ) → ℕ
drift_of_device s r = (kind_of_device s r).made.clock.drift_us

-- a stamp of a time, if it is given, names its instant but for its bound and twice the drift
abbrev pub IsStampOfTime : TimelineValue → (drift time : ℕ) → Option Stamp → Type 0
IsStampOfTime t drift time None = ⊤
IsStampOfTime t drift time (Some stamp) =
    IsStampedInTime t drift (time / 1000000) (time % 1000000) stamp

-- an entry is true, by the start and the leaps of the setup alone: a second that is announced is T
-- of its edge, and begins no further from that than its bound says; a stamp names its instant
abbrev pub IsTrueEntry : StationSetup → Entry → Type 0
IsTrueEntry s (Told r told) = IsToldOfItsEdge s.times told
IsTrueEntry s (Stamped r time stamp) = IsStampOfTime s.times (drift_of_device s r) time stamp

-- two stamps name instants, the first T(m) and so far behind it, that lie no further apart than so
pub record AreStampedTogether (t : TimelineValue) (one two : Stamp) (apart : ℕ) : Type 0 where
  pub m : ℕ
  pub n : ℕ
  pub is_one : IsSecond t m one.second
  pub is_two : IsSecond t n two.second
  pub least : m * 1000000 + one.offset_us ≤ n * 1000000 + two.offset_us + apart
  pub most : n * 1000000 + two.offset_us ≤ m * 1000000 + one.offset_us + apart

-- a station's log has so many entries more, at its end, so many pulses more were heard, and its audit
-- was kept if it is kept now
pub record LogHasGrown (before now : StationStanding) : Type 0 where
  pub more : List Entry
  pub log : now.log ≡ before.log ++ more
  pub pulses : List HeardPulse
  pub heard : now.heard ≡ before.heard ++ pulses
  pub kept : now.audit ≡ Kept → before.audit ≡ Kept

-- ---- a log whose premises broke

-- no stamp is asked for of an instant further back than so many microseconds
abbrev pub IsAskedWithin : (ago : ℕ) → Event → Type 0
IsAskedWithin ago (event.Stamp r us) = us ≤ ago
IsAskedWithin ago e = ⊤

-- what an entry shows that was logged in the second of edge n or later: the second that was told is
-- of no edge before the last one before that; the instant of a stamp lies no further than so before
-- edge n
abbrev pub IsLoggedFrom : (ago n : ℕ) → Entry → Type 0
IsLoggedFrom ago n (Told r told) = n ≤ told.edge + 1
IsLoggedFrom ago n (Stamped r time stamp) = n * 1000000 ≤ time + ago

-- ---- a device announces

-- the log has a second of device r that announces u by a vote, and began by its counter 98 ms behind
-- the n-th edge at most; while the audit is kept it is of that edge
pub record IsAnnounced (s : StationSetup) (r n : ℕ) (u : UtcSecond) (x : StationStanding)
    : Type 0 where
  pub told : ToldSecond
  pub among : Contains x.log (Told r told)
  pub soon : told.told_count ≤ edges_by_kind (kind_of_device s r) n + 98000
  pub says : told.beat.report ≡ voted_report u
  pub edge : x.audit ≡ Kept → told.edge ≡ n

-- as many seconds in a row as device r locks after and two more, from the m-th on, came whole in these
-- of its calls, which came behind those; the first of their frames ends in these, and the last tick
-- came 3 ms or more behind the last edge
pub record AreWholeInARow (s : StationSetup) (r start m : ℕ) (calls before : List Call) : Type 0 where
  pub some : 1 ≤ m
  pub told : ℕ
  pub risen : HaveRisen told before
  pub ticked : last_tick start before ≤ told
  pub past : told + 11000 < edges_by_kind (kind_of_device s r) m
  pub whole : (n : ℕ) → n < (kind_of_device s r).made.clock.reader_rules.lock_after + 2
      → ComesWhole s.times (edges_by_kind (kind_of_device s r))
      (keeping_after (kind_of_device s r).made []) (m + n) (calls ++ before)
  pub last : edges_by_kind (kind_of_device s r)
      (m + 1 + (kind_of_device s r).made.clock.reader_rules.lock_after) + 3000
      ≤ last_tick start (calls ++ before)
