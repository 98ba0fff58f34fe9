-- What is to be seen of a reader over its ticks, the newest first: lanes of edges at which it stood
-- alike, or one of its ports told alike, and marks.
-- Source: docs/C.md; of leap seconds ITU-R TF.460-6, annex 1, 2.1 to 2.3.
use Rattle.std.specs.Prelude.{ℕ, ◌==◌, ◌&&◌, Bool, true, false, if◌then◌else◌, List, [], ◌∷◌, ◌++◌, Option, Some, None}
use Rattle.irig_reader.specs.declared.report.Lock.{Lock}
use Rattle.irig_reader.specs.declared.report.Lock.TheVariants.{Unlocked, Acquiring, Locked, Holdover}
use Rattle.irig_time.specs.declared.second.UtcSecond.{UtcSecond}
use Rattle.irig_time.specs.Days.{is_month_end}
use Rattle.report_found.specs.declared.tick.Tick.{Tick}
use Rattle.report_found.specs.Findings.{lists_below}
use Rattle.report_found.specs.Kinds.{same_kind}
use Rattle.report_found.specs.Stretches.{same_cause}
use Rattle.report_found.specs.Ticks.{kind_at, frame_at, second_at}
use Rattle.report_lanes.specs.declared.lane.Lane.{Lane}
use Rattle.report_lanes.specs.declared.lane.Mark.{Mark}
use Rattle.report_lanes.specs.declared.lane.Mark.TheVariants.{LeapSecond, DeletedSecond, MonthEnd}
use Rattle.report_lanes.specs.declared.lane.Shows.{Shows}
use Rattle.report_lanes.specs.declared.lane.Shows.TheVariants as shows
use Rattle.report_lanes.specs.declared.reader.ReaderLanes.{ReaderLanes}

-- ---- what is to be seen at a tick

-- a lane of its edge alone
abbrev pub at_edge : Tick → Shows → Lane
at_edge t what = record {
  reader = t.entry.reader;
  first = t.entry.edge;
  last = t.entry.edge;
  shows = what;
}

-- how the reader stood, and why
abbrev pub stood_at : Tick → Lane
stood_at t = at_edge t (shows.Stood t.entry.report.lock t.entry.report.cause)

-- what a port told, 0 to 4
abbrev pub told_at : ℕ → Tick → Lane
told_at port t = at_edge t (shows.Told port (kind_at port t))

-- what comes between a second that ends and the next one: a leap second; or a month begins, after its
-- 23:59:58 if a second is deleted
abbrev pub mark_between : UtcSecond → UtcSecond → Option Mark
mark_between ended begun =
    if begun.sod == 86400 then Some LeapSecond
    else (if (begun.sod == 0) && is_month_end ended.day
    then (if ended.sod == 86398 then Some DeletedSecond else Some MonthEnd)
    else None)

-- if both are known
abbrev pub mark_of : Option UtcSecond → Option UtcSecond → Option Mark
mark_of None begun = None
mark_of (Some ended) None = None
mark_of (Some ended) (Some begun) = mark_between ended begun

-- a mark at a tick
abbrev pub marked : Tick → Option Mark → Option Lane
marked t None = None
marked t (Some mark) = Some (at_edge t (shows.Mark mark))

-- what comes at its edge, by the true second that ended there and the one that begins
abbrev pub mark_at : Tick → Option Lane
mark_at t = marked t (mark_of (frame_at t) (second_at t))

-- ---- what goes on

-- whether two locks are the same, but for their counts
abbrev pub same_lock : Lock → Lock → Bool
same_lock Unlocked Unlocked = true
same_lock (Acquiring n) (Acquiring k) = true
same_lock Locked Locked = true
same_lock (Holdover n) (Holdover k) = true
same_lock _ _ = false

-- whether the same is to be seen
abbrev pub are_alike : Shows → Shows → Bool
are_alike (shows.Stood lock cause) (shows.Stood next other) =
    same_lock lock next && same_cause cause other
are_alike (shows.Told port kind) (shows.Told other next) = same_kind kind next
are_alike _ _ = false

-- a lane goes on where the same is to be seen, and else another one begins
abbrev pub grown : Option Lane → Lane → Lane
grown None now = now
grown (Some lane) now =
    if are_alike lane.shows now.shows then record lane { last = now.last } else now

-- the one that ends
abbrev pub ended : Option Lane → Lane → Option Lane
ended None now = None
ended (Some lane) now = if are_alike lane.shows now.shows then None else Some lane

-- the open lane of what is to be seen at each of some ticks
abbrev pub lane_of : (Tick → Lane) → List Tick → Option Lane
lane_of seen [] = None
lane_of seen (t ∷ ts) = Some (grown (lane_of seen ts) (seen t))

-- ---- of a reader

-- all that are open
abbrev pub open_of : List Tick → ReaderLanes
open_of ts = record {
  stood = lane_of stood_at ts;
  a = lane_of (told_at 0) ts;
  b = lane_of (told_at 1) ts;
  c = lane_of (told_at 2) ts;
  d = lane_of (told_at 3) ts;
  e = lane_of (told_at 4) ts;
}

-- that of a port in it, 0 to 4
abbrev pub open_port : ℕ → ReaderLanes → Option Lane
open_port port x =
    if port == 0 then x.a
    else (if port == 1 then x.b
    else (if port == 2 then x.c
    else (if port == 3 then x.d else x.e)))

-- as a list
abbrev pub if_some : Option Lane → List Lane
if_some None = []
if_some (Some lane) = lane ∷ []

-- all that a tick of a reader with so many ports ends, and its mark
abbrev pub ended_lanes : ℕ → ReaderLanes → Tick → List Lane
ended_lanes ports x t =
    if_some (ended x.stood (stood_at t))
    ++ (lists_below (λ port. if_some (ended (open_port port x) (told_at port t))) ports
    ++ if_some (mark_at t))

-- all that is open
abbrev pub open_lanes : ℕ → ReaderLanes → List Lane
open_lanes ports x =
    if_some x.stood ++ lists_below (λ port. if_some (open_port port x)) ports
