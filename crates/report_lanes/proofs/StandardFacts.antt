-- Known values of the definitions, worked by hand.
use Rattle.std.proofs.Common.{◌≡◌, ℕ, ◌+◌, true, false, ◌∷◌, [], map, List, Option, Some, None, refl}
use Rattle.irig_port.specs.declared.told.Told.{Told}
use Rattle.irig_port.specs.declared.told.Told.TheVariants as tells
use Rattle.irig_reader.specs.declared.report.Cause.{Cause}
use Rattle.irig_reader.specs.declared.report.Cause.TheVariants.{Voted, Held, NoVote, Expired}
use Rattle.irig_reader.specs.declared.report.Lock.{Lock}
use Rattle.irig_reader.specs.declared.report.Lock.TheVariants.{Unlocked, Locked, Holdover}
use Rattle.irig_reader.specs.Rule.{step_of}
use Rattle.irig_reader.proofs.SilentLaws.{no_vote}
use Rattle.irig_time.specs.declared.claim.Claim.{Claim}
use Rattle.irig_time.specs.declared.mark.Mark.{Mark}
use Rattle.irig_time.specs.declared.mark.Mark.TheVariants.{Unspoken, NoLeap, Insert, Delete}
use Rattle.irig_time.specs.declared.second.UtcSecond.{UtcSecond}
use Rattle.irig_time.specs.Days.{is_month_end, four_years}
use Rattle.irig_time.specs.Timelines.{second_at}
use Rattle.irig_plant.specs.declared.entry.Entry.{Entry}
use Rattle.irig_plant.specs.declared.event.Event.{Event}
use Rattle.irig_plant.specs.declared.event.Event.TheVariants as event
use Rattle.irig_plant.specs.Schedule.{entry_of}
use Rattle.irig_plant.proofs.NoonPlants.{plant, told_nothing}
use Rattle.report_found.specs.declared.kind.Kind.TheVariants.{Agreed, Silent, Poor, AnotherSecond, AnotherMark}
use Rattle.report_found.specs.declared.stretch.Stretch.{Stretch}
use Rattle.report_found.specs.declared.tick.Tick.{Tick}
use Rattle.report_found.specs.Stretches.{stretch_of}
use Rattle.report_lanes.specs.Scenes.{all_ended, all_open}
use Rattle.report_lanes.specs.declared.lane.Lane.{Lane}
use Rattle.report_lanes.specs.declared.lane.Mark.TheVariants as mark
use Rattle.report_lanes.specs.declared.lane.Shows.{Shows}
use Rattle.report_lanes.specs.declared.lane.Shows.TheVariants as shows
use Rattle.report_lanes.specs.Lanes.{stood_at, told_at, mark_between, mark_at, are_alike, ended, lane_of, open_of, ended_lanes, open_lanes}

-- a lane of reader 3
abbrev lane : ℕ → ℕ → Shows → Lane
lane first last what = record { reader = 3; first = first; last = last; shows = what }

-- a second so many days after 2016-12-31
abbrev second : ℕ → ℕ → UtcSecond
second days sod = record { day = 6209 + days; sod = sod }

abbrev claim : UtcSecond → Mark → Claim
claim at mark = record { at = at; mark = mark }

-- ---- what is alike, and marks

-- the same lock and cause, whatever the count; another lock alone, another cause alone, and what is
-- no lock
pub known_alike : map (are_alike (shows.Stood (Holdover 1) Held))
    (shows.Stood (Holdover 2) Held ∷ shows.Stood Locked Held ∷ shows.Stood (Holdover 1) Voted ∷ shows.Told 1 Agreed ∷ shows.Mark mark.MonthEnd ∷ [])
    ≡ true ∷ false ∷ false ∷ false ∷ false ∷ []
known_alike = refl

-- a mark is of one edge, and none goes on
pub known_apart : are_alike (shows.Mark mark.MonthEnd) (shows.Mark mark.MonthEnd) ≡ false
known_apart = refl

-- a leap second; a month behind one, behind a deleted one, and behind neither
pub known_marks : map (λ ended. mark_between (second 0 ended) (second 1 0)) (86400 ∷ 86398 ∷ 86399 ∷ [])
    ≡ Some mark.MonthEnd ∷ Some mark.DeletedSecond ∷ Some mark.MonthEnd ∷ []
unfolding is_month_end four_years
known_marks = refl

pub known_leap : mark_between (second 0 86399) (second 0 86400) ≡ Some mark.LeapSecond
known_leap = refl

-- 2016-12-31 begins no month, and a month begins once
pub known_day : mark_between (record { day = 6208; sod = 86399 }) (second 0 0) ≡ None
unfolding is_month_end four_years
known_day = refl

pub known_second : mark_between (second 1 0) (second 1 1) ≡ None
known_second = refl

-- ---- ticks of reader 3, with any number of ports

module _ (any : Entry) where
  -- this frame ended; port 0 is silent, 1 tells this, and 2 tells of a poor quality
  abbrev tick : ℕ → Lock → Cause → Option Claim → Told → Tick
  tick edge lock cause truth told = record {
    entry = record any {
      reader = 3;
      edge = edge;
      report = record { announce = None; lock = lock; cause = cause };
      told = record { a = tells.Silence; b = told; c = tells.Poor 12; d = tells.Silence; e = tells.Silence };
      truth = truth;
    };
  }

  -- ---- how it stood

  -- where no frame is known
  abbrev stood : ℕ → Lock → Cause → Tick
  stood edge lock cause = tick edge lock cause None tells.Silence

  -- a lane goes on, with the count of its first edge
  pub known_lane : lane_of stood_at (stood 4 (Holdover 2) Held ∷ stood 3 (Holdover 1) Held ∷ stood 2 Locked Voted ∷ []) ≡ Some (lane 3 4 (shows.Stood (Holdover 1) Held))
  known_lane = refl

  -- of a device: over edges that it did not tell, and over one that comes again
  pub known_gap : lane_of stood_at (stood 9 Locked Voted ∷ stood 9 Locked Voted ∷ stood 3 Locked Voted ∷ []) ≡ Some (lane 3 9 (shows.Stood Locked Voted))
  known_gap = refl

  -- and so nothing ends
  pub known_same : ended (lane_of stood_at (stood 3 (Holdover 1) Held ∷ stood 2 Locked Voted ∷ [])) (stood_at (stood 4 (Holdover 2) Held)) ≡ None
  known_same = refl

  -- the first edge without a vote ends one
  pub known_lock_end : ended (lane_of stood_at (stood 2 Locked Voted ∷ stood 1 Locked Voted ∷ [])) (stood_at (stood 3 (Holdover 1) Held)) ≡ Some (lane 1 2 (shows.Stood Locked Voted))
  known_lock_end = refl

  -- and another cause does, though the lock stays
  pub known_cause_end : ended (lane_of stood_at (stood 19 Unlocked Expired ∷ stood 18 (Holdover 10) Held ∷ [])) (stood_at (stood 20 Unlocked NoVote)) ≡ Some (lane 19 19 (shows.Stood Unlocked Expired))
  known_cause_end = refl

  -- ---- what port 1 told

  -- at edge 0 ends the frame of 12:00:00; the port tells one of so many seconds later
  abbrev noon : ℕ → Claim
  noon edge = claim (second 0 (43200 + edge)) Unspoken

  abbrev late : ℕ → ℕ → Tick
  late edge by = tick edge Locked Voted (Some (noon edge)) (tells.Claim (noon (edge + by)))

  -- the true second, with a word on a leap second that the true frame has not
  abbrev marked : ℕ → Tick
  marked edge = tick edge Locked Voted (Some (noon edge)) (tells.Claim (claim (noon edge).at NoLeap))

  -- it tells the truth twice, and then lies
  pub known_truth_end : ended (lane_of (told_at 1) (late 2 0 ∷ late 1 0 ∷ [])) (told_at 1 (late 3 1)) ≡ Some (lane 1 2 (shows.Told 1 Agreed))
  known_truth_end = refl

  -- the lie goes on, however late it is
  pub known_lie : lane_of (told_at 1) (late 4 7 ∷ late 3 1 ∷ late 2 0 ∷ []) ≡ Some (lane 3 4 (shows.Told 1 AnotherSecond))
  known_lie = refl

  -- a lie of another kind ends it
  pub known_other_lie : lane_of (told_at 1) (marked 5 ∷ late 4 7 ∷ late 3 1 ∷ []) ≡ Some (lane 5 5 (shows.Told 1 AnotherMark))
  known_other_lie = refl

  -- what blame finds of the same ticks has the lane's edges
  abbrev late_twice : Stretch
  late_twice = record { kind = AnotherSecond; first = late 3 1; last = late 4 7; steady = false; announced = 0; untrue = 0 }

  pub known_stretch : stretch_of 1 (late 4 7 ∷ late 3 1 ∷ late 2 0 ∷ []) ≡ Some late_twice
  known_stretch = refl

  -- ---- all that is to be seen

  -- a mark is by the frame that ended: there is none if no frame is known, or nothing was said of a
  -- leap second where one might come
  abbrev mark_by : Option Claim → Option Lane
  mark_by truth = mark_at (tick 9 Locked Voted truth tells.Silence)

  pub known_mark_lanes : map (λ x. mark_by (Some x)) (claim (second 0 86399) Insert ∷ claim (second 0 86400) Unspoken ∷ claim (second 0 86398) Delete ∷ claim (second 0 86399) NoLeap ∷ [])
      ≡ Some (lane 9 9 (shows.Mark mark.LeapSecond)) ∷ Some (lane 9 9 (shows.Mark mark.MonthEnd)) ∷ Some (lane 9 9 (shows.Mark mark.DeletedSecond)) ∷ Some (lane 9 9 (shows.Mark mark.MonthEnd)) ∷ []
  unfolding is_month_end four_years
  known_mark_lanes = refl

  pub known_no_marks : map mark_by (Some (claim (second 0 86399) Unspoken) ∷ Some (claim (second 0 43200) Unspoken) ∷ None ∷ []) ≡ None ∷ None ∷ None ∷ []
  unfolding is_month_end four_years
  known_no_marks = refl

  -- at edge 8 begins 23:59:59, at 9 a leap second and at 10 the year 2017; there the reader has no
  -- vote, and port 1 tells of 2017 already
  abbrev last_second : Tick
  last_second = tick 8 Locked Voted (Some (claim (second 0 86398) Insert)) (tells.Claim (claim (second 0 86398) Insert))

  abbrev leap_second : Tick
  leap_second = tick 9 Locked Voted (Some (claim (second 0 86399) Insert)) (tells.Claim (claim (second 0 86399) Insert))

  abbrev new_year : Tick
  new_year = tick 10 (Holdover 1) Held (Some (claim (second 0 86400) Unspoken)) (tells.Claim (claim (second 1 0) Unspoken))

  -- all goes on, and there is a mark
  pub known_mark_alone : ended_lanes 3 (open_of (last_second ∷ [])) leap_second ≡ lane 9 9 (shows.Mark mark.LeapSecond) ∷ []
  unfolding is_month_end four_years
  known_mark_alone = refl

  -- the lane of the reader ends, then those of its ports, and behind them is the mark
  pub known_ended : ended_lanes 3 (open_of (leap_second ∷ last_second ∷ [])) new_year ≡ lane 8 9 (shows.Stood Locked Voted) ∷ lane 8 9 (shows.Told 1 Agreed) ∷ lane 10 10 (shows.Mark mark.MonthEnd) ∷ []
  unfolding is_month_end four_years
  known_ended = refl

  -- what is open then, in the same order
  pub known_open : open_lanes 3 (open_of (new_year ∷ leap_second ∷ last_second ∷ []))
      ≡ lane 10 10 (shows.Stood (Holdover 1) Held) ∷ lane 8 10 (shows.Told 0 Silent) ∷ lane 10 10 (shows.Told 1 AnotherSecond) ∷ lane 8 10 (shows.Told 2 Poor) ∷ []
  known_open = refl

-- ---- two ticks of a reader of three clocks, none of which is heard; between them one clock steps

abbrev two_ticks : List Event
two_ticks = event.Tick 0 ∷ event.GenEdge 0 ∷ event.Tick 0 ∷ []

-- nothing ends
pub known_all_ended : all_ended (plant 3) two_ticks ≡ []
unfolding second_at step_of is_month_end four_years
known_all_ended = rw (told_nothing, no_vote (entry_of (plant 3) 0 []).redundancy) refl

-- four lanes are open, from the first tick to the second
pub known_all_open : all_open (plant 3) two_ticks ≡ map (λ what. record { reader = 0; first = 1; last = 2; shows = what }) (shows.Stood Unlocked NoVote ∷ shows.Told 0 Silent ∷ shows.Told 1 Silent ∷ shows.Told 2 Silent ∷ [])
unfolding step_of
known_all_open = rw (told_nothing, no_vote (entry_of (plant 3) 0 []).redundancy) refl
