-- What may be done with a simulated device, and where that leaves it: each course that there is.
-- Source: docs/SCENARIOS.md, events; this project's profile.
use Rattle.std.specs.Prelude.{◌≡◌, ℕ, ◌+◌, ◌-◌, ◌%◌, ◌^◌, ◌<◌, ◌≤◌, ◌⊎◌, List, [], ◌∷◌, ◌++◌, Option, ⊤}
use Rattle.irig_frame.specs.declared.symbol.Symbol.{Symbol}
use Rattle.irig_timekeeper.specs.Keeping.{answer_at}
use Rattle.irig_timekeeper.specs.Life.{Call}
use Rattle.irig_timekeeper.specs.Life.Call.{Hear, Tick}
use Rattle.irig_timekeeper.specs.Lived.{keeping_after}
use Rattle.irig_wires.specs.Wires.{added, made_late, plugged, pulled}
use Rattle.irig_simulated.specs.declared.setup.Ticking.TheVariants.{ByWait, Each}
use Rattle.irig_simulated.specs.declared.told_second.ToldSecond.{ToldSecond}
use Rattle.irig_simulated.specs.Kinds.{Kind}
use Rattle.irig_simulated.specs.Courses.{Course, begun_anew, begun_with, on_line, passed, ticked, told_if, told_taken}

-- so many microseconds pass, while generators send these symbols. Or at the present time it is ticked by
-- hand, or restarted; what it told is taken; the cable of a line is pulled or plugged, or made so late;
-- or a pulse so wide is added to a line by hand
pub data Doing : Type 0 where
  Pass : (signal : (line element : ℕ) → Option Symbol) → (us : ℕ) → Doing
  TickByHand : Doing
  Restart : Doing
  TakeTold : Doing
  Pull : (line : ℕ) → Doing
  Plug : (line : ℕ) → Doing
  BeLate : (line late : ℕ) → Doing
  Pulse : (line width : ℕ) → Doing

-- that is done
abbrev pub behind : Kind → Doing → Course → Course
behind k (Pass signal us) x = passed k signal (x.now + us) x
behind k TickByHand x = ticked k x
behind k Restart x = begun_anew k x
behind k TakeTold x = told_taken x
behind k (Pull line) x = on_line line pulled x
behind k (Plug line) x = on_line line plugged x
behind k (BeLate line late) x = on_line line (made_late late) x
behind k (Pulse line width) x = on_line line (added x.now width) x

-- the course of a device whose lines were so late at first, behind all this, the newest first
abbrev pub course_behind : Kind → (late : List ℕ) → List Doing → Course
course_behind k late [] = begun_with k late
course_behind k late (doing ∷ doings) = behind k doing (course_behind k late doings)

-- ---- its calls

-- a word of 32 bits counts how wide each pulse of these calls is
abbrev pub AreCounted : List Call → Type 0
AreCounted [] = ⊤
AreCounted (Hear port rise width ∷ calls) = (width < 2 ^ 32 - 1) × AreCounted calls
AreCounted (Tick now ∷ calls) = AreCounted calls

-- it is ticked as `wait` says, or so often that its counter counts 95 ms at most from tick to tick
abbrev pub IsTickedInTime : Kind → Type 0
IsTickedInTime k =
    (k.ticking ≡ ByWait) ⊎ ((us : ℕ) × (k.ticking ≡ Each us) × (0 < us) × (us ≤ 94900))

-- what it told by these calls, the oldest first
abbrev pub told_by : Kind → List Call → List ToldSecond
told_by k [] = []
told_by k (Hear port rise width ∷ calls) = told_by k calls
told_by k (Tick now ∷ calls) =
    told_by k calls ++ told_if k now (answer_at (keeping_after k.made calls) (now % 2 ^ 32))
