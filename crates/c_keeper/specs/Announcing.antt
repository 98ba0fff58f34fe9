-- What has to come for a timekeeper in C to announce, and that it has.
-- Source: this project's profile.
use Rattle.std.specs.Prelude.{◌≡◌, ◌≤◌, ◌+◌, ℕ, List, [], ◌∷◌, ◌++◌, Option, Some, None, ⊤}
use Rattle.irig_time.specs.declared.second.UtcSecond.{UtcSecond}
use Rattle.irig_time.specs.Timelines.{TimelineValue}
use Rattle.irig_reader.specs.Locking.{voted_report}
use Rattle.irig_lines.specs.declared.lines.Lines.{Lines}
use Rattle.irig_lines.specs.Lines.{IsTrueLately}
use Rattle.irig_timekeeper.specs.Lived.{MadeOf, made_with}
use Rattle.irig_timekeeper.specs.Loops as device
use Rattle.irig_lines.specs.Steps.{AreNewLines}
use Rattle.c_numbers.specs.Reports.{report_in}
use Rattle.c_keeper.specs.declared.second.IrigSecond.{IrigSecond}
use Rattle.c_keeper.specs.Lives.{Moment, calls_of}
use Rattle.c_keeper.specs.Lives.Moment.{Pulsed, Ticked, Waited}

-- as many seconds in a row as it locks after and two more, from the m-th on, come whole in these
-- moments, which came behind those, of whatever lines on which nothing had come it was made
abbrev pub ComeInARow : TimelineValue → (ℕ → ℕ) → MadeOf → ℕ → ℕ → List Moment → List Moment
    → Type 0
ComeInARow t edges made start m moments before =
    (lines : Lines) (fresh : AreNewLines lines)
    → device.ComeInARow (IsTrueLately made.clock.within.us) t edges (made_with made lines fresh) start m
    (calls_of moments) (calls_of before)

-- a tick of this past announced T(m), which is u, by a vote, 98 ms behind its edge at most
pub record HasAnnounced (edges : ℕ → ℕ) (m : ℕ) (u : UtcSecond) (past : List Moment)
    : Type 0 where
  pub later : List Moment
  pub now : ℕ
  pub second : IrigSecond
  pub earlier : List Moment
  pub are : past ≡ later ++ (Ticked now second ∷ earlier)
  pub soon : now ≤ edges m + 98000
  pub says : report_in second.report ≡ voted_report u

-- ---- a tick when `wait` says

-- the moment next behind each tick of these moments, and behind each pulse of place 100, asks how
-- long to wait, from the time of the tick or the pulse's end. What comes next behind all of them asks
-- from such a time, or does not ask
abbrev pub AreAsked : Option ℕ → List Moment → Type 0
AreAsked next [] = ⊤
AreAsked next (Pulsed line rise width place ∷ past) =
    (place ≡ 100 → next ≡ Some (rise + width)) × AreAsked None past
AreAsked next (Ticked now second ∷ past) = (next ≡ Some now) × AreAsked None past
AreAsked next (Waited now wait ∷ past) = AreAsked (Some now) past

-- a tick of this time comes so long at most behind each time until which it was to wait, by what was
-- asked since the tick before
abbrev pub IsSoonEnough : ℕ → ℕ → List Moment → Type 0
IsSoonEnough late now [] = ⊤
IsSoonEnough late now (Pulsed line rise width place ∷ past) = IsSoonEnough late now past
IsSoonEnough late now (Ticked time second ∷ past) = ⊤
IsSoonEnough late now (Waited time wait ∷ past) =
    (now ≤ time + wait + late) × IsSoonEnough late now past

-- so each tick of these moments
abbrev pub GoesByWait : ℕ → List Moment → Type 0
GoesByWait late [] = ⊤
GoesByWait late (Pulsed line rise width place ∷ past) = GoesByWait late past
GoesByWait late (Ticked now second ∷ past) = IsSoonEnough late now past × GoesByWait late past
GoesByWait late (Waited now wait ∷ past) = GoesByWait late past
