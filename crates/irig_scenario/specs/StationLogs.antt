-- What the log of a scenario with devices vouches for, by the bytes of its lines and its plant
-- line.
-- Source: docs/HEADLINE.md; this project's profile.
use Rattle.std.specs.Prelude.{◌≡◌, ◌≢◌, ◌⊎◌, ℕ, ◌+◌, ◌*◌, ◌^◌, ◌<◌, ◌≤◌, unsigned_abs, List, [], ◌∷◌, ◌++◌, All, codes, option_map, unwrap_or, slice_get, IsSomeAnd, Some, Ok}
use Rattle.std.specs.List.{Contains}
use Rattle.std.specs.Fmt.{decimal}
use Rattle.irig_time.specs.Timelines.{TimelineValue}
use Rattle.irig_simulated.specs.Setups.{DevicePlan}
use Rattle.scenario_devices.specs.StationLine.{StationPlan, station_in_line}
use Rattle.report_log.specs.LogLines.{whole_lines}
use Rattle.irig_station_scene.specs.StationLines.{ShowsStamp, ShowsTold, StampLine, ToldLine}
use Rattle.irig_scene.specs.LogLines.{IsTimeOf}
use Rattle.irig_scene.specs.VouchedLines.{plant_line_of}

-- ---- the plant line

-- what the first line says that is not blank
pub record IsStationLineOf (x : List ℕ) (plan : StationPlan) : Type 0 where
  pub line : List ℕ
  pub first : plant_line_of x ≡ Some line
  pub says : station_in_line line ≡ Ok plan

-- how many microseconds a second the counter of a device may be wrong, by its setting
abbrev pub drift_at : List DevicePlan → (device : ℕ) → ℕ
drift_at devices device = unwrap_or (option_map (λ d. d.drift_us) (slice_get devices device)) 0

-- ---- true lines

-- the second that is shown is T of the edge that is shown, and the told edge lies no further from
-- that than the bound that is shown
pub record IsTrueTold (times : TimelineValue) (x : ToldLine) : Type 0 where
  pub time : IsTimeOf times x.edge x.time
  pub near : IsSomeAnd x.bound (λ bound. unsigned_abs x.off ≤ bound)

-- the second that is shown is a T(m), and where the offset says, so far behind edge m, lies the
-- instant, but for so many microseconds
pub record IsTrueStamp (times : TimelineValue) (apart : ℕ) (x : StampLine) : Type 0 where
  pub m : ℕ
  pub time : IsTimeOf times m x.time
  pub early : x.instant ≤ m * 1000000 + x.offset + apart
  pub late : m * 1000000 + x.offset ≤ x.instant + apart

-- how far off a stamp may lie: its bound, and twice the drift of its device
abbrev pub most_off : List DevicePlan → StampLine → ℕ
most_off devices x = x.bound + 2 * drift_at devices x.device

-- what a line shows is true: a told second, if it shows one, and a stamp
pub record ShowsStationTruth (plan : StationPlan) (line : List ℕ) : Type 0 where
  pub told : (x : ToldLine) → ShowsTold plan.names line x → x.time ≢ codes "-"
      → IsTrueTold plan.setup.times x
  pub stamp : (x : StampLine) → ShowsStamp plan.names line x
      → IsTrueStamp plan.setup.times (most_off plan.setup.devices x) x

-- two stamps, of T(m) and T(n), say times that lie no further apart than so many microseconds
pub record AreStampsTogether (times : TimelineValue) (apart : ℕ) (x y : StampLine)
    : Type 0 where
  pub m : ℕ
  pub n : ℕ
  pub one : IsTimeOf times m x.time
  pub two : IsTimeOf times n y.time
  pub least : m * 1000000 + x.offset ≤ n * 1000000 + y.offset + apart
  pub most : n * 1000000 + y.offset ≤ m * 1000000 + x.offset + apart

-- what each of these lines shows is true, and any two that show stamps of one instant lie no
-- further apart than both together may lie off
pub record ShowTruth (plan : StationPlan) (lines : List (List ℕ)) : Type 0 where
  pub each : All (ShowsStationTruth plan) lines
  pub together : (first second : List ℕ) (x y : StampLine)
      → Contains lines first → Contains lines second
      → ShowsStamp plan.names first x → ShowsStamp plan.names second y
      → x.instant ≡ y.instant
      → AreStampsTogether plan.setup.times
      (most_off plan.setup.devices x + most_off plan.setup.devices y) x y

-- ---- a log that is kept

-- these lines are true, by the plant line of the bytes
pub record AreTrueByStationLine (x : List ℕ) (above : List (List ℕ)) : Type 0 where
  pub plan : StationPlan
  pub plant : IsStationLineOf x plan
  pub lines : ShowTruth plan above

-- a log vouches for itself: if its last whole line is `premises kept`, the lines above are true
abbrev pub VouchesByStationLine : List ℕ → List ℕ → Type 0
VouchesByStationLine x written =
    (above : List (List ℕ)) → whole_lines written ≡ above ++ codes "premises kept" ∷ []
    → AreTrueByStationLine x above

-- ---- a log that broke

-- the last line of a log whose premises first broke in the second of this edge, at the device of
-- this name
abbrev pub broken_device_line : (edge : ℕ) → (name : List ℕ) → List ℕ
broken_device_line edge name =
    codes "premises broken: edge " ++ (decimal edge ++ (codes " device " ++ name))

-- a line shows that it was logged before the second of an edge: it shows a told second of an edge
-- two or more before that, or a stamp of an instant more than four seconds before that
abbrev pub IsFromBefore : List (List ℕ) → (edge : ℕ) → List ℕ → Type 0
IsFromBefore names edge line =
    ((x : ToldLine) × ShowsTold names line x × (x.edge + 2 ≤ edge))
    ⊎ ((x : StampLine) × ShowsStamp names line x × (x.instant + 4000000 < edge * 1000000))

-- down to each such line, and with it, these lines are true, whatever devices they are of
pub record AreTrueUntilBreak (x : List ℕ) (edge : ℕ) (above : List (List ℕ)) : Type 0 where
  pub plan : StationPlan
  pub plant : IsStationLineOf x plan
  pub until : (earlier later : List (List ℕ)) (line : List ℕ)
      → above ≡ earlier ++ line ∷ later → IsFromBefore plan.names edge line
      → ShowTruth plan (earlier ++ line ∷ [])

-- a broken log vouches too: if its last whole line names an edge and a device, the lines above are
-- true that were logged before the second of that edge, as far as they show it
abbrev pub VouchesUntilBreak : List ℕ → List ℕ → Type 0
VouchesUntilBreak x written =
    (edge : ℕ) (name : List ℕ) (above : List (List ℕ)) → edge < 2 ^ 64
    → whole_lines written ≡ above ++ broken_device_line edge name ∷ []
    → AreTrueUntilBreak x edge above
