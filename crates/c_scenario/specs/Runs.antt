-- A run of a scenario in memory: its status, its refusal, and the log that it leaves there.
-- Source: docs/OUTPUT.md, docs/C.md.
use Rattle.std.specs.Prelude.{◌≡◌, ℕ, ◌≤◌, ◌⊎◌, Bool, if◌then◌else◌, List, [], ◌++◌, length, take, drop, Option, Some, None, Result, Ok, Err}
use Rattle.text_faults.specs.Refusals as refusals
use Rattle.report_log.specs.declared.shown.Shown.{Shown}
use Rattle.report_run.specs.declared.fault.SceneFault.{SceneFault}
use Rattle.report_run.specs.declared.fault.SceneFault.TheVariants.{Refused}
use Rattle.report_run.specs.Meanings.{Refused as RefusedLine, meaning_of}
use Rattle.report_run.specs.Statuses as statuses
use Rattle.report_run.specs.Texts.{whole_text}
use Rattle.irig_scene.specs.Scene.{output_shown, scenario}
use Rattle.irig_station_scene.specs.StationScenes.{station_scenario}
use Rattle.irig_station_scene.specs.StationTexts.{station_texts}
use Rattle.irig_scenario.specs.Scenarios.{RanScenario, ScenarioEnd, has_devices}

-- what is shown, by the two parameters
abbrev pub shown_of : Bool → Bool → Shown
shown_of all ports = record { all = all; ports = ports }

-- 0 for a run that was done, 3 for a refused line, else 4, 5 or 6
abbrev pub status_of : {O : Type 0} → Result O SceneFault → ℕ
status_of (Ok outcome) = 0
status_of (Err fault) = statuses.status_of fault

-- after these the log is whole
abbrev pub HasWholeLog : ℕ → Type 0
HasWholeLog status = (status ≡ 0) ⊎ (status ≡ 3)

-- one of the five
abbrev pub IsStatus : ℕ → Type 0
IsStatus status = HasWholeLog status ⊎ ((4 ≤ status) × (status ≤ 6))

-- the line that is refused, or 0
abbrev pub line_of : {O : Type 0} → Result O SceneFault → ℕ
line_of (Err (Refused line refusal)) = line
line_of _ = 0

-- the number of its refusal, or 0
abbrev pub number_of : {O : Type 0} → Result O SceneFault → ℕ
number_of (Err (Refused line refusal)) = refusals.number_of refusal
number_of _ = 0

-- the line and the number are those of a refusal, and zeros if there is none
abbrev pub IsRefusalOf : Option RefusedLine → ℕ → ℕ → Type 0
IsRefusalOf None line number = (line ≡ 0) × (number ≡ 0)
IsRefusalOf (Some k) line number = (line ≡ k.line) × (number ≡ refusals.number_of k.refusal)

-- the log of a scenario by what its plant has; that of devices has no port lines
unfoldable pub scenario_log : List ℕ → Shown → List ℕ
scenario_log x shown =
    if has_devices x then whole_text station_scenario (station_texts shown.all) x
    else output_shown x shown

-- the first line that is refused, if one is, by what its plant has
unfoldable pub scenario_refusal : List ℕ → Option RefusedLine
scenario_refusal x =
    if has_devices x then (meaning_of station_scenario x).refused
    else (meaning_of scenario x).refused

-- the answer and the log are those of one run of the text
pub record IsRun (text : List ℕ) (shown : Shown) (answer : Result ScenarioEnd SceneFault)
    (log : List ℕ) : Type 0 where
  pub left : Option (List ℕ)
  pub ran : RanScenario shown answer (Some text) left (Some []) (Some log)

-- what stood in memory, with these items over its beginning, as many as it has room for
abbrev pub written_over : {A : Type 0} → List A → List A → List A
written_over old items = take (length old) items ++ drop (length items) old
