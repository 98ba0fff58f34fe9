-- All that is written of a scenario: who lied in it, and what it cost.
-- Source: docs/OUTPUT.md.
use Rattle.std.specs.Prelude.{ℕ, List, [], ◌++◌, length, Option, Some, None}
use mathlib.Core.Logic.{inl, inr}
use Rattle.report_log.specs.Text.{name_at, refusal_text}
use Rattle.report_run.specs.Meanings.{Meaning, Refused}
use Rattle.report_run.specs.Texts.{Texts as TextsOfRun}
use Rattle.irig_scene.specs.Texts.{Texts}
use Rattle.irig_scene.specs.Scene.{Scene, verdict_text}
use Rattle.irig_station_scene.specs.StationScenes.{StationScene, newest_first}
use Rattle.irig_station_scene.specs.StationTexts.{verdict_in_scene}
use Rattle.irig_scenario.specs.AnyScenario.{AnyScene, any_meaning, any_texts}
use Rattle.report_found.specs.Accounts.{account_of}
use Rattle.report_found.specs.Books.{account_at}
use Rattle.report_found.specs.DeviceScenes.{ended_by_entries, found_in_station, open_of_devices}
use Rattle.report_found.specs.DeviceTicks.{device_ticks}
use Rattle.report_found.specs.Findings.{lists_below}
use Rattle.report_found.specs.Scenes.{ended_by_event, all_open, found_in}
use Rattle.report_blame.specs.Reaches.{reach_of}
use Rattle.report_blame.specs.Text.{findings_text, total_lines}

-- the totals of a scene, reader by reader
abbrev pub totals_in : List ℕ → Scene → List ℕ
totals_in lines x =
    lists_below
    (λ r. total_lines lines (name_at x.plan.names r) None (length x.plan.setup.generators)
    (account_at x.plan.setup x.events r)) (length x.plan.setup.readers)

-- those of a scene of devices, device by device
abbrev pub totals_in_station : List ℕ → StationScene → List ℕ
totals_in_station lines x =
    lists_below
    (λ r. total_lines lines (name_at x.plan.names r) (reach_of r (newest_first x))
    (length x.plan.setup.generators) (account_of (device_ticks x.plan.setup r (newest_first x))))
    (length x.plan.setup.devices)

-- a line of each finding, and the totals; nothing before there is a plant
abbrev pub blame_at : List ℕ → Option AnyScene → List ℕ
blame_at lines None = []
blame_at lines (Some (inl x)) =
    findings_text lines x.plan.names (found_in x) ++ totals_in lines x
blame_at lines (Some (inr x)) =
    findings_text lines x.plan.names (found_in_station x) ++ totals_in_station lines x

-- the audit of a scene, as its line
abbrev pub verdict_at : Option AnyScene → List ℕ
verdict_at None = []
verdict_at (Some (inl x)) = verdict_text (Some x)
verdict_at (Some (inr x)) = verdict_in_scene x

-- the last line of a run: the refusal, else the audit
abbrev pub last_line : Option Refused → Option AnyScene → List ℕ
last_line (Some k) at = refusal_text k.line k.refusal
last_line None at = verdict_at at

-- the text of what lines mean, with the last line of a run
abbrev pub blame_meaning : List ℕ → Meaning AnyScene → List ℕ
blame_meaning lines m = blame_at lines m.scene ++ last_line m.refused m.scene

-- all that is written for the bytes x; `lines` are the names of recorded lines, and none of a
-- scenario that is no recording
abbrev pub blame_text : List ℕ → List ℕ → List ℕ
blame_text lines x = blame_meaning lines (any_meaning x)

-- ---- what is said of each event

-- the lines of what is open in a scene, and the totals
abbrev pub closing_in : List ℕ → Scene → List ℕ
closing_in lines x =
    findings_text lines x.plan.names (all_open x.plan.setup x.events) ++ totals_in lines x

-- the lines of what an event ends, and at the end the rest
abbrev pub blame_texts : List ℕ → Texts
blame_texts lines = record {
  first = λ line. [];
  event = λ plan e ev. findings_text lines plan.names (ended_by_event plan.setup e ev);
  closing = closing_in lines;
  end = λ x. closing_in lines x ++ verdict_text (Some x);
}

-- ---- what is said of a scene of devices

-- the lines of what is open in it, and the totals
abbrev pub closing_in_station : List ℕ → StationScene → List ℕ
closing_in_station lines x =
    findings_text lines x.plan.names (open_of_devices x.plan.setup (newest_first x))
    ++ totals_in_station lines x

-- the lines of what ended, and at the end the rest
abbrev pub station_blame_texts : List ℕ → TextsOfRun StationScene
station_blame_texts lines = record {
  first = λ line. [];
  said = λ x. findings_text lines x.plan.names
      (ended_by_entries x.plan.setup (newest_first x));
  closing = closing_in_station lines;
  end = λ x. closing_in_station lines x ++ verdict_in_scene x;
}

-- of readers, or of devices
abbrev pub any_blame_texts : List ℕ → TextsOfRun AnyScene
any_blame_texts lines = any_texts (blame_texts lines) (station_blame_texts lines)
