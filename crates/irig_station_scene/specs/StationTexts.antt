-- What is written of a scenario with devices.
-- Source: docs/OUTPUT.md.
use Rattle.std.specs.Prelude.{ℕ, Bool, List, []}
use Rattle.report_run.specs.Texts.{Texts}
use Rattle.irig_station_scene.specs.StationText.{station_audit_text, station_text}
use Rattle.irig_station_scene.specs.StationScenes.{StationScene, station_audit, station_log}

-- the log of a scene, with all seconds that were told if `all`
abbrev pub log_in_scene : (all : Bool) → StationScene → List ℕ
log_in_scene all x = station_text x.plan.names all (station_log x)

-- its last line, if no line is refused
abbrev pub verdict_in_scene : StationScene → List ℕ
verdict_in_scene x = station_audit_text x.plan.names (station_audit x)

-- the log, and the last line
abbrev pub station_texts : (all : Bool) → Texts StationScene
station_texts all = record {
  first = λ line. [];
  said = log_in_scene all;
  closing = λ x. [];
  end = verdict_in_scene;
}

-- of a listener that says nothing
abbrev pub quiet_texts : Texts StationScene
quiet_texts = record {
  first = λ line. [];
  said = λ x. [];
  closing = λ x. [];
  end = λ x. [];
}
