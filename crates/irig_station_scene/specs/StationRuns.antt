-- A run of a scenario with devices: what plays it, and how it ends.
-- Source: docs/OUTPUT.md; this project's profile.
use Rattle.std.specs.Prelude.{◌≡◌, ◌≤◌, ⊤, ℕ, Bool, List, Option, Some, Result, Ok, Err}
use Rattle.irig_port.specs.declared.port.Port.{Ghosts}
use Rattle.irig_device.specs.Lines.{Bytes}
use Rattle.irig_station.specs.declared.event.Event.{Event}
use Rattle.irig_station.specs.declared.event.Event.TheVariants.{Pass}
use Rattle.irig_station.specs.Stations.{IsStationAt, LetGo, all_let_go}
use Rattle.text_faults.specs.declared.refusal.Refusal.{Refusal}
use Rattle.report_log.specs.Text.{texts_of}
use Rattle.report_run.specs.declared.stop.Failure.{Failure}
use Rattle.report_run.specs.declared.stop.Stop.{Stop}
use Rattle.report_run.specs.Meanings.{step_of_next}
use Rattle.report_run.specs.Runs.{Took}
use Rattle.report_run.specs.Texts.{Texts}
use Rattle.irig_station_scene.specs.declared.outcome.StationOutcome.{StationOutcome}
use Rattle.irig_station_scene.specs.declared.player.StationPlayer.{StationPlayer}
use Rattle.irig_station_scene.specs.StationScenes.{StationScene, event_in_scene, standing_in, station_audit}

-- ---- a player

-- its station stands as a scene leaves it, and has let this go
pub record IsStationPlayerPast {L P : Type 0} {g : Ghosts P} (shown : LetGo) (p : StationPlayer L P g)
    (x : StationScene) : Type 0 where
  pub station : IsStationAt p.station x.plan.setup (standing_in x) shown
  pub named : texts_of p.names.keys ≡ x.plan.names

-- it stands as a scene leaves it, and so does its listener; pulses are kept if they are to be heard;
-- what was said may stand until the next event
pub record IsStationPlayerAt {L P : Type 0} {g : Ghosts P} (hears : Bool)
    (stands_for : L → StationScene → Type 0) (p : StationPlayer L P g) (x : StationScene)
    : Type 0 where
  pub shown : LetGo
  pub stands : IsStationPlayerPast shown p x
  pub keeps : shown.keeps ≡ hears
  pub listener : stands_for p.listener x

-- it has played an event, with this refusal, if it was refused, and only the entries of that event
-- stand, and the pulses, if they are kept; or something failed
abbrev pub HasPlayedEvent : {L P : Type 0} {g : Ghosts P} → (keeps : Bool)
    → Result (Option Refusal) Failure → StationScene → Event → StationPlayer L P g → Type 0
HasPlayedEvent keeps (Ok refusal) x e p =
    ((event_in_scene x e).refusal ≡ refusal)
    × IsStationPlayerPast (all_let_go keeps (standing_in x)) p (event_in_scene x e).scene
HasPlayedEvent keeps (Err failure) x e p = ⊤

-- so whatever scene it is of
abbrev pub PlaysEventOf : {L P : Type 0} {g : Ghosts P} → StationPlayer L P g → Event
    → Result (Option Refusal) Failure → StationPlayer L P g → Type 0
PlaysEventOf old e result new =
    (x : StationScene) (shown : LetGo) → IsStationPlayerPast shown old x
    → HasPlayedEvent shown.keeps result x e new

-- it is no stretch of time of more than a second
abbrev pub IsShort : Event → Type 0
IsShort (Pass us) = us ≤ 1000000
IsShort _ = ⊤

-- whatever scene it is of, an event is played or refused, and what is said of it is written; or
-- something failed
abbrev pub TakesEvent : {L P : Type 0} {g : Ghosts P} → (hears : Bool)
    → (L → StationScene → Type 0) → Texts StationScene → StationPlayer L P g → Event
    → Result (Unit {0}) Stop → StationPlayer L P g → Bytes → Bytes → Type 0
TakesEvent {L} {P} {g} hears stands_for t was e result is old new =
    (x : StationScene) (first : List ℕ) → IsStationPlayerAt hears stands_for was x
    → Took (IsStationPlayerAt {L = L} {P = P} {g = g} hears stands_for) t result
    (step_of_next (event_in_scene x e)) first (Some x) (Some is) old new

-- ---- the whole run

-- by so many lines, and with the audit of this scene's events
pub record StationEnds (x : StationScene) (count : ℕ) (o : StationOutcome) : Type 0 where
  pub lines : o.lines ≡ count
  pub audit : o.audit ≡ station_audit x
