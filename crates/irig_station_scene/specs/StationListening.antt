-- What a listener of a station is told: a station, the names of its devices, and what was logged of
-- an event; and how it may answer.
-- Source: this project's profile.
use Rattle.std.specs.Prelude.{◌≡◌, ℕ, Bool, List, [], ◌++◌, drop, length}
use Rattle.irig_port.specs.declared.port.Port.{Ghosts}
use Rattle.irig_simulated.specs.declared.heard.HeardPulse.{HeardPulse}
use Rattle.irig_station.specs.declared.entry.Entry.{Entry}
use Rattle.irig_station.specs.declared.event.Event.{Event}
use Rattle.irig_station.specs.declared.station.Station.{Station}
use Rattle.irig_station.specs.StationStandings.{StationStanding}
use Rattle.irig_station.specs.Stations.{IsStationAt, LetGo, all_let_go}
use Rattle.scenario_devices.specs.StationLine.{StationPlan}
use Rattle.report_run.specs.Texts.{Texts}
use Rattle.irig_station_scene.specs.StationScenes.{StationScene, event_in_scene, standing_in, station_heard, station_log}

-- a station to which nothing has happened, with these names of devices and so many lines of each, is
-- that of a scene
pub record IsStationOf (names : List (List ℕ)) (lines : ℕ) (x : StationScene) : Type 0 where
  pub begun : x.events ≡ []
  pub named : names ≡ x.plan.names
  pub count : length names ≡ length x.plan.setup.devices
  pub lined : lines ≡ length x.plan.setup.generators

-- the entries that an event adds to what was logged of a scene
abbrev pub entries_by : StationScene → Event → List Entry
entries_by x e = drop (length (station_log x)) (station_log (event_in_scene x e).scene)

-- the pulses that devices hear by it
abbrev pub pulses_by : StationScene → Event → List HeardPulse
pulses_by x e = drop (length (station_heard x)) (station_heard (event_in_scene x e).scene)

-- an event that came after a scene has just happened in a station, of which these entries are; and
-- the pulses that devices heard by it are kept there, if they are to be heard
pub record HasHappened {P : Type 0} {g : Ghosts P} (hears : Bool) (station : Station P g)
    (names : List (List ℕ)) (entries : List Entry) (e : Event) (x : StationScene) : Type 0 where
  pub stands : IsStationAt station x.plan.setup (standing_in (event_in_scene x e).scene)
      (all_let_go hears (standing_in x))
  pub logged : entries ≡ entries_by x e
  pub named : names ≡ x.plan.names

-- a station of a scene, which has let go what was said, and the names of its devices
pub record NamesStation {P : Type 0} {g : Ghosts P} (station : Station P g)
    (names : List (List ℕ)) (x : StationScene) : Type 0 where
  pub shown : LetGo
  pub stands : IsStationAt station x.plan.setup (standing_in x) shown
  pub named : names ≡ x.plan.names

-- ---- what is said

-- a text grew by what is said of one scene more than of another
pub record SaysMore (t : Texts StationScene) (from to : StationScene) (old new : List ℕ)
    : Type 0 where
  pub more : List ℕ
  pub said : t.said to ≡ t.said from ++ more
  pub added : new ≡ old ++ more

-- what is said of a scene stays, whatever event comes
abbrev pub StaysBehind : (StationScene → List ℕ) → Type 0
StaysBehind said =
    (x : StationScene) (e : Event)
    → (more : List ℕ) × (said (event_in_scene x e).scene ≡ said x ++ more)

-- the plan of a scene, and where its station stands
pub record StationView : Type 0 where
  pub plan : StationPlan
  pub standing : StationStanding

-- those of a scene
abbrev pub view_of : StationScene → StationView
view_of x = record { plan = x.plan; standing = standing_in x }

-- no more is read of a scene: of the events that led there a listener knows nothing
pub record ReadsView {L : Type 0} (stands_for : L → StationScene → Type 0)
    (said : StationScene → List ℕ) : Type 0 where
  pub stands : (l : L) (x y : StationScene) → view_of x ≡ view_of y → stands_for l x
      → stands_for l y
  pub says : (x y : StationScene) → view_of x ≡ view_of y → said x ≡ said y
