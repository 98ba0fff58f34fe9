-- What a scenario with devices means: the station and the events that its lines give.
-- Source: docs/SCENARIOS.md, a plant of devices.
use Rattle.std.specs.Prelude.{ℕ, List, [], ◌∷◌, length, reverse, Option, Some, None, option_and_then, Result, Ok, Err}
use Rattle.text_faults.specs.declared.refusal.Refusal.{Refusal}
use Rattle.text_faults.specs.declared.refusal.Refusal.TheVariants as refusal
use Rattle.irig_simulated.specs.declared.heard.HeardPulse.{HeardPulse}
use Rattle.irig_station.specs.declared.audit.Audit.{Audit}
use Rattle.irig_station.specs.declared.entry.Entry.{Entry}
use Rattle.irig_station.specs.declared.event.Event.{Event}
use Rattle.irig_station.specs.declared.fault.StationFault.{StationFault}
use Rattle.irig_station.specs.declared.fault.StationFault.TheVariants.{NoSuchDevice, NoSuchGenerator, BeforeStart, EndOfYears, Memory}
use Rattle.irig_station.specs.StationStandings.{StationStanding, StationStep}
use Rattle.irig_station.specs.StationPlay.{audit_of_station, log_of_station, play_event, standing_after}
use Rattle.scenario_devices.specs.StationLine.{StationPlan, station_in_line}
use Rattle.scenario_devices.specs.StationEvents.{event_in_station_line}
use Rattle.report_run.specs.Meanings.{Language, Next}

-- a station with its devices' names, and the events that came, the newest first, refused ones too
pub record StationScene : Type 0 where
  pub plan : StationPlan
  pub events : List Event

-- this plan after these events
abbrev pub station_scene : StationPlan → List Event → StationScene
station_scene plan events = record { plan = plan; events = events }

-- where the events of a scene leave its station
abbrev pub standing_in : StationScene → StationStanding
standing_in x = standing_after x.plan.setup x.events

-- what is logged of a scene, the oldest entry first
abbrev pub station_log : StationScene → List Entry
station_log x = log_of_station x.plan.setup x.events

-- the newest entry first
abbrev pub newest_first : StationScene → List Entry
newest_first x = reverse (station_log x)

-- the pulses that its devices heard, in the order in which they had ended, device after device in
-- each part of a second that is played at once
abbrev pub station_heard : StationScene → List HeardPulse
station_heard x = (standing_in x).heard

-- how many entries its log has
abbrev pub station_entries : StationScene → ℕ
station_entries x = length (station_log x)

-- the audit of a scene's events
abbrev pub station_audit : StationScene → Audit
station_audit x = audit_of_station x.plan.setup x.events

-- ---- an event

-- the refusal of a line whose event is refused so; that there is no memory is none
abbrev pub refusal_of_fault : StationFault → Option Refusal
refusal_of_fault NoSuchDevice = Some refusal.NoSuchReader
refusal_of_fault NoSuchGenerator = Some refusal.NoSuchGenerator
refusal_of_fault BeforeStart = Some refusal.BeforeStart
refusal_of_fault EndOfYears = Some refusal.EndOfYears
refusal_of_fault Memory = None

-- what an event does with a scene's station
abbrev pub station_step : StationScene → Event → StationStep
station_step x e = play_event x.plan.setup e (standing_in x)

-- the scene behind an event, which has happened also where it was refused: it then changed nothing,
-- but of a stretch of time what passed before
abbrev pub event_in_scene : StationScene → Event → Next StationScene
event_in_scene x e = record {
  scene = station_scene x.plan (e ∷ x.events);
  refusal = option_and_then refusal_of_fault (station_step x e).refusal;
}

-- ---- lines

-- the scene that a plant line begins: nothing has happened
abbrev pub station_begun : Result StationPlan Refusal → Result StationScene Refusal
station_begun (Ok plan) = Ok (station_scene plan [])
station_begun (Err k) = Err k

-- a further line plays its event
abbrev pub next_in_scene : StationScene → Result Event Refusal → Next StationScene
next_in_scene x (Ok e) = event_in_scene x e
next_in_scene x (Err k) = record { scene = x; refusal = Some k }

-- the first line that isn't skipped is the plant's, each further one an event
abbrev pub station_scenario : Language StationScene
station_scenario = record {
  begin = λ line. station_begun (station_in_line line);
  next = λ x line. next_in_scene x (event_in_station_line x.plan.names line);
}
