-- What a station stands for: where events leave it.
-- Source: this project's profile.
use Rattle.std.specs.Prelude.{◌≡◌, ℕ, Bool, true, ◌<◌, ◌≤◌, ◌⊎◌, All, drop, List, length, None, Some, slice_get, slice_index_or, vec_len, Result, Ok, Err}
use Rattle.irig_frame.specs.declared.symbol.Symbol.{Symbol}
use Rattle.irig_port.specs.declared.port.Port.{Ghosts}
use Rattle.irig_time.specs.declared.rules.Rules.{Rules}
use Rattle.irig_vote.specs.declared.redundancy.Redundancy.{Redundancy}
use Rattle.irig_vote.specs.Vote.{ports_in}
use Rattle.irig_simulated.specs.Setups.{DevicePlan}
use Rattle.irig_simulated.specs.declared.heard.HeardPulse.{HeardPulse}
use Rattle.irig_simulated.specs.declared.heard.HeardPulses.{HeardPulses}
use Rattle.irig_simulated.specs.declared.simulated.Simulated.{Simulated}
use Rattle.irig_simulated.specs.Kinds.{IsDevicePlan, kind_of}
use Rattle.irig_simulated.specs.Seconds.{IsSecondOf}
use Rattle.irig_simulated.specs.Simulations.{IsSimulationOf}
use Rattle.irig_simulated.specs.Courses.{Course, begun_with}
use Rattle.irig_station.specs.declared.event.Event.{Event}
use Rattle.irig_station.specs.declared.fault.StationFault.{StationFault}
use Rattle.irig_station.specs.declared.fault.StationFault.TheVariants.{Memory, NoSuchDevice, NoSuchGenerator}
use Rattle.irig_station.specs.declared.station.Station.{Station}
use Rattle.irig_station.specs.StationSetups.{StationSetup, kind_of_device}
use Rattle.irig_station.specs.SentSeconds.{signal_by}
use Rattle.irig_station.specs.StationStandings.{StationStanding, StationStep, symbols_so_far}
use Rattle.irig_station.specs.StationPlay.{play_event}
use Rattle.irig_station.specs.Together.{IsDeviceAt}

-- each device is one of its kind, and stands there in its course, beside lines of these symbols
abbrev pub AreOnCourse : {P : Type 0} {g : Ghosts P} → StationSetup
    → (symbol : (line element : ℕ) → Symbol) → (courses : (r : ℕ) → Course) → List (Simulated P g)
    → Type 0
AreOnCourse {P} {g} s symbol courses devices =
    (r : ℕ) (d : Simulated P g) → r < length s.devices
    → IsSimulationOf (slice_index_or devices r d) (kind_of_device s r) symbol (courses r)

-- what a station has let go: so many entries of its log, and so many pulses that devices heard; and
-- whether these are kept at all
pub record LetGo : Type 0 where
  pub entries : ℕ
  pub pulses : ℕ
  pub keeps : Bool

-- all that there is so far is let go
abbrev pub all_let_go : (keeps : Bool) → StationStanding → LetGo
all_let_go keeps x =
    record { entries = length x.log; pulses = length x.heard; keeps = keeps }

-- of these pulses those that were not let go are kept, if they are kept at all
pub record AreKeptSince (gone : LetGo) (kept : HeardPulses) (pulses : List HeardPulse)
    : Type 0 where
  pub keeps : kept.keeps ≡ gone.keeps
  pub few : gone.pulses ≤ length pulses
  pub are : gone.keeps ≡ true → kept.pulses.items ≡ drop gone.pulses pulses

-- a station of this setup stands there, and has let this go
pub record IsStationAt {P : Type 0} {g : Ghosts P} (p : Station P g) (s : StationSetup)
    (x : StationStanding) (shown : LetGo)
    : Type 0 where
  pub timeline : p.timeline ≡ s.times
  pub rules : p.rules ≡ s.rules
  pub sources : length x.generators ≡ length s.generators
  pub generators : p.generators.items ≡ x.generators
  pub begun : p.begun ≡ length x.seconds
  pub second : 0 < p.begun
      → IsSecondOf p.second (signal_by x.seconds) (symbols_so_far s x)
  pub now : p.now_us ≡ x.now
  pub device_count : vec_len p.devices ≡ length s.devices
  pub devices : AreOnCourse s (symbols_so_far s x) x.courses p.devices.items
  pub log : p.log.items ≡ drop shown.entries x.log
  pub few : shown.entries ≤ length x.log
  pub audit : p.audit ≡ x.audit
  pub heard : AreKeptSince shown p.heard x.heard

-- an event has led there: or it was refused for this reason; if there was no memory, nothing is
-- known
abbrev pub HasPlayed : {P : Type 0} {g : Ghosts P} → Station P g → StationSetup → StationStep
    → (shown : LetGo) → Result Unit StationFault → Type 0
HasPlayed p s step shown (Ok done) =
    (step.refusal ≡ None) × IsStationAt p s step.standing shown
HasPlayed p s step shown (Err fault) =
    (fault ≡ Memory) ⊎ ((step.refusal ≡ Some fault) × IsStationAt p s step.standing shown)

-- so wherever the station stood
abbrev pub PlaysEvent : {P : Type 0} {g : Ghosts P} → (old : Station P g) → Event
    → (new : Station P g) → Result Unit StationFault → Type 0
PlaysEvent old event new result =
    (s : StationSetup) (x : StationStanding) (shown : LetGo) → IsStationAt old s x shown
    → HasPlayed new s (play_event s event x) shown result

-- 1 to 16 devices that there may be
pub record AreDevices (devices : List DevicePlan) : Type 0 where
  pub some : 1 ≤ length devices
  pub few : length devices ≤ 16
  pub each : All IsDevicePlan devices

-- why no line leads from generator g to device r, of so many
abbrev pub IsLineRefusal : (g r generators devices : ℕ) → StationFault → Type 0
IsLineRefusal g r generators devices fault =
    ((fault ≡ NoSuchDevice) × (devices ≤ r))
    ⊎ ((fault ≡ NoSuchGenerator) × (r < devices) × (generators ≤ g))

-- such devices to which nothing has happened, whatever the symbols of their lines
pub record AreNewDevices {P : Type 0} {g : Ghosts P} (rules : Rules) (redundancy : Redundancy)
    (setups : List DevicePlan) (devices : List (Simulated P g))
    : Type 0 where
  pub count : length devices ≡ length setups
  pub each : All (IsDeviceAt (ports_in redundancy) 0) devices
  pub begun : (r : ℕ) (d : Simulated P g) (setup : DevicePlan)
      (symbol : (line element : ℕ) → Symbol) → slice_get setups r ≡ Some setup
      → IsSimulationOf (slice_index_or devices r d) (kind_of rules redundancy setup) symbol
      (begun_with (kind_of rules redundancy setup) setup.late_us)
