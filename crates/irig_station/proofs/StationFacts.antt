-- Stations that compute: how time is cut into seconds, where the years end, why events are refused, and
-- with what an audit begins.
use Rattle.std.proofs.Common.{◌≡◌, ◌∙◌, ℕ, true, false, List, [], ◌∷◌, length, map, Option, Some, None, ℤ, pos, negsuc, refl}
use Rattle.irig_time.specs.Timelines.{TimelineValue, second_at, times}
use Rattle.irig_gen.specs.declared.fault.GenFault.TheVariants.{Silent}
use Rattle.irig_lives.proofs.LifeFacts.{rules}
use Rattle.irig_plant.specs.Audits.{is_true_table}
use Rattle.irig_simulated.specs.Setups.{DevicePlan}
use Rattle.irig_station.specs.declared.audit.Audit.{Audit}
use Rattle.irig_station.specs.declared.audit.Audit.TheVariants.{Kept, FalseTable, Drift}
use Rattle.irig_station.specs.declared.event.Event.{Event}
use Rattle.irig_station.specs.declared.event.Event.TheVariants.{Pass, Fault, Pull, Tick, Stamp}
use Rattle.irig_station.specs.declared.fault.StationFault.{StationFault}
use Rattle.irig_station.specs.declared.fault.StationFault.TheVariants.{BeforeStart, EndOfYears, NoSuchDevice, NoSuchGenerator}
use Rattle.irig_station.specs.StationSetups.{StationSetup, station_setup}
use Rattle.irig_station.specs.SentSeconds.{SentSecond, second_sent}
use Rattle.irig_station.specs.StationAudits.{audit_at_start}
use Rattle.irig_station.specs.StationStandings.{StationStanding, station_at_start}
use Rattle.irig_station.specs.StationPlay.{play_event, standing_after}

-- ---- time alone, without devices

abbrev nobody : TimelineValue → StationSetup
nobody t = station_setup t [] rules []

-- noon of 2017-01-01, and the last second that is served
abbrev noon : TimelineValue
noon = times (record { day = 6210; sod = 43200 }) []

abbrev last : TimelineValue
last = times (record { day = 36523; sod = 86399 }) []

-- where it stands after some events: the time, and how many seconds have begun
abbrev place : StationSetup → List Event → ℕ × ℕ
place s ev = ((standing_after s ev).now, length (standing_after s ev).seconds)

time_passes : map (place (nobody noon)) ([] ∷ (Pass 1 ∷ []) ∷ (Pass 1000000 ∷ []) ∷ (Pass 1 ∷ Pass 1000000 ∷ []) ∷ (Pass 2500000 ∷ []) ∷ [])
    ≡ (0, 0) ∷ (1, 1) ∷ (1000000, 1) ∷ (1000001, 2) ∷ (2500000, 3) ∷ []
unfolding second_at
time_passes = refl

-- what passed before the end of the years has happened
years_end : ((play_event (nobody last) (Pass 1500000) (station_at_start (nobody last))).refusal ≡ Some EndOfYears)
    × (place (nobody last) (Pass 1500000 ∷ []) ≡ (1000000, 1))
unfolding second_at
years_end = (refl, refl)

-- ---- seconds, the newest first

seconds_stay : (one two : List SentSecond) → map (second_sent (two ∷ one ∷ [])) (0 ∷ 1 ∷ 2 ∷ []) ≡ one ∷ two ∷ [] ∷ []
seconds_stay one two = refl

-- ---- one device, and no generator

module _ (d : DevicePlan) where
  abbrev device : (holdover drift : ℕ) → ℤ → DevicePlan
  device holdover drift gain =
      record d { rules = record { lock_after = 1; holdover = holdover }; drift_us = drift; gain_us = gain }

  abbrev one : DevicePlan → StationSetup
  one x = station_setup noon [] rules (x ∷ [])

  abbrev why : Event → Option StationFault
  why e = (play_event (one d) e (station_at_start (one d))).refusal

  events_are_refused : map why (Tick 1 ∷ Pull 1 1 ∷ Pull 0 0 ∷ Fault 0 Silent ∷ Stamp 1 1 ∷ Stamp 0 1 ∷ [])
      ≡ Some NoSuchDevice ∷ Some NoSuchDevice ∷ Some NoSuchGenerator ∷ Some NoSuchGenerator ∷ Some NoSuchDevice ∷ Some BeforeStart ∷ []
  events_are_refused = refl

  audits_begin : map (λ x. audit_at_start (one x)) (device 57 40 (pos 40) ∷ device 57 40 (negsuc 39) ∷ device 57 40 (pos 41) ∷ device 57 40 (negsuc 40) ∷ [])
      ≡ Kept ∷ Kept ∷ Drift 0 ∷ Drift 0 ∷ []
  audits_begin = refl

  tables_are_asked : is_true_table noon d.table ≡ false → audit_at_start (one (device 58 40 (pos 41))) ≡ FalseTable 0
  tables_are_asked is = rw is refl
