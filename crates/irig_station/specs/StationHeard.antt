-- What devices of a station heard, beside their calls.
-- Source: docs/SCENARIOS.md, what a device hears; this project's profile.
use Rattle.std.specs.Prelude.{◌≡◌, ℕ, ◌==◌, if◌then◌else◌, List, [], ◌∷◌, ◌++◌, map, reverse, ⊤}
use Rattle.irig_simulated.specs.declared.heard.HeardPulse.{HeardPulse}
use Rattle.irig_simulated.specs.Heard.{call_of, pulses_told}
use Rattle.irig_station.specs.declared.event.Event.{Event}
use Rattle.irig_station.specs.declared.event.Event.TheVariants.{Restart}
use Rattle.irig_station.specs.StationSetups.{StationSetup, kind_of_device}
use Rattle.irig_station.specs.StationStandings.{StationStanding}
use Rattle.irig_station.specs.StationPlay.{standing_after}

-- of pulses those of device r
abbrev pub pulses_of : (r : ℕ) → List HeardPulse → List HeardPulse
pulses_of r [] = []
pulses_of r (p ∷ pulses) = if p.device == r then p ∷ pulses_of r pulses else pulses_of r pulses

-- device r was not restarted by these events
abbrev pub IsNotRestarted : (r : ℕ) → List Event → Type 0
IsNotRestarted r [] = ⊤
IsNotRestarted r (e ∷ ev) = (¬ (e ≡ Restart r)) × IsNotRestarted r ev

-- since some of the pulses had been heard, device r was told those of it, one after another, and no
-- others
pub record IsToldSince (s : StationSetup) (r : ℕ) (before : List HeardPulse) (x : StationStanding)
    : Type 0 where
  pub since : List HeardPulse
  pub heard : x.heard ≡ before ++ since
  pub calls : pulses_told (x.courses r).calls
      ≡ reverse (map (call_of (kind_of_device s r)) (pulses_of r since))

-- so since it was made or restarted
pub record IsToldWhatItHeard (s : StationSetup) (r : ℕ) (ev : List Event) : Type 0 where
  pub before : List HeardPulse
  pub told : IsToldSince s r before (standing_after s ev)
  pub whole : IsNotRestarted r ev → before ≡ []
