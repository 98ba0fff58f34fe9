-- All that is found in a scenario: who lied, and what it cost.
-- Source: docs/OUTPUT.md.
use Rattle.std.specs.Prelude.{ℕ, List, [], ◌∷◌, ◌++◌, length, Option, Some, None}
use mathlib.Core.Logic.{inl, inr}
use Rattle.irig_plant.specs.declared.event.Event.{Event}
use Rattle.irig_plant.specs.declared.event.Event.TheVariants as event
use Rattle.irig_plant.specs.Schedule.{Setup}
use Rattle.irig_scene.specs.Scene.{Scene}
use Rattle.irig_scenario.specs.AnyScenario.{AnyScene, any_meaning}
use Rattle.report_found.specs.declared.finding.Finding.{Finding}
use Rattle.report_found.specs.Books.{tick_of, account_at}
use Rattle.report_found.specs.DeviceScenes.{found_in_station}
use Rattle.report_found.specs.Findings.{lists_below, ended_found, open_found}

-- what an event ends that comes after ev: a tick those stretches and the silence of its reader that
-- do not go on
abbrev pub ended_by_event : Setup → Event → List Event → List Finding
ended_by_event s (event.Tick r) ev =
    ended_found r (length s.generators) (account_at s ev r) (tick_of s r ev)
ended_by_event s _ ev = []

-- so of all events, the oldest first
abbrev pub all_ended : Setup → List Event → List Finding
all_ended s [] = []
all_ended s (e ∷ ev) = all_ended s ev ++ ended_by_event s e ev

-- what is open behind them, reader by reader
abbrev pub all_open : Setup → List Event → List Finding
all_open s ev =
    lists_below (λ r. open_found r (length s.generators) (account_at s ev r)) (length s.readers)

-- all that is found in a scene
abbrev pub found_in : Scene → List Finding
found_in x = all_ended x.plan.setup x.events ++ all_open x.plan.setup x.events

-- nothing before there is a plant; of devices what is found there
abbrev pub found_at : Option AnyScene → List Finding
found_at None = []
found_at (Some (inl x)) = found_in x
found_at (Some (inr x)) = found_in_station x

-- all that is found in what the bytes x mean
abbrev pub found_of : List ℕ → List Finding
found_of x = found_at (any_meaning x).scene
