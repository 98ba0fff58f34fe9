-- All that is to be seen of a scenario.
-- Source: docs/C.md.
use Rattle.std.specs.Prelude.{ℕ, List, [], ◌∷◌, ◌++◌, length, Option, Some, None}
use mathlib.Core.Logic.{inl, inr}
use Rattle.irig_plant.specs.declared.event.Event.{Event}
use Rattle.irig_plant.specs.declared.event.Event.TheVariants as event
use Rattle.irig_plant.specs.Schedule.{Setup}
use Rattle.irig_scene.specs.Scene.{Scene}
use Rattle.irig_scenario.specs.AnyScenario.{AnyScene, any_meaning}
use Rattle.report_found.specs.Books.{tick_of, ticks_at}
use Rattle.report_found.specs.Findings.{lists_below}
use Rattle.report_lanes.specs.declared.lane.Lane.{Lane}
use Rattle.report_lanes.specs.declared.reader.ReaderLanes.{ReaderLanes}
use Rattle.report_lanes.specs.DeviceScenes.{lanes_in_station}
use Rattle.report_lanes.specs.Lanes.{open_of, ended_lanes, open_lanes}

-- what is open of reader r
abbrev pub open_at : Setup → List Event → ℕ → ReaderLanes
open_at s ev r = open_of (ticks_at s r ev)

-- what its tick ends that comes after ev, of so many ports, and its mark
abbrev pub ended_at : Setup → ℕ → ℕ → List Event → List Lane
ended_at s ports r ev = ended_lanes ports (open_at s ev r) (tick_of s r ev)

-- what an event ends that comes after ev
abbrev pub ended_by_event : Setup → Event → List Event → List Lane
ended_by_event s (event.Tick r) ev = ended_at s (length s.generators) r ev
ended_by_event s _ ev = []

-- so of all events, the oldest first
abbrev pub all_ended : Setup → List Event → List Lane
all_ended s [] = []
all_ended s (e ∷ ev) = all_ended s ev ++ ended_by_event s e ev

-- what is open behind them, reader by reader
abbrev pub all_open : Setup → List Event → List Lane
all_open s ev =
    lists_below (λ r. open_lanes (length s.generators) (open_at s ev r)) (length s.readers)

-- all that is to be seen in a scene
abbrev pub lanes_in : Scene → List Lane
lanes_in x = all_ended x.plan.setup x.events ++ all_open x.plan.setup x.events

-- nothing before there is a plant; of devices what is to be seen there
abbrev pub lanes_at : Option AnyScene → List Lane
lanes_at None = []
lanes_at (Some (inl x)) = lanes_in x
lanes_at (Some (inr x)) = lanes_in_station x

-- all that is to be seen in what the bytes x mean
abbrev pub lanes_of : List ℕ → List Lane
lanes_of x = lanes_at (any_meaning x).scene
