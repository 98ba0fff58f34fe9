-- What stands after an event, and what a run shows.
use Rattle.std.specs.Prelude.{◌≡◌, ℕ, false, List, [], length, Option, Some, Result, Ok, Err}
use Rattle.irig_plant.specs.declared.event.Event.{Event}
use Rattle.irig_plant.specs.Schedule.{Setup}
use Rattle.report_run.specs.declared.fault.SceneFault.{SceneFault}
use Rattle.report_run.specs.declared.fault.SceneFault.TheVariants as fault
use Rattle.report_run.specs.Lines.{lines}
use Rattle.report_run.specs.Runs.{IsDone, IsRefused}
use Rattle.irig_scene.specs.Scene.{Scene}
use Rattle.irig_scene.specs.Texts.{no_texts}
use Rattle.irig_station_scene.specs.StationTexts.{quiet_texts}
use Rattle.irig_scenario.specs.declared.listen.ScenarioRun.{ScenarioRun}
use Rattle.irig_scenario.specs.AnyScenario.{AnyEnds, HasHeard, any_meaning, any_texts}
use Rattle.irig_scenario.specs.Scenarios.{ScenarioEnd}
use Rattle.report_found.specs.Books.{ticks_at}
use Rattle.report_lanes.specs.declared.drawer.Drawer.{Drawer}
use Rattle.report_lanes.specs.declared.lane.Lane.{Lane}
use Rattle.report_lanes.specs.OpenLanes.{AreOpen}
use Rattle.report_lanes.specs.DeviceRuns.{IsDrawerAtStation}
use Rattle.report_lanes.specs.Scenes.{all_ended, lanes_of}

-- ---- what stands after an event

-- the lanes of each reader of a plant are open
abbrev pub AreOpenAt : Drawer → Setup → List Event → Type 0
AreOpenAt d s ev = AreOpen d (length s.readers) (λ r. ticks_at s r ev)

-- and all that ended is kept
pub record IsDrawerAt (d : Drawer) (x : Scene) : Type 0 where
  pub readers : AreOpenAt d x.plan.setup x.events
  pub ports : d.ports ≡ length x.plan.setup.generators
  pub ended : d.lanes.items ≡ all_ended x.plan.setup x.events

-- ---- what a run shows

-- a run of the text that keeps all that ended
pub record HasDrawn (text : List ℕ) (run : ScenarioRun Drawer Drawer) : Type 0 where
  pub left : Option (List ℕ)
  pub wrote : List ℕ
  pub heard : HasHeard IsDrawerAt IsDrawerAtStation false (any_texts no_texts quiet_texts) run.answer
      run.listener (Some text) left (Some []) (Some wrote)

-- the answer and all that is to be seen in the bytes x; nothing if the run failed
abbrev pub DrawnIn : Result ScenarioEnd SceneFault → List Lane → List ℕ → Type 0
DrawnIn (Ok o) lanes x =
    IsDone AnyEnds (any_meaning x) (length (lines x)) o × (lanes ≡ lanes_of x)
DrawnIn (Err (fault.Refused line refusal)) lanes x =
    IsRefused (any_meaning x) line refusal × (lanes ≡ lanes_of x)
DrawnIn (Err fault.Read) lanes x = lanes ≡ []
DrawnIn (Err fault.Write) lanes x = lanes ≡ []
DrawnIn (Err fault.Memory) lanes x = lanes ≡ []
