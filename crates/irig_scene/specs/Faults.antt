-- Why an event that gives nothing ends the run.
-- Source: docs/OUTPUT.md; this project's profile.
use Rattle.std.specs.Prelude.{Option, Some, None}
use Rattle.irig_plant.specs.declared.fault.PlantFault.{PlantFault}
use Rattle.text_faults.specs.declared.refusal.Refusal.{Refusal}
use Rattle.report_run.specs.declared.stop.Failure.TheVariants as failure
use Rattle.report_run.specs.declared.stop.Stop.{Stop}
use Rattle.report_run.specs.declared.stop.Stop.TheVariants as stop
use Rattle.irig_scene.specs.Scene.{refusal_as}

-- why an event that gives nothing ends the run
abbrev pub stop_as : Option Refusal → Stop
stop_as (Some k) = stop.Refused k
stop_as None = stop.Failed failure.Memory

-- so of an event's fault
abbrev pub stop_of_event : PlantFault → Stop
stop_of_event fault = stop_as (refusal_as fault)
