use Rattle.std.proofs.Common.{take}
use Rattle.irig_plant.specs.History.{HasPlantHistory, PlantHistory, with_events}
use Rattle.irig_plant.specs.Runs.{AreAccepted}
use Rattle.irig_plant.proofs.plant.Plant.run.Given as goal

abbrev pub invariant-loop-index : goal.invariant-loop-index
invariant-loop-index g l = record {
  accepted : (h : PlantHistory) → HasPlantHistory l.initial.self h → AreAccepted h.setup (take l.index l.events) h.events;
  stands : (h : PlantHistory) → HasPlantHistory l.initial.self h → HasPlantHistory l.self (with_events (take l.index l.events) h);
}
