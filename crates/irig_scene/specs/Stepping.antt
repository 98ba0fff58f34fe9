-- A plant that takes one event at a time: what stands after it, and how many entries of its log.
-- Source: docs/SCENARIOS.md; this project's profile.
use Rattle.std.specs.Prelude.{◌≡◌, ◌≤◌, ℕ, ◌+◌, List, [], ◌∷◌, vec_len, None, Some, Result, Ok, Err}
use Rattle.irig_port.specs.declared.port.Port.{Ghosts}
use Rattle.irig_plant.specs.declared.event.Event.{Event}
use Rattle.irig_plant.specs.declared.event.Event.TheVariants.{Tick}
use Rattle.irig_plant.specs.declared.plant.Plant.{Plant}
use Rattle.irig_plant.specs.History.{PlantHistory, HasPlantHistory, ForHistory, with_event, with_cleared_log}
use Rattle.irig_plant.specs.Refusals.{refusal}
use Rattle.report_run.specs.declared.stop.Failure.TheVariants.{Memory}
use Rattle.report_run.specs.declared.stop.Stop.{Stop}
use Rattle.report_run.specs.declared.stop.Stop.TheVariants.{Refused, Failed}
use Rattle.irig_scene.specs.Scene.{play, play_by}

-- a plant has some history
pub record HasSomeHistory {P : Type 0} {g : Ghosts P} (plant : Plant P g) : Type 0 where
  pub history : PlantHistory
  pub stands : HasPlantHistory plant history

-- so, and no entry stands but that of its last event
pub record HasStepped {P : Type 0} {g : Ghosts P} (plant : Plant P g) : Type 0 where
  pub happened : HasSomeHistory plant
  pub few : vec_len plant.log ≤ 1

-- a plant let its log go, and took an event or refused it; or there was no memory
abbrev pub Steps : {P : Type 0} {g : Ghosts P} → Plant P g → Event → Result (Unit {0}) Stop
    → Plant P g → Type 0
Steps was e (Ok done) is =
    ForHistory was (λ h. (refusal h.setup e h.events ≡ None)
    × HasPlantHistory is (with_event e (with_cleared_log h)))
Steps was e (Err (Refused k)) is =
    ForHistory was (λ h. (play h.setup (e ∷ []) h.events ≡ play_by h.events (Some k))
    × HasPlantHistory is (with_cleared_log h))
Steps was e (Err (Failed f)) is = f ≡ Memory

-- how many of these events are ticks, each of which is an entry
abbrev pub ticks_among : List Event → ℕ
ticks_among [] = 0
ticks_among (Tick r ∷ es) = ticks_among es + 1
ticks_among (_ ∷ es) = ticks_among es
