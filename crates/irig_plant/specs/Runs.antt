-- Lists of events, one after another.
use Rattle.std.specs.Prelude.{◌≡◌, List, [], ◌∷◌, Some, None, ⊤, ◌⊎◌}
use Rattle.irig_plant.specs.declared.event.Event.{Event}
use Rattle.irig_plant.specs.declared.event.Event.TheVariants.{Tick}
use Rattle.irig_plant.specs.declared.fault.PlantFault.{PlantFault}
use Rattle.irig_plant.specs.declared.fault.PlantFault.TheVariants.{Memory}
use Rattle.irig_plant.specs.Schedule.{Setup}
use Rattle.irig_plant.specs.Refusals.{refusal}

-- what has come, the newest first, once these events came too, the oldest of them first
abbrev pub events_after : List Event → List Event → List Event
events_after [] ev = ev
events_after (e ∷ es) ev = events_after es (e ∷ ev)

-- none of them is refused
abbrev pub AreAccepted : Setup → List Event → List Event → Type 0
AreAccepted s [] ev = ⊤
AreAccepted s (e ∷ es) ev = (refusal s e ev ≡ None) × AreAccepted s es (e ∷ ev)

-- only a tick may want memory
abbrev pub MayWantMemory : Event → Type 0
MayWantMemory (Tick r) = ⊤
MayWantMemory _ = ⊥

-- after ev the event is refused with this fault: its own, or, last of all, no memory
abbrev pub IsRefused : Setup → Event → List Event → PlantFault → Type 0
IsRefused s e ev fault =
    (refusal s e ev ≡ Some fault) ⊎ ((refusal s e ev ≡ None) × (fault ≡ Memory) × MayWantMemory e)
