-- What readers hear of a list of events: the pulses that come to their ports, their ticks and
-- restarts, and nothing of what happens at generators.
-- Source: docs/SCENARIOS.md; this project's profile.
use Rattle.std.specs.Prelude.{◌≡◌, ℕ, ◌≤◌, List, [], ◌∷◌, ◌++◌, length, All, option_to_list, Option, Some, None, ⊤}
use Rattle.irig_plant.specs.declared.event.Event.{Event}
use Rattle.irig_plant.specs.declared.event.Event.TheVariants.{Tick, Damage, Raw, Restart}
use Rattle.irig_plant.specs.Schedule.{Setup, Delivery, delivery_of}
use Rattle.irig_plant.specs.Refusals.{refusal}

-- pulses that come to a port, if any come
abbrev pub pulses_at : ℕ → ℕ → List ℕ → Option Event
pulses_at g r [] = None
pulses_at g r (w ∷ ws) = Some (Raw g r (w ∷ ws))

-- those of a delivery, if there is one
abbrev pub pulses_of : Option Delivery → Option Event
pulses_of None = None
pulses_of (Some d) = pulses_at d.generator d.reader d.widths

-- what readers hear of an event that comes after ev: pulses, a tick, a restart, or nothing
abbrev pub heard_of : Setup → Event → List Event → Option Event
heard_of s (Tick r) ev = Some (Tick r)
heard_of s (Restart r) ev = Some (Restart r)
heard_of s e ev = pulses_of (delivery_of s e ev)

-- so of all events, the newest first
abbrev pub recorded : Setup → List Event → List Event
recorded s [] = []
recorded s (e ∷ ev) = option_to_list (heard_of s e ev) ++ recorded s ev

-- the widths of its pulses are no more, and no longer, than a line can carry
abbrev pub CanBeWritten : Event → Type 0
CanBeWritten (Raw g r widths) = (length widths ≤ 1000) × All (λ w. w ≤ 4294967295) widths
CanBeWritten (Damage g r at width) = width ≤ 4294967295
CanBeWritten _ = ⊤

-- none of the events was refused, and each can be written
abbrev pub AreTaken : Setup → List Event → Type 0
AreTaken s [] = ⊤
AreTaken s (e ∷ ev) = (refusal s e ev ≡ None) × CanBeWritten e × AreTaken s ev
