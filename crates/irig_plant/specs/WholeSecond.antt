-- The events of a whole second, and of many.
-- Source: docs/SCENARIOS.md, whole seconds; this project's profile.
use Rattle.std.specs.Prelude.{ℕ, zero, suc, List, [], ◌++◌, map}
use Rattle.std.specs.List.{flat_map, range_with_len}
use Rattle.irig_plant.specs.declared.event.Event.{Event}
use Rattle.irig_plant.specs.declared.event.Event.TheVariants.{GenEdge, Tick, Carry}

-- the frame of each of so many generators to reader r
abbrev pub carries_to : ℕ → ℕ → List Event
carries_to generators r = map (λ g. Carry g r) (range_with_len 0 generators)

-- to each of so many readers
abbrev pub carries : ℕ → ℕ → List Event
carries generators readers = flat_map (λ r. carries_to generators r) (range_with_len 0 readers)

-- a tick of each of so many readers
abbrev pub ticks : ℕ → List Event
ticks readers = map (λ r. Tick r) (range_with_len 0 readers)

-- an edge of each of so many generators
abbrev pub steps : ℕ → List Event
steps generators = map (λ g. GenEdge g) (range_with_len 0 generators)

-- each frame comes to each reader, each reader ticks, each generator goes to its next edge
abbrev pub second_of : ℕ → ℕ → List Event
second_of generators readers = carries generators readers ++ (ticks readers ++ steps generators)

-- so many times the same
abbrev pub times : ℕ → List Event → List Event
times zero events = []
times (suc n) events = events ++ times n events
