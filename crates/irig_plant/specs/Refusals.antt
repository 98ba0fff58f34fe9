-- Why an event is refused: the first reason of its line, from the left.
-- Source: docs/FAULTS.md, 19 to 22.
use Rattle.std.specs.Prelude.{ℕ, ◌+◌, nat_lt, is_some, if◌then◌else◌, List, length, Option, Some, None}
use Rattle.irig_time.specs.Timelines.{second_at}
use Rattle.irig_plant.specs.declared.event.Event.{Event}
use Rattle.irig_plant.specs.declared.event.Event.TheVariants.{GenEdge, Tick, Carry, Damage, Replay, Raw, Fault, Repair, Restart}
use Rattle.irig_plant.specs.declared.fault.PlantFault.{PlantFault}
use Rattle.irig_plant.specs.declared.fault.PlantFault.TheVariants.{NoSuchReader, NoSuchGenerator, FutureReplay, EndOfYears}
use Rattle.irig_plant.specs.Schedule.{Setup, generator_at, ticks_of}

-- there is no reader r, else what follows
abbrev pub unless_reader : Setup → ℕ → Option PlantFault → Option PlantFault
unless_reader s r rest = if nat_lt r (length s.readers) then rest else Some NoSuchReader

-- there is no generator g, else what follows
abbrev pub unless_generator : Setup → ℕ → Option PlantFault → Option PlantFault
unless_generator s g rest = if nat_lt g (length s.generators) then rest else Some NoSuchGenerator

-- the edge is still to come at generator g
abbrev pub unless_past : Setup → ℕ → ℕ → List Event → Option PlantFault
unless_past s g edge ev = if nat_lt (generator_at s g ev).edge edge then Some FutureReplay else None

-- there is no T(n)
abbrev pub unless_second : Setup → ℕ → Option PlantFault
unless_second s n = if is_some (second_at s.times n) then None else Some EndOfYears

-- why an event is refused that comes after ev, if it is
abbrev pub refusal : Setup → Event → List Event → Option PlantFault
refusal s (GenEdge g) ev = unless_generator s g (unless_second s ((generator_at s g ev).edge + 1))
refusal s (Tick r) ev = unless_reader s r (unless_second s (ticks_of r ev))
refusal s (Carry g r) ev = unless_reader s r (unless_generator s g None)
refusal s (Damage g r at width) ev = unless_reader s r (unless_generator s g None)
refusal s (Replay g r edge) ev = unless_reader s r (unless_generator s g (unless_past s g edge ev))
refusal s (Raw g r widths) ev = unless_reader s r (unless_generator s g None)
refusal s (Fault g kind) ev = unless_generator s g None
refusal s (Repair g) ev = unless_generator s g None
refusal s (Restart r) ev = unless_reader s r None
