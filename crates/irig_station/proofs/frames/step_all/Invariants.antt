use Rattle.std.proofs.Common.{◌≡◌, ◌<◌, ◌≤◌, ℕ, length, get_or}
use Rattle.irig_gen.specs.Frames.{GeneratorValue}
use Rattle.irig_plant.specs.Schedule.{generator_at_next_edge}
use Rattle.irig_station.proofs.frames.step_all.Given as goal

-- those so far stand at their next edges, the others where they stood
abbrev pub invariant-loop-g : goal.invariant-loop-g
invariant-loop-g l =
    (length l.generators.items ≡ length l.initial.generators.items)
    × ((k : ℕ) (d : GeneratorValue) → k < l.g → get_or l.generators.items k d ≡ generator_at_next_edge (get_or l.initial.generators.items k d))
    × ((k : ℕ) (d : GeneratorValue) → l.g ≤ k → get_or l.generators.items k d ≡ get_or l.initial.generators.items k d)
