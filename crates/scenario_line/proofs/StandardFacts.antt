-- A known second of a scenario, so that a wrong definition does not check.
use Rattle.std.proofs.Common.{◌≡◌, [], ◌∷◌, refl}
use Rattle.irig_plant.specs.declared.event.Event.TheVariants.{GenEdge, Tick, Carry}
use Rattle.irig_plant.specs.WholeSecond.{second_of}

-- of three generators and two readers: the carries by reader, the ticks, the steps
pub known_second : second_of 3 2
    ≡ Carry 0 0 ∷ Carry 1 0 ∷ Carry 2 0 ∷ Carry 0 1 ∷ Carry 1 1 ∷ Carry 2 1 ∷ Tick 0 ∷ Tick 1 ∷ GenEdge 0 ∷ GenEdge 1 ∷ GenEdge 2 ∷ []
known_second = refl
