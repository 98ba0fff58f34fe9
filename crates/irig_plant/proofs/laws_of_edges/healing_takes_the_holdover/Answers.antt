use Rattle.irig_plant.proofs.HealingPlant.{holding, held_twice}
use Rattle.irig_plant.proofs.HealingFacts.{fourth, false_to_the_end}
use Rattle.irig_plant.proofs.laws_of_edges.healing_takes_the_holdover.Goals as goal

pub returns : goal.returns
returns _ = (holding, 2, held_twice, fourth, false_to_the_end)
