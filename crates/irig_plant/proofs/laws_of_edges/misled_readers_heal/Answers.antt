use Rattle.irig_plant.proofs.HealingLaws.{held, over, healed}
use Rattle.irig_plant.proofs.PriceLaws.{few_held}
use Rattle.irig_plant.proofs.laws_of_edges.misled_readers_heal.Goals as goal

pub returns-clause-held : goal.returns-clause-held
returns-clause-held _ = held

pub returns-clause-over : goal.returns-clause-over
returns-clause-over _ = over

pub returns-clause-healed : goal.returns-clause-healed
returns-clause-healed _ = λ s m k ev e h. healed s m ev e h k

pub returns-clause-few : goal.returns-clause-few
returns-clause-few _ = few_held
