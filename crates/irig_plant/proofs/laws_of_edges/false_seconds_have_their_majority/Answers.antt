use Rattle.irig_plant.proofs.HealingLaws.{log_rests_on_majorities}
use Rattle.irig_plant.proofs.laws_of_edges.false_seconds_have_their_majority.Goals as goal

pub returns : goal.returns
returns _ = log_rests_on_majorities
