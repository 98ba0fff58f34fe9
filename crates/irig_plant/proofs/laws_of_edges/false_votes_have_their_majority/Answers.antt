use Rattle.irig_plant.proofs.OwnEdge.{false_by_majority}
use Rattle.irig_plant.proofs.laws_of_edges.false_votes_have_their_majority.Goals as goal

pub returns : goal.returns
returns _ = false_by_majority
