use Rattle.irig_plant.proofs.CourseLaws.{vote_is_there}
use Rattle.irig_plant.proofs.laws.votes_are_at_voted_edges.Goals as goal

pub returns : goal.returns
returns _ = vote_is_there
