use Rattle.irig_plant.proofs.HeadlineVotes.{vote_is_true}
use Rattle.irig_plant.proofs.laws.votes_are_true.Goals as goal

pub returns : goal.returns
returns _ = vote_is_true
