use Rattle.irig_vote.proofs.CountLaws.{vote_counts}
use Rattle.irig_vote.proofs.laws.vote_is.Goals as goal

pub returns : goal.returns
returns _ = vote_counts
