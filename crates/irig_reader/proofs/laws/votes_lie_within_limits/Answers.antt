use Rattle.irig_reader.proofs.CleanHearing.{votes_carried}
use Rattle.irig_reader.proofs.MarkedVotes.{vote_late}
use Rattle.irig_reader.proofs.laws.votes_lie_within_limits.Goals as goal

pub returns-clause-carried : goal.returns-clause-carried
returns-clause-carried c = votes_carried

pub returns-clause-day : goal.returns-clause-day
returns-clause-day c = vote_late
