use Rattle.irig_reader.proofs.VotesInARow.{announced_by_votes}
use Rattle.irig_reader.proofs.laws.locking_takes_votes_in_a_row.Goals as goal

pub returns : goal.returns
returns c = announced_by_votes
