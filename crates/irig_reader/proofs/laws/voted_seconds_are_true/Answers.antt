use Rattle.irig_reader.proofs.CleanHearing.{clean_hearing}
use Rattle.irig_reader.proofs.OneEdge.{voted_seconds, clean_by_few, clean_vote}
use Rattle.irig_reader.proofs.laws.voted_seconds_are_true.Goals as goal

pub returns-clause-second : goal.returns-clause-second
returns-clause-second c = voted_seconds

pub returns-clause-few : goal.returns-clause-few
returns-clause-few c = clean_by_few

pub returns-clause-vote : goal.returns-clause-vote
returns-clause-vote c = clean_vote

pub returns-clause-heard : goal.returns-clause-heard
returns-clause-heard c = clean_hearing
