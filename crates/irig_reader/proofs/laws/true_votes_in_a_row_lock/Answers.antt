use Rattle.irig_reader.proofs.TrueVotesInARow.{locked_by_true_votes, locked_from_anywhere}
use Rattle.irig_reader.proofs.laws.true_votes_in_a_row_lock.Goals as goal

pub returns-clause-silent : goal.returns-clause-silent
returns-clause-silent c t n rules table vote votes earlier u sound some = locked_by_true_votes t rules table sound some n vote earlier votes u

pub returns-clause-any : goal.returns-clause-any
returns-clause-any c t n rules table vote votes earlier u sound some = locked_from_anywhere t rules table sound some n vote earlier votes u
