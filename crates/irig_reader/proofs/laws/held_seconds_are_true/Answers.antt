use Rattle.irig_reader.proofs.HeldEdges.{held_since}
use Rattle.irig_reader.proofs.LifeLaws.{held_is_true}
use Rattle.irig_reader.proofs.MarkedVotes.{votes_marked, none_marked}
use Rattle.irig_reader.proofs.laws.held_seconds_are_true.Goals as goal

pub returns-clause-last : goal.returns-clause-last
returns-clause-last c = held_since

pub returns-clause-second : goal.returns-clause-second
returns-clause-second _ t n rules table vote votes earlier c edges u sound knows marked claim are some says = held_is_true t rules table sound knows n edges vote votes earlier c u marked claim are some says

pub returns-clause-none : goal.returns-clause-none
returns-clause-none c = none_marked

pub returns-clause-marked : goal.returns-clause-marked
returns-clause-marked c = votes_marked
