use Rattle.irig_hold.proofs.HoldLaws.{voted_no_jump, voted_stops, started_stops, alone_guard, alone_end}
use Rattle.irig_hold.proofs.laws.law_of_stops.Goals as goal

pub returns-clause-jump : goal.returns-clause-jump
returns-clause-jump c = voted_no_jump

pub returns-clause-voted_guard : goal.returns-clause-voted_guard
returns-clause-voted_guard c t table n h vote sound at true_vote = (voted_stops t table n h vote sound at true_vote).0

pub returns-clause-started_guard : goal.returns-clause-started_guard
returns-clause-started_guard c t table n first sound true_claim = (started_stops t table n first sound true_claim).0

pub returns-clause-voted_end : goal.returns-clause-voted_end
returns-clause-voted_end c t table n h vote sound at true_vote = (voted_stops t table n h vote sound at true_vote).1

pub returns-clause-started_end : goal.returns-clause-started_end
returns-clause-started_end c t table n first sound true_claim = (started_stops t table n first sound true_claim).1

pub returns-clause-guard : goal.returns-clause-guard
returns-clause-guard c = alone_guard

pub returns-clause-end : goal.returns-clause-end
returns-clause-end c = alone_end
