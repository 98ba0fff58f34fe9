use Rattle.irig_plant.proofs.CarryLaws.{whole_is_healthy, whole_votes, whole_run_announces}
use Rattle.irig_plant.proofs.laws.whole_carries_vote.Goals as goal

pub returns-clause-healthy : goal.returns-clause-healthy
returns-clause-healthy _ = whole_is_healthy

pub returns-clause-voted : goal.returns-clause-voted
returns-clause-voted _ = whole_votes

pub returns-clause-announced : goal.returns-clause-announced
returns-clause-announced _ = whole_run_announces
