use Rattle.irig_plant.proofs.HealthLaws.{carried_is_healthy, healthy_tells, healthy_votes}
use Rattle.irig_plant.proofs.laws.healthy_carries_vote.Goals as goal

pub returns-clause-healthy : goal.returns-clause-healthy
returns-clause-healthy _ = carried_is_healthy

pub returns-clause-told : goal.returns-clause-told
returns-clause-told _ = healthy_tells

pub returns-clause-voted : goal.returns-clause-voted
returns-clause-voted _ = healthy_votes
