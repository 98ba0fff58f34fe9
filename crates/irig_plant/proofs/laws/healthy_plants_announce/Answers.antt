use Rattle.irig_plant.proofs.HealthyLaws.{takes_seconds, logs_health, keeps_health}
use Rattle.irig_plant.proofs.laws.healthy_plants_announce.Goals as goal

pub returns-clause-accepted : goal.returns-clause-accepted
returns-clause-accepted _ = takes_seconds

pub returns-clause-log : goal.returns-clause-log
returns-clause-log _ = logs_health

pub returns-clause-kept : goal.returns-clause-kept
returns-clause-kept _ = keeps_health
