use Rattle.irig_plant.proofs.HealthLaws.{run_announces, run_announces_later}
use Rattle.irig_plant.proofs.laws.runs_are_announced.Goals as goal

pub returns-clause-locked : goal.returns-clause-locked
returns-clause-locked _ = run_announces

pub returns-clause-later : goal.returns-clause-later
returns-clause-later _ = run_announces_later
