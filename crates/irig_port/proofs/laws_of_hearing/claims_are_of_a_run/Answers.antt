use Rattle.irig_port.proofs.RunLaws.{claim_of_run}
use Rattle.irig_port.proofs.laws_of_hearing.claims_are_of_a_run.Goals as goal

pub returns : goal.returns
returns _ = claim_of_run
