use Rattle.irig_reader.proofs.FedLaws.{claim_is_of_run}
use Rattle.irig_reader.proofs.laws.a_claim_is_of_a_run.Goals as goal

pub returns : goal.returns
returns _ = claim_is_of_run
