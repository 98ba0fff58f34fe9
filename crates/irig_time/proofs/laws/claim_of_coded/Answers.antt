use Rattle.irig_time.proofs.ClaimLaws.{added, subtracted}
use Rattle.irig_time.proofs.laws.claim_of_coded.Goals as goal

pub returns-clause-added : goal.returns-clause-added
returns-clause-added c = added

pub returns-clause-subtracted : goal.returns-clause-subtracted
returns-clause-subtracted c = subtracted
