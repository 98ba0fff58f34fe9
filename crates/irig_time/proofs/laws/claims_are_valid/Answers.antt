use Rattle.irig_time.proofs.ClaimedSeconds.{claim_valid}
use Rattle.irig_time.proofs.laws.claims_are_valid.Goals as goal

pub returns : goal.returns
returns c = claim_valid
