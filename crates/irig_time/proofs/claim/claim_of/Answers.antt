use Rattle.irig_time.proofs.ClaimedSeconds.{answer_valid}
use Rattle.irig_time.proofs.claim.claim_of.Goals as goal

pub returns-clause-valid : goal.returns-clause-valid
returns-clause-valid c =
    answer_valid c.args.sense c.args.coded.now c.args.control.now c.claim_or_fault.result c.requires.coded.second c.claim_or_fault.ensures
