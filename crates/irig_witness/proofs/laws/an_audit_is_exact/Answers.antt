use Rattle.irig_witness.proofs.ExactLaws.{exact}
use Rattle.irig_witness.proofs.laws.an_audit_is_exact.Goals as goal

pub returns : goal.returns
returns _ d first rate symbol clock start calls keeps = exact d first rate keeps symbol clock start calls
