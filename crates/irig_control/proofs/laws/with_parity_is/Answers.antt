use Rattle.irig_control.proofs.ParityLaws.{parity_given, with_parity_other}
use Rattle.irig_control.proofs.laws.with_parity_is.Goals as goal

pub returns-clause-parity : goal.returns-clause-parity
returns-clause-parity c = parity_given

pub returns-clause-others : goal.returns-clause-others
returns-clause-others c = with_parity_other
