use Rattle.irig_port.proofs.HeardLaws.{told_of-heard, heard-push}
use Rattle.irig_port.proofs.laws.cut_at_101.Goals as goal

pub returns-clause-same : goal.returns-clause-same
returns-clause-same c = told_of-heard

pub returns-clause-grows : goal.returns-clause-grows
returns-clause-grows c = heard-push
