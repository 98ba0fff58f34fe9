use Rattle.report_blame.proofs.ExtremeLaws.{all_within, none_announced}
use Rattle.report_blame.proofs.laws.reaches_are_of_announced_seconds.Goals as goal

pub returns-clause-some : goal.returns-clause-some
returns-clause-some _ = all_within

pub returns-clause-none : goal.returns-clause-none
returns-clause-none _ = none_announced
