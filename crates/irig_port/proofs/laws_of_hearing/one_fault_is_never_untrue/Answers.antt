use Rattle.irig_port.proofs.FaultLaws.{one_fault, seldom}
use Rattle.irig_port.proofs.laws_of_hearing.one_fault_is_never_untrue.Goals as goal

pub returns-clause-once : goal.returns-clause-once
returns-clause-once _ = one_fault

pub returns-clause-again : goal.returns-clause-again
returns-clause-again _ = seldom
