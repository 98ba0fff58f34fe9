use Rattle.irig_sync.proofs.CostLaws.{in_step, own_frame}
use Rattle.irig_sync.proofs.laws.a_fault_costs_its_own_frame.Goals as goal

pub returns-clause-in_step : goal.returns-clause-in_step
returns-clause-in_step _ line edges off d k p ps right clock = in_step line edges off d clock right k p ps

pub returns-clause-behind : goal.returns-clause-behind
returns-clause-behind _ line edges off d pulses right clock = own_frame line edges off d clock right pulses
