use Rattle.irig_wires.proofs.OrderLaws.{in_a_row, kept, not_back, taken_at_end}
use Rattle.irig_wires.proofs.laws.time_does_not_go_back.Goals as goal

pub returns-clause-next : goal.returns-clause-next
returns-clause-next _ = not_back

pub returns-clause-kept : goal.returns-clause-kept
returns-clause-kept _ = kept

pub returns-clause-taken : goal.returns-clause-taken
returns-clause-taken _ = taken_at_end

pub returns-clause-row : goal.returns-clause-row
returns-clause-row _ = in_a_row
