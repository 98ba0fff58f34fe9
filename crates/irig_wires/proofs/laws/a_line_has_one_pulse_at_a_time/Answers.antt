use Rattle.irig_wires.proofs.CallLaws.{apart, next_apart, stays}
use Rattle.irig_wires.proofs.laws.a_line_has_one_pulse_at_a_time.Goals as goal

pub returns-clause-stays : goal.returns-clause-stays
returns-clause-stays _ = stays

pub returns-clause-apart : goal.returns-clause-apart
returns-clause-apart _ = apart

pub returns-clause-next : goal.returns-clause-next
returns-clause-next _ = next_apart
