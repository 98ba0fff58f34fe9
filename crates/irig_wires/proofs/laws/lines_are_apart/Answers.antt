use Rattle.irig_wires.proofs.OrderLaws.{each_alone, other_wire, own_wire}
use Rattle.irig_wires.proofs.laws.lines_are_apart.Goals as goal

pub returns-clause-own : goal.returns-clause-own
returns-clause-own _ = own_wire

pub returns-clause-others : goal.returns-clause-others
returns-clause-others _ = other_wire

pub returns-clause-each : goal.returns-clause-each
returns-clause-each _ = each_alone
