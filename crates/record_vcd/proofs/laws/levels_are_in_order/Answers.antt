use Rattle.record_vcd.proofs.OrderLaws.{in-order}
use Rattle.record_vcd.proofs.laws.levels_are_in_order.Goals as goal

pub returns : goal.returns
returns _ = in-order
