use Rattle.record_list.proofs.OrderLaws.{in-order}
use Rattle.record_list.proofs.laws.levels_are_in_order.Goals as goal

pub returns : goal.returns
returns _ = in-order
