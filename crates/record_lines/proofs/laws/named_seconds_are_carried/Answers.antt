use Rattle.record_lines.proofs.CarriedLaws.{receiver_carries}
use Rattle.record_lines.proofs.laws.named_seconds_are_carried.Goals as goal

pub returns : goal.returns
returns g c made start now calls vote is voted = receiver_carries c.args.receiver.now made start now calls vote is voted
