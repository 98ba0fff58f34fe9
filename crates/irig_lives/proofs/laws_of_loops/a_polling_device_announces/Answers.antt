use Rattle.irig_timekeeper.proofs.LoopLaws.{polling_announces}
use Rattle.irig_lives.proofs.laws_of_loops.a_polling_device_announces.Goals as goal

pub returns : goal.returns
returns _ = polling_announces
