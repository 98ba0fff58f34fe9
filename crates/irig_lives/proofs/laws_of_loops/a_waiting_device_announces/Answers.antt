use Rattle.irig_timekeeper.proofs.WaitLoops.{waiting_announces}
use Rattle.irig_lives.proofs.laws_of_loops.a_waiting_device_announces.Goals as goal

pub returns : goal.returns
returns _ = waiting_announces
