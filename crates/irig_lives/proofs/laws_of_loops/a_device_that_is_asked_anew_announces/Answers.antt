use Rattle.irig_timekeeper.proofs.WaitLoops.{asked_announces}
use Rattle.irig_lives.proofs.laws_of_loops.a_device_that_is_asked_anew_announces.Goals as goal

pub returns : goal.returns
returns _ = asked_announces
