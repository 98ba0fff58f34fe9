use Rattle.irig_port.proofs.FaultLaws.{losses}
use Rattle.irig_port.proofs.laws_of_hearing.lost_pulses_are_never_untrue.Goals as goal

pub returns : goal.returns
returns _ = losses
