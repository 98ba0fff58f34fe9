use Rattle.irig_wires.proofs.OscillatorLaws.{first_time}
use Rattle.irig_wires.proofs.laws.a_count_has_its_first_time.Goals as goal

pub returns : goal.returns
returns _ = first_time
