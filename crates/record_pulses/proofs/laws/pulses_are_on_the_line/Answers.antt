use Rattle.record_pulses.proofs.PulseLaws.{on_the_line}
use Rattle.record_pulses.proofs.laws.pulses_are_on_the_line.Goals as goal

pub returns : goal.returns
returns _ = on_the_line
