use Rattle.irig_scene.proofs.SteppedLaws.{ticks_of_second}
use Rattle.irig_scene.proofs.laws.a_second_has_a_tick_a_reader.Goals as goal

pub returns : goal.returns
returns _ = ticks_of_second
