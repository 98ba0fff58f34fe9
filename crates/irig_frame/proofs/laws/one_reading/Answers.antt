use Rattle.irig_frame.proofs.ReadingLaws.{one_reading}
use Rattle.irig_frame.proofs.laws.one_reading.Goals as goal

pub returns : goal.returns
returns c = one_reading
