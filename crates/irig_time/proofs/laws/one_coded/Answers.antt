use Rattle.irig_time.proofs.CodedLaws.{one_coded}
use Rattle.irig_time.proofs.laws.one_coded.Goals as goal

pub returns : goal.returns
returns c = one_coded
