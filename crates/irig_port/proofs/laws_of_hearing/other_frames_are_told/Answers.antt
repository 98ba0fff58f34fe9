use Rattle.irig_port.proofs.FaultLaws.{before_told, behind_told}
use Rattle.irig_port.proofs.laws_of_hearing.other_frames_are_told.Goals as goal

pub returns-clause-before : goal.returns-clause-before
returns-clause-before _ = before_told

pub returns-clause-behind : goal.returns-clause-behind
returns-clause-behind _ = behind_told
