use Rattle.irig_control.proofs.ControlLaws.{control_same}
use Rattle.irig_control.proofs.ParityKeeps.{reads_kept, spare_kept, one_with_parity}
use Rattle.irig_control.proofs.laws.parity_keeps.Goals as goal

pub returns-clause-reads : goal.returns-clause-reads
returns-clause-reads c = reads_kept

pub returns-clause-spare : goal.returns-clause-spare
returns-clause-spare c = spare_kept

pub returns-clause-control : goal.returns-clause-control
returns-clause-control c = control_same

pub returns-clause-one : goal.returns-clause-one
returns-clause-one c =
    λ p s t c d a b same. one_with_parity p s t c d a.reads b.reads a.unused b.unused same a.spare b.spare a.parity b.parity
