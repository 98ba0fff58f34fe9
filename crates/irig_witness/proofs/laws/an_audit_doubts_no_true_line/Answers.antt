use Rattle.irig_witness.specs.Witness.{lines_by}
use Rattle.irig_witness.proofs.ExactLaws.{finds_element, near_clock, not_doubted}
use Rattle.irig_witness.proofs.laws.an_audit_doubts_no_true_line.Goals as goal

pub returns : goal.returns
returns _ d first rate within symbol redundancy start line now k calls keeps small order are =
    not_doubted within d (lines_by symbol first rate) (near_clock d first rate within keeps small) (finds_element d first rate within keeps small) start redundancy line now k calls order are
