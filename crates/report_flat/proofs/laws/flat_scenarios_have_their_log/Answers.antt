use Rattle.report_flat.proofs.TextLaws.{same_output}
use Rattle.report_flat.proofs.laws.flat_scenarios_have_their_log.Goals as goal

pub returns : goal.returns
returns _ = same_output
