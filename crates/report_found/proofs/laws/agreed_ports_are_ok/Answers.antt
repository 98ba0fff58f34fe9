use Rattle.report_found.proofs.KindLaws.{agreed_is_ok}
use Rattle.report_found.proofs.laws.agreed_ports_are_ok.Goals as goal

pub returns : goal.returns
returns _ = agreed_is_ok
