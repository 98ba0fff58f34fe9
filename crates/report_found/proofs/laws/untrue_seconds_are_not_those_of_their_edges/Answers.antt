use Rattle.report_found.proofs.TruthLaws.{next_second, untrue_is}
use Rattle.report_found.proofs.laws.untrue_seconds_are_not_those_of_their_edges.Goals as goal

pub returns-clause-second : goal.returns-clause-second
returns-clause-second _ = next_second

pub returns-clause-tick : goal.returns-clause-tick
returns-clause-tick _ = untrue_is
