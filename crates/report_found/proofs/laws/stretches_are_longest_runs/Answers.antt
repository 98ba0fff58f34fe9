use Rattle.report_found.proofs.LongestLaws.{open_is_longest, none_is_agreed}
use Rattle.report_found.proofs.laws.stretches_are_longest_runs.Goals as goal

pub returns-clause-longest : goal.returns-clause-longest
returns-clause-longest _ = open_is_longest

pub returns-clause-agreed : goal.returns-clause-agreed
returns-clause-agreed _ = none_is_agreed
