use Rattle.report_lanes.proofs.LongestLaws.{stood_is_longest, told_is_longest}
use Rattle.report_lanes.proofs.laws.lanes_are_longest_runs.Goals as goal

pub returns-clause-stood : goal.returns-clause-stood
returns-clause-stood _ = stood_is_longest

pub returns-clause-told : goal.returns-clause-told
returns-clause-told _ = told_is_longest
