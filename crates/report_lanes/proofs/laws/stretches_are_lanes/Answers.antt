use Rattle.report_lanes.proofs.StretchLaws.{stretch_is_lane, stretch_has_lane}
use Rattle.report_lanes.proofs.laws.stretches_are_lanes.Goals as goal

pub returns-clause-same : goal.returns-clause-same
returns-clause-same _ = stretch_is_lane

pub returns-clause-some : goal.returns-clause-some
returns-clause-some _ = stretch_has_lane
