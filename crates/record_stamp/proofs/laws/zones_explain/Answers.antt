use Rattle.record_stamp.proofs.ZoneLaws.{explains}
use Rattle.record_stamp.proofs.laws.zones_explain.Goals as goal

pub returns : goal.returns
returns _ = explains
