use Rattle.irig_station.proofs.RangeLaws.{log_in_range}
use Rattle.irig_station.proofs.laws.entries_are_in_range.Goals as goal

pub returns : goal.returns
returns _ s ev is words = log_in_range s is words ev
