use Rattle.irig_station.specs.StationPlay.{standing_after}
use Rattle.irig_station.proofs.GrowthLaws.{grows, kept_at_start}
use Rattle.irig_station.proofs.laws.a_log_of_devices_grows.Goals as goal

pub returns-clause-grows : goal.returns-clause-grows
returns-clause-grows _ s e ev = grows s (standing_after s ev) e

pub returns-clause-start : goal.returns-clause-start
returns-clause-start _ s ev kept = kept_at_start s ev kept
