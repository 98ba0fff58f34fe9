use Rattle.irig_station_scene.proofs.EventLaws.{nothing_said}
use Rattle.irig_station_scene.proofs.log.StationLogStationListener.new.Goals as goal

pub returns-clause-quiet : goal.returns-clause-quiet
returns-clause-quiet c = nothing_said c.args._shown.all
