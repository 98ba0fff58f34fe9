use Rattle.irig_station_scene.proofs.EventLaws.{listener_stands}
use Rattle.irig_station_scene.proofs.run.end_player.Goals as goal

pub returns-in-Some : goal.returns-in-Some
returns-in-Some g c = λ asked at stands. listener_stands g.L.StationListener.hears (g.L.StationListener.stands_for asked) _ _ _ at c.in-Some.is c.into_parts-listener.ensures stands
