use Rattle.report_run.proofs.RunLaws.{ran_to}
use Rattle.irig_station_scene.specs.StationRuns.{IsStationPlayerAt, StationEnds}
use Rattle.irig_station_scene.specs.StationScenes.{station_entries, station_scenario}
use Rattle.irig_station_scene.proofs.run.listen_to_station.Goals as goal

pub returns : goal.returns
returns g c = record {
  notes = _;
  ran = ran_to station_scenario StationEnds station_entries (IsStationPlayerAt g.L.StationListener.hears (g.L.StationListener.stands_for c.args.asked)) (g.L.StationListener.stands_for c.args.asked) _ _ (c.end_player-listener.ensures c.args.asked) _
      (g.L.StationListener.texts c.args.asked) _ _ _ _ _ _ c.run_lines-answer.ensures.ran;
}
