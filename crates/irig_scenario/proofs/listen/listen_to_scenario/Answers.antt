use Rattle.std.proofs.Common.{◌∙◌}
use Rattle.report_run.proofs.RunLaws.{ran_to}
use Rattle.report_run.specs.Choice.{StandsForEither, either_entries}
use Rattle.irig_scene.specs.ListenerRuns.{IsPlayerAt}
use Rattle.irig_scene.specs.Scene.{entries_in}
use Rattle.irig_station_scene.specs.StationRuns.{IsStationPlayerAt}
use Rattle.irig_station_scene.specs.StationScenes.{station_entries}
use Rattle.irig_scenario.specs.AnyScenario.{AnyEnds, any_scenario, any_texts}
use Rattle.irig_scenario.proofs.ListenLaws.{explained}
use Rattle.irig_scenario.proofs.listen.listen_to_scenario.Goals as goal

pub returns-clause-heard : goal.returns-clause-heard
returns-clause-heard g c = record {
  notes = _;
  ran = ran_to any_scenario AnyEnds (either_entries entries_in station_entries)
      (StandsForEither (IsPlayerAt (g.L.Listener.stands_for c.args.asked)) (IsStationPlayerAt g.M.StationListener.hears (g.M.StationListener.stands_for c.args.asked)))
      (StandsForEither (g.L.Listener.stands_for c.args.asked) (g.M.StationListener.stands_for c.args.asked)) _ _ (c.end_player-listener.ensures.listener c.args.asked) _
      (any_texts (g.L.Listener.texts c.args.asked) (g.M.StationListener.texts c.args.asked)) _ _ _ _ _ _ c.run_lines-answer.ensures.ran;
}

pub returns-clause-refused : goal.returns-clause-refused
returns-clause-refused g c = explained _ _ (c.end_player-listener.ensures.refused ∙ c.refusal_of.ensures)
