use Rattle.scenario_devices.specs.StationLine.{is_station_line}
use Rattle.report_run.proofs.ChoiceLaws.{either_runs_alone}
use Rattle.irig_scene.specs.LogTexts.{log_texts}
use Rattle.irig_scene.specs.Run.{Ends}
use Rattle.irig_scene.specs.Scene.{scenario}
use Rattle.irig_scene.specs.Texts.{of_scenes}
use Rattle.irig_station_scene.specs.StationRuns.{StationEnds}
use Rattle.irig_station_scene.specs.StationScenes.{station_scenario}
use Rattle.irig_station_scene.specs.StationTexts.{station_texts}
use Rattle.irig_scenario.proofs.ScenarioLaws.{ran_scenario, runs_scenario_truly}
use Rattle.irig_scenario.proofs.run.run_scenario.Goals as goal

pub returns-then-is_some-clause-runs : goal.returns-then-is_some-clause-runs
returns-then-is_some-clause-runs g c =
    let shown = c.args.shown in
    let run = c.listen_to_scenario-answer.ensures in
    runs_scenario_truly _ _ shown _ _ _ _ _ run.read run.write
    (ran_scenario shown _ _ _ _ _
    (either_runs_alone is_station_line scenario station_scenario (of_scenes (log_texts shown)) (station_texts shown.all) Ends StationEnds _ _ _ _ _ _ _ _ _ _ run.heard.ran))

pub returns-else-is_some-clause-runs : goal.returns-else-is_some-clause-runs
returns-else-is_some-clause-runs g c =
    let shown = c.args.shown in
    let run = c.listen_to_scenario-answer.ensures in
    runs_scenario_truly _ _ shown _ _ _ _ _ run.read run.write
    (ran_scenario shown _ _ _ _ _
    (either_runs_alone is_station_line scenario station_scenario (of_scenes (log_texts shown)) (station_texts shown.all) Ends StationEnds _ _ _ _ _ _ _ _ _ _ run.heard.ran))
