use Rattle.scenario_devices.specs.StationLine.{is_station_line}
use Rattle.report_run.proofs.ChoiceLaws.{either_runs_alone}
use Rattle.irig_scene.specs.Run.{Ends}
use Rattle.irig_scene.specs.Scene.{scenario}
use Rattle.irig_scene.specs.Texts.{of_scenes}
use Rattle.irig_station_scene.specs.StationRuns.{StationEnds}
use Rattle.irig_station_scene.specs.StationScenes.{station_scenario}
use Rattle.report_flat.specs.FlatText.{flat_texts}
use Rattle.report_flat.specs.RowText.{row_texts}
use Rattle.report_flat.proofs.RunLaws.{ran_either, wrote_the_log}
use Rattle.report_flat.proofs.run.flatten.Goals as goal

pub returns-then-is_some-clause-ran : goal.returns-then-is_some-clause-ran
returns-then-is_some-clause-ran g c = ran_either _ _ _ _ _ (either_runs_alone is_station_line scenario station_scenario (of_scenes flat_texts) row_texts Ends StationEnds _ _ _ _ _ _ _ _ _ _ c.listen_to_scenario-answer.ensures.heard.ran)

pub returns-then-is_some-clause-same_log : goal.returns-then-is_some-clause-same_log
returns-then-is_some-clause-same_log g c =
    wrote_the_log _ _ _ _ _
    (ran_either _ _ _ _ _ (either_runs_alone is_station_line scenario station_scenario (of_scenes flat_texts) row_texts Ends StationEnds _ _ _ _ _ _ _ _ _ _ c.listen_to_scenario-answer.ensures.heard.ran))

pub returns-else-is_some-clause-ran : goal.returns-else-is_some-clause-ran
returns-else-is_some-clause-ran g c = ran_either _ _ _ _ _ (either_runs_alone is_station_line scenario station_scenario (of_scenes flat_texts) row_texts Ends StationEnds _ _ _ _ _ _ _ _ _ _ c.listen_to_scenario-answer.ensures.heard.ran)

pub returns-else-is_some-clause-same_log : goal.returns-else-is_some-clause-same_log
returns-else-is_some-clause-same_log g c =
    wrote_the_log _ _ _ _ _
    (ran_either _ _ _ _ _ (either_runs_alone is_station_line scenario station_scenario (of_scenes flat_texts) row_texts Ends StationEnds _ _ _ _ _ _ _ _ _ _ c.listen_to_scenario-answer.ensures.heard.ran))
