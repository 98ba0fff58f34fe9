use Rattle.std.proofs.Common.{◌≡◌, rules}
use Rattle.irig_station_scene.specs.StationScenes.{station_audit}
use Rattle.c_scenario.specs.Entries.{verdict_on_devices}
use Rattle.c_scenario.proofs.ToldLaws.{true_if_told_kept}
use Rattle.c_scenario.proofs.irig_scene_c_run_told.Goals as goal

pub returns-clause-truth : goal.returns-clause-truth
returns-clause-truth c = λ done one at is.
    let same : c.verdict_on_station.result ≡ verdict_on_devices (station_audit at) = search rules in
    true_if_told_kept c.args.text.now c.verdict_on_station.result at is same one
