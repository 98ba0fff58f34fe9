use Rattle.std.proofs.Common.{refl}
use Rattle.irig_station.specs.Stations.{all_let_go}
use Rattle.irig_station_scene.specs.StationScenes.{event_in_scene, standing_in}
use Rattle.irig_station_scene.proofs.EventLaws.{on_ok}
use Rattle.report_flat.proofs.RowLaws.{rows_say}
use Rattle.report_flat.proofs.rows.RowsStationListener.push_event.Goals as goal

pub returns-clause-said : goal.returns-clause-said
returns-clause-said g c =
    on_ok c.push_rows.result _ _ (λ pushed x e at happened.
    rows_say x e _ _ _ _ happened.named (c.heard.ensures x.plan.setup (standing_in (event_in_scene x e).scene) _ happened.stands refl) pushed) c.push_rows.ensures
