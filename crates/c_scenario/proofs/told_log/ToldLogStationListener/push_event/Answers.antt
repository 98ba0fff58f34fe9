use Rattle.irig_station_scene.proofs.EventLaws.{on_ok}
use Rattle.c_scenario.proofs.ToldLaws.{told_joins}
use Rattle.c_scenario.proofs.told_log.ToldLogStationListener.push_event.Goals as goal

pub returns-clause-stands : goal.returns-clause-stands
returns-clause-stands g c = on_ok c.push_told.result _ _ (λ pushed x e at happened. told_joins x e _ _ _ at happened.logged pushed) c.push_told.ensures
