use Rattle.irig_station_scene.proofs.EventLaws.{log_says, on_ok}
use Rattle.irig_station_scene.proofs.log.StationLogStationListener.push_event.Goals as goal

pub returns-clause-said : goal.returns-clause-said
returns-clause-said g c =
    on_ok c.push_station_entries.result _ _ (λ pushed x e at happened. log_says c.args.shown.all x e _ _ _ _ happened.named happened.logged pushed) c.push_station_entries.ensures
