use Rattle.std.proofs.Common.{refl}
use Rattle.irig_station.specs.Stations.{all_let_go}
use Rattle.irig_station_scene.specs.StationScenes.{event_in_scene, standing_in}
use Rattle.irig_station_scene.proofs.EventLaws.{added_alone}
use Rattle.irig_station_scene.proofs.player.StationPlayer.hear.Goals as goal

pub returns-in-Ok-clause-said : goal.returns-in-Ok-clause-said
returns-in-Ok-clause-said g c x e listens past =
    let gone = all_let_go g.L.StationListener.hears (standing_in x) in
    let there = (event_in_scene x e).scene in
    let logged = c.log-entries.ensures.value x.plan.setup (standing_in there) gone past.station in
    added_alone (g.L.StationListener.texts c.args.asked) x there _ _ c.new-text.ensures.bytes
    (c.in-Ok.ensures.said x e listens (record { stands = past.station; logged = logged; named = past.named }))

pub returns-in-Ok-clause-stands : goal.returns-in-Ok-clause-stands
returns-in-Ok-clause-stands g c x e listens past =
    let gone = all_let_go g.L.StationListener.hears (standing_in x) in
    let there = (event_in_scene x e).scene in
    let logged = c.log-entries.ensures.value x.plan.setup (standing_in there) gone past.station in
    record {
      shown = gone;
      stands = record { station = past.station; named = past.named };
      keeps = refl;
      listener = c.in-Ok.ensures.stands x e listens (record { stands = past.station; logged = logged; named = past.named });
    }
