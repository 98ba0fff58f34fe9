use Rattle.std.proofs.Common.{rules, ◌≡◌, ◌∙◌, [], ap, length, refl, sym, subst}
use Rattle.std.specs.Prelude.{string_bytes}
use Rattle.std.proofs.lemmas.List.{length-map}
use Rattle.irig_station.specs.StationSetups.{station_setup}
use Rattle.irig_station.specs.StationStandings.{station_at_start}
use Rattle.irig_station.specs.Stations.{IsStationAt, all_let_go}
use Rattle.scenario_devices.specs.StationLine.{station_of}
use Rattle.irig_station_scene.specs.StationScenes.{station_scene}
use Rattle.irig_station_scene.proofs.player.StationPlayer.new.Goals as goal

pub returns-in-Ok-new-clause-stands : goal.returns-in-Ok-new-clause-stands
returns-in-Ok-new-clause-stands g c =
    let line = c.args.line in
    let counted : length line.names.keys ≡ length line.devices.items = c.requires.names ∙ sym c.deref.ensures.len ∙ ap length c.deref.ensures.value in
    record {
      shown = all_let_go c.hears.result (station_at_start (station_of line).setup);
      stands = record {
        station = subst (λ devices. IsStationAt c.in-Ok-new.station (station_setup line.timeline line.generators.items line.rules devices) (station_at_start (station_setup line.timeline line.generators.items line.rules devices)) (all_let_go c.hears.result (station_at_start (station_setup line.timeline line.generators.items line.rules devices))))
            c.deref.ensures.value c.in-Ok-new.ensures.stands;
        named = refl;
      };
      keeps = c.hears.ensures;
      listener = c.in-Ok.ensures.stands (station_scene (station_of line) []) (record { begun = refl; named = refl; count = length-map line.names.keys string_bytes ∙ counted; lined = search rules });
    }
