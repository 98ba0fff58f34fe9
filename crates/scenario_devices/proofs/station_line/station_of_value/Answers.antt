use Rattle.std.proofs.Common.{◌≡◌, length, sym, ap, ◌∙◌, arith, rules}
use Rattle.std.proofs.lemmas.List.{length-map}
use Rattle.serde_json.specs.View.{view}
use Rattle.scenario_devices.specs.StationValues.{devices_in}
use Rattle.scenario_devices.proofs.ValueLaws.{found_stations}
use Rattle.scenario_devices.proofs.station_line.station_of_value.Goals as goal

pub station_with-requires : goal.station_with-requires
station_with-requires c =
    let are = found_stations (view c.args.value.now) c.in_ok-values.values c.in_ok-values.ensures in
    let same : length c.in_ok-names.names.keys ≡ length (devices_in (view c.args.value.now)) =
    c.in_ok-names.ensures.count ∙ sym (length-map c.devices_in.result.now view) ∙ ap length c.devices_in.ensures in
    are.range (omega (arith, same, c.in_ok-names.ensures.least)) (omega (arith, same, c.in_ok-names.ensures.most))

pub returns-clause-names : goal.returns-clause-names
returns-clause-names c =
    let are = found_stations (view c.args.value.now) c.in_ok-values.values c.in_ok-values.ensures in
    let same : length c.in_ok-names.names.keys ≡ length c.in_ok-values.values.devices =
    c.in_ok-names.ensures.count ∙ sym (length-map c.devices_in.result.now view) ∙ ap length c.devices_in.ensures ∙ sym are.count in
    search rules
