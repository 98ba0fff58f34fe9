use Rattle.std.proofs.Common.{drop}
use Rattle.scenario_json.proofs.ListLaws.{Found}
use Rattle.scenario_devices.specs.StationValues.{device_values}
use Rattle.scenario_devices.proofs.device_values.all_devices.Given as goal

abbrev pub invariant-loop-value : goal.invariant-loop-value
invariant-loop-value l = Found (device_values l.generators) l.devices.items (drop l.value-index l.values) l.values
