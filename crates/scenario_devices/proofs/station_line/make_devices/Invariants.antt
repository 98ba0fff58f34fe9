use Rattle.std.proofs.Common.{drop, map}
use Rattle.scenario_line.proofs.BuildLaws.{BuildsAt}
use Rattle.scenario_devices.specs.StationLine.{device_refusal, device_with}
use Rattle.scenario_devices.proofs.station_line.make_devices.Given as goal

abbrev pub invariant-loop-value : goal.invariant-loop-value
invariant-loop-value l = BuildsAt device_refusal device_with l.devices.items (drop l.value-index l.values) l.values
