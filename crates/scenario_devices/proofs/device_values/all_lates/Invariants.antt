use Rattle.std.proofs.Common.{drop}
use Rattle.scenario_json.specs.Fields.{natural_in}
use Rattle.scenario_json.proofs.ListLaws.{Found}
use Rattle.scenario_devices.specs.StationShape.{most_late}
use Rattle.scenario_devices.proofs.device_values.all_lates.Given as goal

abbrev pub invariant-loop-value : goal.invariant-loop-value
invariant-loop-value l = Found (natural_in most_late) l.lates.items (drop l.value-index l.values) l.values
