use Rattle.std.proofs.Common.{drop}
use Rattle.scenario_values.specs.PlantValues.{leap_of}
use Rattle.scenario_json.proofs.ListLaws.{Found}
use Rattle.scenario_values.proofs.leap_values.all_leaps.Given as goal

abbrev pub invariant-loop-value : goal.invariant-loop-value
invariant-loop-value l = Found leap_of l.leaps.items (drop l.value-index l.values) l.values
