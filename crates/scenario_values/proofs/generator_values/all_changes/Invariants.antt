use Rattle.std.proofs.Common.{drop}
use Rattle.scenario_values.specs.PlantValues.{change_of}
use Rattle.scenario_json.proofs.ListLaws.{Found}
use Rattle.scenario_values.proofs.generator_values.all_changes.Given as goal

abbrev pub invariant-loop-value : goal.invariant-loop-value
invariant-loop-value l = Found change_of l.changes.items (drop l.value-index l.values) l.values
