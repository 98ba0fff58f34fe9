use Rattle.std.proofs.Common.{drop}
use Rattle.scenario_values.specs.PlantValues.{generator_of}
use Rattle.scenario_json.proofs.ListLaws.{Found}
use Rattle.scenario_values.proofs.generator_values.all_generators.Given as goal

abbrev pub invariant-loop-value : goal.invariant-loop-value
invariant-loop-value l =
    Found generator_of l.generators.items (drop l.value-index l.values) l.values
