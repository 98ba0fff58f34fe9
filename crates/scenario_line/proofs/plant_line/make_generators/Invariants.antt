use Rattle.std.proofs.Common.{drop}
use Rattle.scenario_line.specs.PlantLine.{generator_refusal, generator_with}
use Rattle.scenario_line.proofs.BuildLaws.{BuildsAt}
use Rattle.scenario_line.proofs.plant_line.make_generators.Given as goal

abbrev pub invariant-loop-value : goal.invariant-loop-value
invariant-loop-value l = BuildsAt generator_refusal (generator_with l.rules) l.generators.items (drop l.value-index l.values) l.values
