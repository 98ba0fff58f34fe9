use Rattle.std.proofs.Common.{drop}
use Rattle.scenario_line.specs.PlantLine.{reader_refusal, reader_with}
use Rattle.scenario_line.proofs.BuildLaws.{BuildsAt}
use Rattle.scenario_line.proofs.plant_line.make_readers.Given as goal

abbrev pub invariant-loop-value : goal.invariant-loop-value
invariant-loop-value l = BuildsAt reader_refusal reader_with l.readers.items (drop l.value-index l.values) l.values
