use Rattle.std.proofs.Common.{drop}
use Rattle.scenario_values.specs.PlantValues.{reader_of}
use Rattle.scenario_json.proofs.ListLaws.{Found}
use Rattle.scenario_values.proofs.reader_values.all_readers.Given as goal

abbrev pub invariant-loop-value : goal.invariant-loop-value
invariant-loop-value l =
    Found reader_of l.readers.items (drop l.value-index l.values) l.values
