use Rattle.std.proofs.Common.{drop}
use Rattle.scenario_json.specs.Fields.{natural_in}
use Rattle.scenario_json.proofs.ListLaws.{Found}
use Rattle.scenario_values.proofs.line.all_naturals.Given as goal

abbrev pub invariant-loop-value : goal.invariant-loop-value
invariant-loop-value l = Found (natural_in l.most) l.numbers.items (drop l.value-index l.values) l.values
