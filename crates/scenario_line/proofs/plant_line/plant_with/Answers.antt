use Rattle.std.proofs.Common.{arith}
use Rattle.scenario_line.proofs.BuildLaws.{values_refused, are_generators, are_readers}
use Rattle.scenario_line.proofs.plant_line.plant_with.Goals as goal

pub returns-in_err-timeline-clause-made : goal.returns-in_err-timeline-clause-made
returns-in_err-timeline-clause-made c = grind (arith, values_refused)

pub returns-in_err-generators-clause-made : goal.returns-in_err-generators-clause-made
returns-in_err-generators-clause-made c = grind (arith, values_refused)

pub returns-in_err-readers-clause-made : goal.returns-in_err-readers-clause-made
returns-in_err-readers-clause-made c = grind (arith, values_refused)

pub returns-clause-made : goal.returns-clause-made
returns-clause-made c = grind (arith, values_refused)

pub returns-clause-generators : goal.returns-clause-generators
returns-clause-generators c = grind (arith, are_generators)

pub returns-clause-readers : goal.returns-clause-readers
returns-clause-readers c = grind (arith, are_readers)
