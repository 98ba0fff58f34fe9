use Rattle.std.proofs.Common.{arith}
use Rattle.std.proofs.lemmas.Grind.{common_steps}
use Rattle.scenario_values.specs.PlantValues.{rules_of}
use Rattle.scenario_values.proofs.plant_values.rules_of.Goals as goal

pub returns-in_err-parity : goal.returns-in_err-parity
unfolding rules_of
returns-in_err-parity c = grind (arith, common_steps)

pub returns-in_err-sense : goal.returns-in_err-sense
unfolding rules_of
returns-in_err-sense c = grind (arith, common_steps)

pub returns-in_err-sbs : goal.returns-in_err-sbs
unfolding rules_of
returns-in_err-sbs c = grind (arith, common_steps)

pub returns-in_err-parity_of : goal.returns-in_err-parity_of
unfolding rules_of
returns-in_err-parity_of c = grind (arith, common_steps)

pub returns-in_err-sense_of : goal.returns-in_err-sense_of
unfolding rules_of
returns-in_err-sense_of c = grind (arith, common_steps)

pub returns-in_err-sbs_use_of : goal.returns-in_err-sbs_use_of
unfolding rules_of
returns-in_err-sbs_use_of c = grind (arith, common_steps)

pub returns : goal.returns
unfolding rules_of
returns c = grind (arith, common_steps)
