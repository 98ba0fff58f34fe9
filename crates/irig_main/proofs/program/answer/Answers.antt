use Rattle.std.proofs.Common.{arith}
use Rattle.std.proofs.lemmas.Grind.{common_steps}
use Rattle.irig_main.proofs.program.answer.Goals as goal

pub returns-in-Err-Help-clause-write : goal.returns-in-Err-Help-clause-write
returns-in-Err-Help-clause-write g c = grind (arith, common_steps)

pub returns-in-Err-Help-clause-read : goal.returns-in-Err-Help-clause-read
returns-in-Err-Help-clause-read g c = grind (arith, common_steps)

pub returns-in-Err-Fault-clause-write : goal.returns-in-Err-Fault-clause-write
returns-in-Err-Fault-clause-write g c = grind (arith, common_steps)

pub returns-in-Err-Fault-clause-read : goal.returns-in-Err-Fault-clause-read
returns-in-Err-Fault-clause-read g c = grind (arith, common_steps)

pub returns-in-Err-Memory-clause-write : goal.returns-in-Err-Memory-clause-write
returns-in-Err-Memory-clause-write g c = grind (arith, common_steps)

pub returns-in-Err-Memory-clause-read : goal.returns-in-Err-Memory-clause-read
returns-in-Err-Memory-clause-read g c = grind (arith, common_steps)
