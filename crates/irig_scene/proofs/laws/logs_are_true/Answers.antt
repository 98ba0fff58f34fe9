use Rattle.report_log.specs.Text.{entries_alone}
use Rattle.irig_scene.proofs.TrueLines.{tells_truth, vouches_for_itself}
use Rattle.irig_scene.proofs.PlantLines.{vouches_by_plant_line}
use Rattle.irig_scene.proofs.BrokenLogs.{vouches_until_broken}
use Rattle.irig_scene.proofs.VouchedByPorts.{vouches_by_ports}
use Rattle.irig_scene.proofs.laws.logs_are_true.Goals as goal

pub returns-clause-truth : goal.returns-clause-truth
returns-clause-truth _ = λ x all w rest is. tells_truth (entries_alone all) x w rest is

pub returns-clause-vouches : goal.returns-clause-vouches
returns-clause-vouches _ = λ x all w rest is. vouches_for_itself (entries_alone all) x w rest is

pub returns-clause-plant_line : goal.returns-clause-plant_line
returns-clause-plant_line _ = λ x all w rest is. vouches_by_plant_line (entries_alone all) x w rest is

pub returns-clause-broken : goal.returns-clause-broken
returns-clause-broken _ = λ x all w rest is. vouches_until_broken (entries_alone all) x w rest is

pub returns-clause-ports : goal.returns-clause-ports
returns-clause-ports _ = vouches_by_ports
