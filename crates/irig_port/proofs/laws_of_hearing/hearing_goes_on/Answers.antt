use Rattle.irig_port.proofs.RunLaws.{first_hears, emptied_hears, idle_hears}
use Rattle.irig_port.proofs.laws_of_hearing.hearing_goes_on.Goals as goal

pub returns-clause-first : goal.returns-clause-first
returns-clause-first _ = first_hears

pub returns-clause-emptied : goal.returns-clause-emptied
returns-clause-emptied _ = emptied_hears

pub returns-clause-idle : goal.returns-clause-idle
returns-clause-idle _ = idle_hears
