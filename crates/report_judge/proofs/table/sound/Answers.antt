use Rattle.std.proofs.Common.{◌∙◌, sym}
use Rattle.report_judge.proofs.TableLaws.{fault-fits, is-ready}
use Rattle.report_judge.proofs.table.sound.Goals as goal

pub returns-in-Some-clause-fault : goal.returns-in-Some-clause-fault
returns-in-Some-clause-fault c = fault-fits c.args.head.now c.in-Some.fault (sym c.fault.ensures ∙ c.in-Some.is)

pub returns-in-None-clause-ready : goal.returns-in-None-clause-ready
returns-in-None-clause-ready c = is-ready c.args.head.now (sym c.fault.ensures ∙ c.in-None.is)
