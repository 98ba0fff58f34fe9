use Rattle.irig_frame.proofs.ReadingLaws.{decoded-reads, decoded-in_range}
use Rattle.irig_frame.proofs.decoder.decode.Goals as goal

pub returns-clause-reads : goal.returns-clause-reads
returns-clause-reads c x = rw c.coded_or_fault.ensures (decoded-reads c.args.frame.now x)

pub returns-clause-in_range : goal.returns-clause-in_range
returns-clause-in_range c = decoded-in_range c.args.frame.now c.coded_or_fault.result c.coded_or_fault.ensures
