use Rattle.irig_frame.proofs.EncodingLaws.{written_reads, written_spare}
use Rattle.irig_frame.proofs.laws.written_reads.Goals as goal

pub returns-clause-reads : goal.returns-clause-reads
returns-clause-reads c = written_reads

pub returns-clause-spare : goal.returns-clause-spare
returns-clause-spare c = written_spare
