use Rattle.irig_frame.proofs.ReadingLaws.{decoded-reads, none_of, values_again}
use Rattle.irig_frame.proofs.laws.round_trip.Goals as goal

pub returns-clause-reads : goal.returns-clause-reads
returns-clause-reads c = decoded-reads

pub returns-clause-elements : goal.returns-clause-elements
returns-clause-elements c = none_of

pub returns-clause-values : goal.returns-clause-values
returns-clause-values c = values_again
