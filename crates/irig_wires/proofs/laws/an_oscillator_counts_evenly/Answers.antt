use Rattle.irig_wires.proofs.OscillatorLaws.{a_second_later, at_edges, monotone, over_a_time, rate_near}
use Rattle.irig_wires.proofs.laws.an_oscillator_counts_evenly.Goals as goal

pub returns-clause-rate : goal.returns-clause-rate
returns-clause-rate _ = rate_near

pub returns-clause-forward : goal.returns-clause-forward
returns-clause-forward _ = monotone

pub returns-clause-second : goal.returns-clause-second
returns-clause-second _ = a_second_later

pub returns-clause-edges : goal.returns-clause-edges
returns-clause-edges _ = at_edges

pub returns-clause-span : goal.returns-clause-span
returns-clause-span _ = over_a_time
