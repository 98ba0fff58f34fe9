use Rattle.irig_lives.proofs.DecidedLaws.{order_decided, lately_decided, lines_decided, ticks_decided, over_decided}
use Rattle.irig_lives.proofs.laws_of_calls.conditions_compute.Goals as goal

pub returns-clause-order : goal.returns-clause-order
returns-clause-order _ = order_decided

pub returns-clause-line : goal.returns-clause-line
returns-clause-line _ = lately_decided

pub returns-clause-lines : goal.returns-clause-lines
returns-clause-lines _ within line edges next f now calls = lines_decided _ _ f (λ at pulses. lately_decided within line edges at next pulses) now calls

pub returns-clause-ticks : goal.returns-clause-ticks
returns-clause-ticks _ within line edges next f calls = ticks_decided _ _ f (λ at pulses. lately_decided within line edges at next pulses) calls

pub returns-clause-over : goal.returns-clause-over
returns-clause-over _ within line edges next f calls before = over_decided _ _ f (λ at pulses. lately_decided within line edges at next pulses) calls before
