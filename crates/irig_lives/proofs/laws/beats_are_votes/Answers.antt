use Rattle.irig_timekeeper.proofs.LockLaws.{beat_is_vote, beats_lock}
use Rattle.irig_lives.proofs.laws.beats_are_votes.Goals as goal

pub returns-clause-step : goal.returns-clause-step
returns-clause-step _ rules table missed state votes vote e = beat_is_vote rules table missed state votes vote e

pub returns-clause-lock : goal.returns-clause-lock
returns-clause-lock _ t n k vote before earlier u sound follows some silent there stands are = beats_lock t n k vote before earlier u sound follows some silent there stands are
