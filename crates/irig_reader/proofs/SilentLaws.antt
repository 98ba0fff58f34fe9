-- A tick at which no port heard anything.
use Rattle.std.proofs.Common.{◌≡◌, None, refl, ◌∙◌, ap}
use Rattle.irig_vote.specs.declared.redundancy.Redundancy.{Redundancy}
use Rattle.irig_vote.specs.declared.redundancy.Redundancy.TheVariants.{One, Three, Five}
use Rattle.irig_vote.specs.declared.votes.Tells.{Tells}
use Rattle.irig_vote.specs.Vote.{vote_of}
use Rattle.irig_port.specs.declared.told.Told.TheVariants as tells
use Rattle.irig_port.proofs.LimitLaws.{none_within}
use Rattle.irig_reader.specs.History.{ReaderHistory, no_pulses, told_at_tick, vote_at_tick}

abbrev pub silent : Tells
silent = record { a = tells.Silence; b = tells.Silence; c = tells.Silence; d = tells.Silence; e = tells.Silence }

-- every port tells silence
pub told_silent : (h : ReaderHistory) → h.fed ≡ no_pulses → told_at_tick h ≡ silent
told_silent h e = rw (e, none_within h.limits h.rules) refl

-- and nothing is voted
pub no_vote : (r : Redundancy) → vote_of silent r ≡ None
unfolding vote_of
no_vote One = refl
no_vote Three = refl
no_vote Five = refl

pub silent_vote : (h : ReaderHistory) → h.fed ≡ no_pulses → vote_at_tick h ≡ None
silent_vote h e = ap (λ (t : Tells). vote_of t h.redundancy) (told_silent h e) ∙ no_vote h.redundancy
