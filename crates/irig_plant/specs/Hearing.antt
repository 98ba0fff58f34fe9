-- What a reader's ports heard, tick by tick.
-- Source: docs/READER.md and docs/SCENARIOS.md.
use Rattle.std.specs.Prelude.{◌≡◌, ℕ, ◌==◌, if◌then◌else◌, List, [], ◌∷◌, length, Option, Some, None}
use Rattle.irig_vote.specs.Vote.{redundancy_of}
use Rattle.irig_reader.specs.History.{Fed}
use Rattle.irig_plant.specs.declared.event.Event.{Event}
use Rattle.irig_plant.specs.declared.event.Event.TheVariants.{Tick, Restart}
use Rattle.irig_plant.specs.Schedule.{Setup, setup_at, fed_at}

-- what the ports of reader r had heard at each of its ticks, and nothing for each of its restarts;
-- the newest first
abbrev pub hearing_of : Setup → ℕ → List Event → List (Option Fed)
hearing_of s r [] = []
hearing_of s r (Tick x ∷ ev) =
    if x == r then Some (fed_at s r ev) ∷ hearing_of s r ev else hearing_of s r ev
hearing_of s r (Restart x ∷ ev) = if x == r then None ∷ hearing_of s r ev else hearing_of s r ev
hearing_of s r (_ ∷ ev) = hearing_of s r ev

-- two readers, of one plant or of two with other timelines and generators, are made alike, and have
-- heard the same and were restarted alike until now
pub record HearAlike (s : Setup) (r : ℕ) (ev : List Event) (t : Setup) (q : ℕ)
    (other : List Event) : Type 0 where
  pub rules : s.rules ≡ t.rules
  pub ports : redundancy_of (length s.generators) ≡ redundancy_of (length t.generators)
  pub made : setup_at s.readers r ≡ setup_at t.readers q
  pub before : hearing_of s r ev ≡ hearing_of t q other
  pub now : fed_at s r ev ≡ fed_at t q other
