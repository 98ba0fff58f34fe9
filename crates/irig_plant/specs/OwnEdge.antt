-- What an entry owes to what the ports of its reader tell at its own tick, whatever came before.
-- Source: docs/HEADLINE.md; this project's profile.
use Rattle.std.specs.Prelude.{◌≡◌, ℕ, ◌+◌, List, ◌∷◌, ◌++◌, length}
use Rattle.irig_time.specs.declared.claim.Claim.{Claim}
use Rattle.irig_time.specs.Timelines.{IsTrueClaim}
use Rattle.irig_vote.specs.Vote.{redundancy_of}
use Rattle.irig_reader.specs.declared.report.Cause.TheVariants.{Voted}
use Rattle.irig_reader.specs.Clean.{IsClean}
use Rattle.irig_reader.specs.History.{told_at_tick}
use Rattle.irig_plant.specs.declared.event.Event.{Event}
use Rattle.irig_plant.specs.declared.event.Event.TheVariants.{Tick}
use Rattle.irig_plant.specs.declared.entry.Entry.{Entry}
use Rattle.irig_plant.specs.Schedule.{Setup, ticks_of, history_of}
use Rattle.irig_vote.specs.Counts.{AtLeast}
use Rattle.irig_plant.specs.Ports.{f_in, HasHeard}
use Rattle.irig_plant.specs.Truth.{IsTruthful}

-- ---- clean ticks

-- a tick of r that comes now is clean: no f + 1 ports tell one and the same claim other than the
-- true one
abbrev pub IsCleanNow : Setup → ℕ → List Event → Type 0
IsCleanNow s r ev =
    IsClean s.times (ticks_of r ev) (told_at_tick (history_of s r ev))
    (redundancy_of (length s.generators))

-- r's n-th tick is clean, if it has come
pub record IsCleanAt (s : Setup) (r n : ℕ) (ev : List Event) : Type 0 where
  pub ticks : (later earlier : List Event) → ev ≡ later ++ (Tick r ∷ earlier)
      → ticks_of r earlier + 1 ≡ n → IsCleanNow s r earlier

-- if its tick is clean, what an entry announces by a vote is T of its edge
pub record IsTrueByItsEdge (s : Setup) (ev : List Event) (e : Entry) : Type 0 where
  pub voted : IsCleanAt s e.reader e.edge ev → e.report.cause ≡ Voted → IsTruthful s.times e

-- ---- false majorities

-- at r's n-th tick f + 1 of its ports heard what carries one and the same claim, and it is not true
-- there
pub record HasFalseMajority (s : Setup) (r n : ℕ) (ev : List Event) : Type 0 where
  pub later : List Event
  pub earlier : List Event
  pub tick : ev ≡ later ++ (Tick r ∷ earlier)
  pub edge : n ≡ ticks_of r earlier + 1
  pub claim : Claim
  pub ports : AtLeast (f_in s + 1) (λ p. HasHeard s r p earlier claim)
  pub untrue : ¬ IsTrueClaim s.times n claim

-- what an entry announces by a vote is T of its edge, or has its false majority there
pub record HasItsMajority (s : Setup) (ev : List Event) (e : Entry) : Type 0 where
  pub false_vote : e.report.cause ≡ Voted → ¬ IsTruthful s.times e
      → HasFalseMajority s e.reader e.edge ev
