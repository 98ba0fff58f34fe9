-- A reader's ticks, by what its ports told at each.
-- Source: docs/HEADLINE.md; this project's profile.
use Rattle.std.specs.Prelude.{◌≡◌, ◌⊎◌, ℕ, ◌+◌, ◌≤◌, true, List, [], ◌∷◌, map, length, Option, is_some, ⊤}
use Rattle.irig_time.specs.declared.claim.Claim.{Claim}
use Rattle.irig_time.specs.Tables.{TableValue}
use Rattle.irig_time.specs.Timelines.{TimelineValue}
use Rattle.irig_vote.specs.declared.redundancy.Redundancy.{Redundancy}
use Rattle.irig_vote.specs.declared.votes.Tells.{Tells}
use Rattle.irig_vote.specs.Vote.{vote_of}
use Rattle.irig_hold.specs.Truth.{IsTrueTable}
use Rattle.irig_reader.specs.declared.rules.ReaderRules.{ReaderRules}
use Rattle.irig_reader.specs.Clean.{IsClean}

-- the votes of these ticks, the newest first
abbrev pub votes_over : Redundancy → List Tells → List (Option Claim)
votes_over redundancy ticks = map (λ told. vote_of told redundancy) ticks

-- each of these ticks was clean: the oldest one for T(n), each later one for the second after
abbrev pub AreClean : TimelineValue → ℕ → Redundancy → List Tells → Type 0
AreClean t n redundancy [] = ⊤
AreClean t n redundancy (told ∷ before) =
    IsClean t (n + length before) told redundancy × AreClean t n redundancy before

-- one of these ticks had a vote
abbrev pub HasVoted : Redundancy → List Tells → Type 0
HasVoted redundancy [] = ⊥
HasVoted redundancy (told ∷ before) =
    (is_some (vote_of told redundancy) ≡ true) ⊎ HasVoted redundancy before

-- a table that is true, or none that is needed: votes tell of a month's end from 23:59:01 on, so
-- that whoever holds over for at most 57 seconds has stopped at 23:59:58 if none told
abbrev pub KnowsMonthEnds : TimelineValue → ReaderRules → TableValue → Type 0
KnowsMonthEnds t rules table = IsTrueTable t table ⊎ (rules.holdover ≤ 57)
