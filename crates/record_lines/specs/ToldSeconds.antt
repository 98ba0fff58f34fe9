-- A second that a tick told.
-- Source: this project's profile.
use Rattle.std.specs.Prelude.{◌≡◌, ℕ, ◌+◌, ◌-◌, ◌%◌, ◌^◌, List, Option, Some, None}
use Rattle.irig_time.specs.declared.claim.Claim.{Claim}
use Rattle.irig_timekeeper.specs.declared.clock.Beat.{Beat}
use Rattle.irig_timekeeper.specs.Carried.{IsCarried}
use Rattle.irig_timekeeper.specs.Clock.{claim_voted}
use Rattle.irig_timekeeper.specs.Keeping.{answer_at, vote_at}
use Rattle.irig_timekeeper.specs.Life.{Call, pulses_on}
use Rattle.irig_timekeeper.specs.Lived.{MadeOf, keeping_after}
use Rattle.irig_timekeeper.specs.Truth.{IsEdgeAt}
use Rattle.record_lines.specs.declared.told.ToldSecond.{ToldSecond}

-- the time at or before another at which a counter of 32 bits shows this
abbrev pub edge_by : (at edge : ℕ) → ℕ
edge_by at edge = at - (at % 2 ^ 32 + (2 ^ 32 - edge)) % 2 ^ 32

-- what is told of a tick's answer
abbrev pub told_by : (at : ℕ) → Option Beat → Option Claim → Option ToldSecond
told_by at None vote = None
told_by at (Some beat) vote = Some (record {
  at_us = at;
  edge_us = edge_by at beat.edge_us;
  beat = beat;
  vote = vote;
})

-- a second is what a timekeeper that was made of this, and had these calls, tells at a tick. Its edge has
-- come, less than 1.006 s before, and its vote is carried by whole frames of more than f lines
pub record IsToldAfter (made : MadeOf) (calls : List Call) (told : ToldSecond) : Type 0 where
  pub beat : answer_at (keeping_after made calls) (told.at_us % 2 ^ 32) ≡ Some told.beat
  pub vote : told.vote ≡ claim_voted (vote_at (keeping_after made calls) (told.at_us % 2 ^ 32))
  pub edge : IsEdgeAt told.beat.edge_us told.edge_us told.at_us
  pub carried : (claim : Claim) → told.vote ≡ Some claim
      → IsCarried made.clock made.rules claim told.at_us (λ line. pulses_on line calls)
