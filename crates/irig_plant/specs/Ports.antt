-- What the ports of a reader carry at a tick, as relations over what they heard.
-- Source: docs/HEADLINE.md, the premises; docs/EXACTLY_WHEN.md, voted edges.
use Rattle.std.specs.Prelude.{ℕ, ◌+◌, ◌<◌, List, length}
use Rattle.irig_time.specs.declared.claim.Claim.{Claim}
use Rattle.irig_time.specs.Timelines.{IsTrueClaim}
use Rattle.irig_time.specs.Carries.{Carries}
use Rattle.irig_port.specs.Heard.{symbols_of}
use Rattle.irig_vote.specs.Vote.{f_of, ports_in, redundancy_of}
use Rattle.irig_plant.specs.declared.event.Event.{Event}
use Rattle.irig_plant.specs.Schedule.{Setup, heard_at, ticks_of}

-- how many ports of a reader may be untrue: f of 2f + 1
abbrev pub f_in : Setup → ℕ
f_in s = f_of (redundancy_of (length s.generators))

-- since the last tick or restart of reader r its port p heard symbols that carry this claim
pub record HasHeard (s : Setup) (r p : ℕ) (ev : List Event) (c : Claim) : Type 0 where
  pub port : p < ports_in (redundancy_of (length s.generators))
  pub carries : Carries s.rules (symbols_of (heard_at s r p ev)) c

-- and it is true at a tick of r that comes now
pub record IsTruePort (s : Setup) (r : ℕ) (ev : List Event) (p : ℕ) : Type 0 where
  pub claim : Claim
  pub heard : HasHeard s r p ev claim
  pub is_true : IsTrueClaim s.times (ticks_of r ev + 1) claim

-- or it is not
pub record IsUntruePort (s : Setup) (r : ℕ) (ev : List Event) (p : ℕ) : Type 0 where
  pub claim : Claim
  pub heard : HasHeard s r p ev claim
  pub untrue : ¬ IsTrueClaim s.times (ticks_of r ev + 1) claim
