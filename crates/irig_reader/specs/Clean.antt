-- What has to be true at one edge, so that the second which a reader announces by the vote of that
-- edge is the true one.
-- Source: docs/HEADLINE.md; this project's profile.
use Rattle.std.specs.Prelude.{◌≡◌, ℕ, ◌+◌, ◌<◌, ◌≤◌, List, Option, Some}
use Rattle.irig_time.specs.declared.rules.Rules.{Rules}
use Rattle.irig_time.specs.declared.claim.Claim.{Claim}
use Rattle.irig_time.specs.Timelines.{TimelineValue, IsTrueClaim, truth_at}
use Rattle.irig_time.specs.Carries.{Carries}
use Rattle.irig_port.specs.declared.limits.Limits.{Limits}
use Rattle.irig_port.specs.Heard.{symbols_of}
use Rattle.irig_port.specs.Limits.{IsWithin}
use Rattle.irig_vote.specs.declared.redundancy.Redundancy.{Redundancy}
use Rattle.irig_vote.specs.declared.votes.Tells.{Tells}
use Rattle.irig_vote.specs.Vote.{f_of, ports_in, ports_of, carriers}
use Rattle.irig_vote.specs.Counts.{AtLeast}

-- no f + 1 ports tell one and the same claim other than the true one of T(n); if there is no T(n),
-- every claim is another
pub record IsClean (t : TimelineValue) (n : ℕ) (told : Tells) (redundancy : Redundancy)
    : Type 0 where
  pub no_other : (c : Claim) → f_of redundancy + 1 ≤ carriers c (ports_of told redundancy)
      → truth_at t n ≡ Some c

-- ---- the same of what the ports heard

-- by its number, a port whose pulses carry this claim, within limits if there are any; `heard` gives
-- the widths at each port
pub record IsCarrier (limits : Option Limits) (rules : Rules) (redundancy : Redundancy)
    (heard : ℕ → List ℕ) (c : Claim) (port : ℕ) : Type 0 where
  pub is_port : port < ports_in redundancy
  pub carries : Carries rules (symbols_of (heard port)) c
  pub within : IsWithin limits (symbols_of (heard port)) c

-- what f + 1 ports or more carry is the true claim of T(n)
pub record HaveHeardCleanly (t : TimelineValue) (n : ℕ) (limits : Option Limits) (rules : Rules)
    (redundancy : Redundancy) (heard : ℕ → List ℕ) : Type 0 where
  pub no_other : (c : Claim)
      → AtLeast (f_of redundancy + 1) (IsCarrier limits rules redundancy heard c)
      → IsTrueClaim t (n + 1) c
