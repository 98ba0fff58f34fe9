-- Edges without a vote behind the last vote of a reader.
-- Source: docs/HEADLINE.md; this project's profile.
use Rattle.std.specs.Prelude.{◌≡◌, ℕ, ◌+◌, zero, suc, List, ◌∷◌, All, Option, Some, None, IfSome}
use Rattle.irig_time.specs.declared.claim.Claim.{Claim}
use Rattle.irig_time.specs.Timelines.{TimelineValue, IsTrueClaim}
use Rattle.irig_time.specs.Claims.{IsMarkedLate}

-- so many edges without a vote, after these votes, the newest first
abbrev pub then_none : ℕ → List (Option Claim) → List (Option Claim)
then_none zero votes = votes
then_none (suc n) votes = None ∷ then_none n votes

-- each vote speaks of a leap in a month's last minute alone, as what ports tell does
abbrev pub AreMarkedLate : List (Option Claim) → Type 0
AreMarkedLate votes = All (λ vote. IfSome vote IsMarkedLate) votes

-- the last of these votes lies so many edges back, the newest edge counted
pub record IsSince (votes : List (Option Claim)) (edges : ℕ) : Type 0 where
  pub claim : Claim
  pub earlier : List (Option Claim)
  pub are : votes ≡ then_none edges (Some claim ∷ earlier)

-- the last of these votes lies so many edges back, and was the true claim of T(n)
pub record IsTrueSince (t : TimelineValue) (n : ℕ) (votes : List (Option Claim)) (edges : ℕ)
    : Type 0 where
  pub claim : Claim
  pub earlier : List (Option Claim)
  pub are : votes ≡ then_none edges (Some claim ∷ earlier)
  pub truth : IsTrueClaim t (n + 1) claim
