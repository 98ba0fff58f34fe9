-- By which votes a silent reader begins to announce.
-- Source: docs/READER.md; this project's profile.
use Rattle.std.specs.Prelude.{◌≡◌, ℕ, zero, suc, ◌+◌, List, [], ◌∷◌, Option, Some, None, ⊤}
use Rattle.irig_time.specs.declared.second.UtcSecond.{UtcSecond}
use Rattle.irig_time.specs.declared.mark.Mark.{Mark}
use Rattle.irig_time.specs.declared.claim.Claim.{Claim}
use Rattle.irig_time.specs.Next.{next_of}
use Rattle.irig_time.specs.Timelines.{TimelineValue, truth_at}
use Rattle.irig_time.specs.Tables.{TableValue}
use Rattle.irig_reader.specs.declared.rules.ReaderRules.{ReaderRules}
use Rattle.irig_reader.specs.declared.report.Lock.TheVariants.{Locked}
use Rattle.irig_reader.specs.declared.report.Cause.TheVariants.{Voted}
use Rattle.irig_reader.specs.declared.report.Report.{Report}
use Rattle.irig_reader.specs.Rule.{report_of}

-- at the last of these votes, the newest first, the reader announced nothing; or there was none, as
-- after a restart and before the first tick
abbrev pub IsSilentAfter : ReaderRules → TableValue → List (Option Claim) → Type 0
IsSilentAfter rules table [] = ⊤
IsSilentAfter rules table (vote ∷ votes) = (report_of rules table vote votes).announce ≡ None

-- v is the second after u, by some mark of u's day
pub record IsNextByMark (u v : UtcSecond) : Type 0 where
  pub mark : Mark
  pub next : next_of u mark ≡ Some v

-- the newest of these votes are so many in a row, each of the second after the one before it, and u
-- is the second after the newest
abbrev pub FollowsVotes : ℕ → List (Option Claim) → UtcSecond → Type 0
FollowsVotes zero votes u = ⊤
FollowsVotes (suc n) [] u = ⊥
FollowsVotes (suc n) (None ∷ votes) u = ⊥
FollowsVotes (suc n) (Some c ∷ votes) u = IsNextByMark c.at u × FollowsVotes n votes c.at

-- so many true votes, of T(n) and the seconds after it, after these votes, the newest first
abbrev pub then_true : TimelineValue → ℕ → ℕ → List (Option Claim) → List (Option Claim)
then_true t n zero votes = votes
then_true t n (suc k) votes = truth_at t (n + k) ∷ then_true t n k votes

-- the reader announces this second by a vote
abbrev pub voted_report : UtcSecond → Report
voted_report u = record { announce = Some u; lock = Locked; cause = Voted }
