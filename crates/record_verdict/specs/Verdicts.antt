-- What the seconds of a recording come to, the newest first.
-- Source: this project's profile, docs/CAPTURE.md.
use Rattle.std.specs.Prelude.{◌≡◌, ℕ, ◌++◌, count_by, is_some, max, not, List, [], ◌∷◌, Option, Some, None}
use Rattle.std.specs.Option.{option_or}
use Rattle.irig_time.specs.declared.claim.Claim.{Claim}
use Rattle.record_lines.specs.declared.second.RecordedSecond.{RecordedSecond}
use Rattle.record_pulses.specs.Spreads.{counted}
use Rattle.record_verdict.specs.declared.ended.Unended.{Unended}
use Rattle.record_verdict.specs.declared.jump.Jumps.{Jumps}
use Rattle.record_verdict.specs.declared.stretch.AgreedSecond.{AgreedSecond}
use Rattle.record_verdict.specs.declared.stretch.Stretch.{Stretch}
use Rattle.record_verdict.specs.declared.verdict.Verdict.{Verdict}
use Rattle.record_verdict.specs.Ended.{AreEnded, ended_at, none_unended, unended_after}
use Rattle.record_verdict.specs.Jumps.{jump_between, jumps_after, no_jumps}
use Rattle.record_verdict.specs.Lines.{apart_at, tales_of}

-- a second whose claim most lines agree on
abbrev pub agreed_second : RecordedSecond → Claim → AgreedSecond
agreed_second s claim = record { claim = claim; edge_us = s.edge_us; lines_us = s.lines_us }

-- so, if they agree on one
abbrev pub agreed_by : RecordedSecond → Option Claim → Option AgreedSecond
agreed_by s None = None
agreed_by s (Some claim) = Some (agreed_second s claim)

-- the first second on which most lines agree
abbrev pub first_agreed : List RecordedSecond → Option AgreedSecond
first_agreed [] = None
first_agreed (s ∷ ss) = option_or (first_agreed ss) (agreed_by s s.vote)

-- the last
abbrev pub last_agreed : List RecordedSecond → Option AgreedSecond
last_agreed [] = None
last_agreed (s ∷ ss) = option_or (agreed_by s s.vote) (last_agreed ss)

-- the open stretches of so many lines after one more second, which changes nothing without a vote
abbrev pub unended_by : ℕ → Unended → RecordedSecond → Option Claim → Unended
unended_by lines before s None = before
unended_by lines before s (Some claim) =
    unended_after before (agreed_second s claim) (tales_of lines claim s)

-- after some seconds
abbrev pub unended_of : ℕ → List RecordedSecond → Unended
unended_of lines [] = none_unended
unended_of lines (s ∷ ss) = unended_by lines (unended_of lines ss) s s.vote

-- those of them that one more second ends
abbrev pub ended_by_second : ℕ → Unended → RecordedSecond → Option Claim → List Stretch
ended_by_second lines before s None = []
ended_by_second lines before s (Some claim) =
    ended_at before (agreed_second s claim) (tales_of lines claim s)

-- the stretches that ended, in the order in which they did
abbrev pub ended_of : ℕ → List RecordedSecond → List Stretch
ended_of lines [] = []
ended_of lines (s ∷ ss) =
    ended_of lines ss ++ ended_by_second lines (unended_of lines ss) s s.vote

-- how far apart the frames of lines end that agree on a second
abbrev pub apart_by : ℕ → RecordedSecond → Option Claim → ℕ
apart_by lines s None = 0
apart_by lines s (Some claim) = apart_at lines (tales_of lines claim s) s

-- at most
abbrev pub apart_of : ℕ → List RecordedSecond → ℕ
apart_of lines [] = 0
apart_of lines (s ∷ ss) = max (apart_of lines ss) (apart_by lines s s.vote)

-- on how many of some seconds most lines agree
abbrev pub agreed_count : List RecordedSecond → ℕ
agreed_count ss = count_by (λ s. is_some s.vote) ss

-- on how many they do not
abbrev pub other_count : List RecordedSecond → ℕ
other_count ss = count_by (λ s. not (is_some s.vote)) ss

-- the jumps of what most lines claim, after one more second, which is none without a vote
abbrev pub jumps_by : Jumps → (before : Option AgreedSecond) → RecordedSecond → Option Claim → Jumps
jumps_by jumps before s None = jumps
jumps_by jumps before s (Some claim) = jumps_after jumps (jump_between before (agreed_second s claim))

-- after some seconds
abbrev pub jumps_of : List RecordedSecond → Jumps
jumps_of [] = no_jumps
jumps_of (s ∷ ss) = jumps_by (jumps_of ss) (last_agreed ss) s s.vote

-- when a second ends that has no vote
abbrev pub end_without : RecordedSecond → Option Claim → Option ℕ
end_without s None = Some s.edge_us
end_without s (Some claim) = None

-- when the first of them ends
abbrev pub first_without : List RecordedSecond → Option ℕ
first_without [] = None
first_without (s ∷ ss) = option_or (first_without ss) (end_without s s.vote)

-- this is what these seconds of so many lines come to
pub record IsVerdictOf (v : Verdict) (n : ℕ) (ss : List RecordedSecond) : Type 0 where
  pub lines : v.lines ≡ n
  pub ended : AreEnded v.ended (ended_of n ss)
  pub unended : v.unended ≡ unended_of n ss
  pub agreed : v.agreed ≡ counted (agreed_count ss)
  pub others : v.without_vote ≡ counted (other_count ss)
  pub first_other : v.first_without_us ≡ first_without ss
  pub first : v.first ≡ first_agreed ss
  pub last : v.last ≡ last_agreed ss
  pub apart : v.apart_us ≡ apart_of n ss
  pub jumps : v.jumps ≡ jumps_of ss
