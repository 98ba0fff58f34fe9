-- What a vote rests on: frames that lines were told whole.
-- Source: this project's profile.
use Rattle.std.specs.Prelude.{◌≡◌, ℕ, ◌+◌, ◌<◌, ◌≤◌, Bool, true, List, count_by}
use Rattle.std.specs.List.{range_with_len}
use Rattle.irig_sync.specs.Lines.{Pulse}
use Rattle.irig_time.specs.declared.rules.Rules.{Rules}
use Rattle.irig_time.specs.declared.claim.Claim.{Claim}
use Rattle.irig_vote.specs.Vote.{f_of}
use Rattle.irig_lines.specs.declared.setup.ClockRules.{ClockRules}
use Rattle.irig_lines.specs.Lines.{IsFrameOf}

-- a line was told a whole frame that makes this claim. It ended at most 100 ms before now, and no further
-- from `near` than the edge of such a frame may lie from its end by its quality
pub record IsFrameNear (c : ClockRules) (rules : Rules) (claim : Claim) (near now : ℕ)
    (pulses : List Pulse) : Type 0 where
  pub half : ℕ
  pub end : ℕ
  pub frame : IsFrameOf c rules claim half end pulses
  pub least : near ≤ end + half
  pub most : end ≤ near + half
  pub soon : now ≤ end + 100000

-- more than f lines were told such frames, which ended so near one time
pub record IsCarried (c : ClockRules) (rules : Rules) (claim : Claim) (now : ℕ)
    (pulses : ℕ → List Pulse) : Type 0 where
  pub carries : ℕ → Bool
  pub many : f_of c.redundancy < count_by carries (range_with_len 0 5)
  pub near : ℕ
  pub frames : (i : ℕ) → i < 5 → carries i ≡ true → IsFrameNear c rules claim near now (pulses i)
