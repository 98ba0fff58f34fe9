-- The seconds since a device's last vote, by what its ticks answered, and the bound of its stamps.
-- Source: this project's profile.
use Rattle.std.specs.Prelude.{◌≡◌, ℕ, ◌≤◌, ◌+◌, ◌*◌, ◌%◌, ◌^◌, List, [], ◌∷◌, ◌++◌, Option, Some, None}
use Rattle.irig_reader.specs.declared.report.Cause.{Cause}
use Rattle.irig_reader.specs.declared.report.Cause.TheVariants as cause
use Rattle.irig_timekeeper.specs.declared.clock.Beat.{Beat}
use Rattle.irig_timekeeper.specs.declared.stamp.Stamp.{Stamp}
use Rattle.irig_timekeeper.specs.Keeping.{Keeping, answer_at}
use Rattle.irig_timekeeper.specs.Life.{Call, Made, after_calls, device_of, life_of}
use Rattle.irig_timekeeper.specs.Life.Call.{Tick}
use Rattle.irig_lines.specs.Widths.{vote_us}

-- none, if the cause is a vote; else so many
abbrev pub unless_voted : Cause → ℕ → ℕ
unless_voted cause.Voted seconds = 0
unless_voted _ seconds = seconds

-- how many they are behind a tick that answers this
abbrev pub since_answer : Option Beat → ℕ → ℕ
since_answer None since = since
since_answer (Some beat) since = unless_voted beat.report.cause (since + beat.missed + 1)

-- the seconds that a device has counted since it last announced one by a vote, after these calls
abbrev pub since_vote : Keeping → List Call → ℕ
since_vote new [] = 0
since_vote new (Tick now ∷ calls) =
    since_answer (answer_at (after_calls new calls) (now % 2 ^ 32)) (since_vote new calls)
since_vote new (_ ∷ calls) = since_vote new calls

-- a tick announced the second of the stamp, whose bound is at most a vote's and the drift of each
-- second that had been counted by then since the last vote
pub record HasItsBound (made : Made) (calls : List Call) (stamp : Stamp) : Type 0 where
  pub later : List Call
  pub now : ℕ
  pub earlier : List Call
  pub are : calls ≡ later ++ (Tick now ∷ earlier)
  pub beat : Beat
  pub answer : answer_at (life_of made earlier) (now % 2 ^ 32) ≡ Some beat
  pub says : beat.report.announce ≡ Some stamp.second
  pub bound : stamp.bound_us
      ≤ vote_us made.clock made.clock.drift_us
      + since_vote (device_of made) (Tick now ∷ earlier) * made.clock.drift_us
