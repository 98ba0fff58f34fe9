-- What a tick of a timekeeper gives, and where it leaves the numbers, if its calls accept them.
-- Source: this library's own.
use Rattle.std.specs.Prelude.{◌≡◌, ◌≤◌, ◌==◌, if◌then◌else◌, ℕ, Some, IfSome}
use Rattle.irig_time.specs.Seconds.{IsValid}
use Rattle.irig_vote.specs.Vote.{ports_in}
use Rattle.irig_lines.specs.Exactness.{most_vote_us}
use Rattle.irig_timekeeper.specs.declared.clock.Beat.{Beat}
use Rattle.irig_timekeeper.specs.Keeping.{Heard}
use Rattle.c_numbers.specs.Against.{held_by}
use Rattle.c_numbers.specs.Numbers.{sense_in}
use Rattle.c_numbers.specs.Reports.{report_in, voices_in}
use Rattle.c_numbers.specs.Setups.{redundancy_in}
use Rattle.c_numbers.specs.States.{state_in, IsState}
use Rattle.c_numbers.specs.Voices.{voices_to}
use Rattle.c_lines.specs.Announced.{IsAnnounced, IsSmall}
use Rattle.c_lines.specs.Lines.{frames_in, HaveHeard, KeepNoMore}
use Rattle.c_keeper.specs.declared.second.IrigSecond.{IrigSecond}
use Rattle.c_keeper.specs.declared.timekeeper.IrigTimekeeper.{IrigTimekeeper}
use Rattle.c_keeper.specs.Seconds.{against_at, IsSecondOf}
use Rattle.c_keeper.specs.States.{masks_of}
use Rattle.c_keeper.specs.Timekeepers.{answer_in, clock_in, clock_state_in, state_behind, vote_in, CountsSoundly}

-- the second is the one that a tick at this time gives of the old numbers, of which it makes the new
pub record IsGivenAtTick (old new : IrigTimekeeper) (now : ℕ) (s : IrigSecond) : Type 0 where
  pub said : IsSecondOf s (answer_in old now)
  pub valid : IfSome (report_in s.report).announce IsValid
  pub voices : (beat : Beat) → answer_in old now ≡ Some beat
      → voices_in s.report ≡ voices_to (vote_in old now) beat.told (redundancy_in old.setup)
      (sense_in old.setup.sense) (frames_in old.lines)
  pub against : (beat : Beat) → answer_in old now ≡ Some beat
      → s.report.against_hold
      ≡ against_at (held_by (state_in old.state)) beat (redundancy_in old.setup)
  pub strays : s.strays ≡ (if s.is_told == 0 then 0 else new.strays)
  pub doubt : s.doubt ≡ (if s.is_told == 0 then 0 else new.doubt)
  pub lines : (beat : Beat) → answer_in old now ≡ Some beat
      → s.lines ≡ masks_of (clock_in old) (clock_state_in new)

-- the new numbers are where a tick at this time leaves the old ones, but for the check word
pub record IsLeftAtTick (old new : IrigTimekeeper) (now : ℕ) : Type 0 where
  pub setup : new.setup ≡ old.setup
  pub table : new.table ≡ old.table
  pub wires : new.wires ≡ old.wires
  pub stands : clock_state_in new ≡ state_behind old now
  pub heard : (heard : Heard) → HaveHeard old.lines heard → HaveHeard new.lines heard
  pub bound : new.bound_us ≤ most_vote_us
  pub known : CountsSoundly new
  pub is_state : IsState new.setup.lock_after new.state
  pub last : IsAnnounced new.last
  pub before : IsAnnounced new.before
  pub ended : IsSmall new.ended
  pub ended_before : IsSmall new.ended_before
  pub absent : KeepNoMore (ports_in (redundancy_in new.setup)) new.lines
