-- A plant without faults that goes by whole seconds from its start, and what its log then shows.
-- Source: docs/EXACTLY_WHEN.md.
use Rattle.std.specs.Prelude.{ℕ, ◌-◌, nat_lt, if◌then◌else◌, List, length, All, map, Option, Some, None}
use Rattle.std.specs.List.{flat_map, range_with_len}
use Rattle.irig_time.specs.Timelines.{TimelineValue, second_at, truth_at}
use Rattle.irig_time.specs.TimelineFaults.{IsTimeline}
use Rattle.irig_time.specs.declared.claim.Claim.{Claim}
use Rattle.irig_port.specs.declared.told.Told.{Told}
use Rattle.irig_port.specs.declared.told.Told.TheVariants as tells
use Rattle.irig_vote.specs.declared.votes.Tells.{Tells}
use Rattle.irig_vote.specs.Vote.{redundancy_of}
use Rattle.irig_reader.specs.declared.report.Lock.TheVariants as lock
use Rattle.irig_reader.specs.declared.report.Cause.TheVariants as cause
use Rattle.irig_reader.specs.declared.report.Report.{Report}
use Rattle.irig_reader.specs.declared.rules.ReaderRules.{ReaderRules}
use Rattle.irig_plant.specs.declared.event.Event.{Event}
use Rattle.irig_plant.specs.declared.entry.Entry.{Entry}
use Rattle.irig_plant.specs.Schedule.{Setup, setup_at}
use Rattle.irig_plant.specs.History.{AreReaders}
use Rattle.irig_plant.specs.Health.{HasGenerators}
use Rattle.irig_plant.specs.Premises.{HasTrueTable}
use Rattle.irig_plant.specs.Exactly.{silence}
use Rattle.irig_plant.specs.WholeSecond.{second_of, times}

-- whole seconds of this plant: so many times each frame comes to each reader, each reader ticks,
-- each generator steps
abbrev pub seconds_of : Setup → ℕ → List Event
seconds_of s n = times n (second_of (length s.generators) (length s.readers))

-- a plant that can be made, with true tables
pub record IsHealthyPlant (s : Setup) : Type 0 where
  pub timeline : IsTimeline s.times
  pub generators : HasGenerators s
  pub readers : AreReaders s.readers
  pub tables : All (HasTrueTable s.times) s.readers

-- what a reader with these rules says at edge n: it counts until it locks, then it tells T(n)
abbrev pub healthy_report : TimelineValue → ReaderRules → ℕ → Report
healthy_report t reader_rules n =
    if nat_lt n reader_rules.lock_after then silence (lock.Acquiring n) cause.Acquiring
    else record { announce = second_at t n; lock = lock.Locked; cause = cause.Voted }

-- what a port tells of a true frame with this claim, if there is one
abbrev pub told_of_truth : Option Claim → Told
told_of_truth None = tells.Silence
told_of_truth (Some claim) = tells.Claim claim

-- port p of so many tells this, and what is not there is silent
abbrev pub tells_if_there : ℕ → Told → ℕ → Told
tells_if_there ports told p = if nat_lt p ports then told else tells.Silence

-- so many ports all tell this
abbrev pub all_tell : ℕ → Told → Tells
all_tell ports told = record {
  a = tells_if_there ports told 0;
  b = tells_if_there ports told 1;
  c = tells_if_there ports told 2;
  d = tells_if_there ports told 3;
  e = tells_if_there ports told 4;
}

-- what is logged of reader r at edge n: what it says, and that all its ports tell the truth
abbrev pub healthy_entry : Setup → ℕ → ℕ → Entry
healthy_entry s n r =
    let truth = truth_at s.times (n - 1) in record {
      reader = r;
      edge = n;
      report = healthy_report s.times (setup_at s.readers r).rules n;
      redundancy = redundancy_of (length s.generators);
      told = all_tell (length s.generators) (told_of_truth truth);
      truth = truth;
    }

-- the log of n seconds: at each edge from 1 on, of each reader in order
abbrev pub healthy_log : Setup → ℕ → List Entry
healthy_log s n =
    flat_map (λ edge. map (healthy_entry s edge) (range_with_len 0 (length s.readers)))
    (range_with_len 1 n)
