-- What a station is made of.
-- Source: docs/SCENARIOS.md; this project's profile.
use Rattle.std.specs.Prelude.{ℕ, ◌-◌, ◌==◌, if◌then◌else◌, false, All, List, [], length, slice_get, Option, Some, None}
use Rattle.irig_time.specs.declared.rules.Rules.{Rules}
use Rattle.irig_time.specs.Tables.{table}
use Rattle.irig_time.specs.declared.claim.Claim.{Claim}
use Rattle.irig_time.specs.Timelines.{TimelineValue, truth_at}
use Rattle.irig_time.specs.TimelineFaults.{IsTimeline}
use Rattle.irig_gen.specs.Frames.{GeneratorValue}
use Rattle.irig_vote.specs.declared.redundancy.Redundancy.{Redundancy}
use Rattle.irig_vote.specs.Vote.{redundancy_of}
use Rattle.irig_lines.specs.Refusals.{limits_of, within_of}
use Rattle.irig_lines.specs.VoteLimits.{usual_limits}
use Rattle.irig_simulated.specs.Setups.{DevicePlan}
use Rattle.irig_simulated.specs.declared.setup.Ticking.TheVariants.{ByHand}
use Rattle.irig_simulated.specs.Kinds.{IsDevicePlan, Kind, kind_of, no_delay}

-- its timeline, its generators, the rules by which their frames are read, and its devices
pub record StationSetup : Type 0 where
  pub times : TimelineValue
  pub generators : List GeneratorValue
  pub rules : Rules
  pub devices : List DevicePlan

-- the setup of this timeline, these generators, rules and devices
abbrev pub station_setup : TimelineValue → List GeneratorValue → Rules → List DevicePlan
    → StationSetup
station_setup times generators rules devices =
    record { times = times; generators = generators; rules = rules; devices = devices }

-- each device has a line from each generator
abbrev pub redundancy_of_station : StationSetup → Redundancy
redundancy_of_station s = redundancy_of (length s.generators)

-- what a line tells at an edge of a true frame: the claim of the second that ended there; none at
-- edge 0, and where the timeline has no such second
abbrev pub truth_before : StationSetup → (edge : ℕ) → Option Claim
truth_before s edge = if edge == 0 then None else truth_at s.times (edge - 1)

-- what stands for a device past the last one; no event that is accepted names it
abbrev pub no_kind : Rules → Redundancy → Kind
no_kind rules redundancy = record {
  made = record {
    rules = rules;
    clock = record {
      reader_rules = record { lock_after = 1; holdover = 0 };
      redundancy = redundancy;
      within = within_of 450;
      limits = limits_of usual_limits;
      drift_us = 0;
      wander_ppb = 0;
      delays = no_delay;
      prefers_frames = false;
    };
    table = table 0 [];
  };
  first = 0;
  rate = 1000000;
  ticking = ByHand;
}

-- what a device of this setup is, if there is one
abbrev pub kind_if : Rules → Redundancy → Option DevicePlan → Kind
kind_if rules redundancy None = no_kind rules redundancy
kind_if rules redundancy (Some device) = kind_of rules redundancy device

-- what device r is
abbrev pub kind_of_device : StationSetup → (r : ℕ) → Kind
kind_of_device s r = kind_if s.rules (redundancy_of_station s) (slice_get s.devices r)

-- a setup that there may be: nothing is wrong with its timeline, nor with any device
pub record IsStationSetup (s : StationSetup) : Type 0 where
  pub times : IsTimeline s.times
  pub devices : All IsDevicePlan s.devices
