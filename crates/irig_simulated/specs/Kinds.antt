-- What a simulated device is made of, as its timekeeper and its counter see it.
-- Source: docs/SCENARIOS.md; this project's profile.
use Rattle.std.specs.Prelude.{◌≡◌, ℕ, ◌+◌, ◌*◌, ◌^◌, ◌<◌, ◌≤◌, pos, unsigned_abs, false, All, None}
use Rattle.irig_time.specs.declared.rules.Rules.{Rules}
use Rattle.irig_vote.specs.declared.redundancy.Redundancy.{Redundancy}
use Rattle.irig_reader.specs.Rules.{IsReaderRules}
use Rattle.irig_lines.specs.declared.setup.ClockRules.{ClockRules}
use Rattle.irig_lines.specs.declared.delay.Delays.{Delays}
use Rattle.irig_lines.specs.Refusals.{clock_fault, limits_of, within_of}
use Rattle.irig_lines.specs.VoteLimits.{usual_limits}
use Rattle.irig_timekeeper.specs.Lived.{MadeOf}
use Rattle.irig_wires.specs.Oscillator.{counter_at, edges_by, most_gain_us, rate_of}
use Rattle.irig_wires.specs.Wires.{most_late_us}
use Rattle.irig_simulated.specs.Setups.{DevicePlan}
use Rattle.irig_simulated.specs.declared.setup.Ticking.{Ticking}
use Rattle.irig_simulated.specs.declared.setup.Ticking.TheVariants.{Each}

-- what a timekeeper is made of, what its counter shows at edge 0 if it does not wrap, how many
-- microseconds it counts in a second, and when it is ticked
pub record Kind : Type 0 where
  pub made : MadeOf
  pub first : ℕ
  pub rate : ℕ
  pub ticking : Ticking

-- its setting says nothing of how late its lines are
abbrev pub no_delay : Delays
no_delay = record { a = pos 0; b = pos 0; c = pos 0; d = pos 0; e = pos 0 }

-- the clock of such a device: its lines are right within 450 us, and it learns nothing from votes
abbrev pub clock_in : Redundancy → DevicePlan → ClockRules
clock_in redundancy s = record {
  reader_rules = s.rules;
  redundancy = redundancy;
  within = within_of 450;
  limits = limits_of usual_limits;
  drift_us = s.drift_us;
  wander_ppb = 0;
  delays = no_delay;
  prefers_frames = false;
}

-- a device of this setup, with so many lines; its counter has turned over once before edge 0
abbrev pub kind_of : Rules → Redundancy → DevicePlan → Kind
kind_of rules redundancy s = record {
  made = record { rules = rules; clock = clock_in redundancy s; table = s.table };
  first = s.counter + 2 ^ 32;
  rate = rate_of s.gain_us;
  ticking = s.ticking;
}

-- what its counter shows at a time
abbrev pub count : Kind → (time : ℕ) → ℕ
count k time = counter_at k.first k.rate time

-- when seconds begin by its counter
abbrev pub edges_by_kind : Kind → ℕ → ℕ
edges_by_kind k = edges_by k.first k.rate

-- a setup that there may be
pub record IsDevicePlan (s : DevicePlan) : Type 0 where
  pub rules : IsReaderRules s.rules
  pub gain : unsigned_abs s.gain_us ≤ most_gain_us
  pub late : All (λ us. us ≤ most_late_us) s.late_us
  pub clock : clock_fault s.rules s.drift_us 0 ≡ None

-- its counter counts, and it is not ticked again at once
pub record MovesOn (k : Kind) : Type 0 where
  pub counts : 0 < k.rate
  pub later : (us : ℕ) → k.ticking ≡ Each us → 0 < us
