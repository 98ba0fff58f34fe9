-- The setups that devices of a station may have.
-- Source: docs/SCENARIOS.md, a plant of devices.
use Rattle.std.specs.Prelude.{◌≡◌, ℕ, ◌≤◌, ◌≤ℤ◌, pos, neg_ℤ, List, length, All, None, ⊤}
use Rattle.irig_reader.specs.Rules.{IsReaderRules}
use Rattle.irig_lines.specs.Refusals.{clock_fault}
use Rattle.irig_simulated.specs.Setups.{DevicePlan}
use Rattle.irig_simulated.specs.declared.setup.Ticking.{Ticking}
use Rattle.irig_simulated.specs.declared.setup.Ticking.TheVariants.{Each}

-- each time at least a microsecond passes, and at most 29 minutes
abbrev pub IsTicking : Ticking → Type 0
IsTicking (Each us) = (1 ≤ us) × (us ≤ 1740000000)
IsTicking _ = ⊤

-- its numbers are in range, its counter counts to the end of the holdover, and a line leads to it
-- from each of so many generators
pub record IsDeviceInRange (generators : ℕ) (x : DevicePlan) : Type 0 where
  pub rules : IsReaderRules x.rules
  pub drift : x.drift_us ≤ 100
  pub slowest : neg_ℤ (pos 1000) ≤ℤ x.gain_us
  pub fastest : x.gain_us ≤ℤ pos 1000
  pub steady : clock_fault x.rules x.drift_us 0 ≡ None
  pub lines : length x.late_us ≡ generators
  pub late : All (λ us. us ≤ 1999) x.late_us
  pub ticking : IsTicking x.ticking

-- 1 to 16 of them
pub record AreDevicesInRange (generators : ℕ) (xs : List DevicePlan) : Type 0 where
  pub least : 1 ≤ length xs
  pub most : length xs ≤ 16
  pub range : All (IsDeviceInRange generators) xs
