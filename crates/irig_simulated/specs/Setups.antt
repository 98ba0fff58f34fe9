-- What a simulated device is to be made of.
-- Source: docs/SCENARIOS.md; this project's profile.
use Rattle.std.specs.Prelude.{ℕ, ℤ, List}
use Rattle.irig_time.specs.Tables.{TableValue}
use Rattle.irig_reader.specs.declared.rules.ReaderRules.{ReaderRules}
use Rattle.irig_simulated.specs.declared.setup.Ticking.{Ticking}

-- when it locks, how long it holds over, and the leaps that it knows; how many microseconds a second
-- its counter may be wrong by its setting, and how many that truly gains; what the counter shows at
-- edge 0; how many microseconds late its lines are; and when it is ticked
pub record DevicePlan : Type 0 where
  pub rules : ReaderRules
  pub table : TableValue
  pub drift_us : ℕ
  pub gain_us : ℤ
  pub counter : ℕ
  pub late_us : List ℕ
  pub ticking : Ticking
