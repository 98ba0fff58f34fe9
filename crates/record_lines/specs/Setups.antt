-- Why there is no recording.
-- Source: this project's profile.
use Rattle.std.specs.Prelude.{◌≡◌, Some, ⊤}
use Rattle.irig_lines.specs.Refusals.{clock_fault}
use Rattle.irig_lines.specs.declared.setup.ClockRules.{ClockRules}
use Rattle.record_lines.specs.declared.setup.SetupFault.{SetupFault}
use Rattle.record_lines.specs.declared.setup.SetupFault.TheVariants.{Clock, Memory}

-- a fault of a timekeeper's rules is their first one
abbrev pub IsSetupFault : ClockRules → SetupFault → Type 0
IsSetupFault clock Memory = ⊤
IsSetupFault clock (Clock fault) = clock_fault clock.reader_rules clock.drift_us clock.wander_ppb ≡ Some fault
