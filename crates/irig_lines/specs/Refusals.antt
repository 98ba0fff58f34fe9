-- What is refused of a setup, and the nearest that is not.
-- Source: this project's profile.
use Rattle.std.specs.Prelude.{ℕ, ◌+◌, ◌-◌, ◌*◌, ◌==◌, ◌&&◌, min, nat_lt, if◌then◌else◌, Option, Some, None}
use Rattle.std.proofs.Common.{arith}
use Rattle.irig_port.specs.declared.limits.Limits.{Limits}
use Rattle.irig_reader.specs.declared.rules.ReaderRules.{ReaderRules}
use Rattle.irig_lines.specs.declared.limits.VoteLimits.{VoteLimits}
use Rattle.irig_lines.specs.declared.setup.ClockFault.{ClockFault}
use Rattle.irig_lines.specs.declared.setup.ClockFault.TheVariants.{Drift, Holdover}
use Rattle.irig_lines.specs.declared.within.Within.{Within}
use Rattle.irig_lines.specs.Exactness.{most_within_us, most_drift_us, most_held_us}
use Rattle.irig_lines.specs.VoteLimits.{most_poor_from}

-- lines that are so exact, or as near that as a setup may say
abbrev pub within_of : ℕ → Within
within_of us = record {
  us = most_within_us - (most_within_us - 1 - (us - 1));
  some = omega arith;
  few = omega arith;
}

-- these limits, or as near them as a setup may say
abbrev pub limits_of : Limits → VoteLimits
limits_of l = record {
  limits = record { not_before = l.not_before; poor_from = min l.poor_from most_poor_from };
  few = omega arith;
}

-- the counter is more than 100 us a second wrong, or nothing is learned of it and it could be half a
-- second wrong when the holdover ends
abbrev pub clock_fault : ReaderRules → (drift wander : ℕ) → Option ClockFault
clock_fault rules drift wander =
    if nat_lt most_drift_us drift then Some Drift
    else (if wander == 0 && nat_lt most_held_us ((rules.holdover + 2) * drift) then Some Holdover
    else None)
