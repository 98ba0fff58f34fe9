-- Where what most lines claim contradicts itself.
-- Source: this project's profile, docs/CAPTURE.md; ITU-R TF.460: a leap second ends a day.
use Rattle.std.specs.Prelude.{ℕ, ◌+◌, ◌-◌, ◌*◌, ◌/◌, ◌&&◌, Bool, nat_eq, nat_le, if◌then◌else◌, Option, Some, None}
use Rattle.std.specs.Option.{option_or}
use Rattle.irig_time.specs.declared.second.UtcSecond.{UtcSecond}
use Rattle.record_pulses.specs.Spreads.{counted}
use Rattle.record_verdict.specs.declared.jump.Jump.{Jump}
use Rattle.record_verdict.specs.declared.jump.Jumps.{Jumps}
use Rattle.record_verdict.specs.declared.stretch.AgreedSecond.{AgreedSecond}

-- the number of a second, if each day had 86,400
abbrev pub plain_second : UtcSecond → ℕ
plain_second at = 86400 * at.day + at.sod

-- how many seconds passed between the ends of two by the time of the lines, to the nearest
abbrev pub passed : (before after : AgreedSecond) → ℕ
passed before after = ((after.lines_us - before.lines_us) + 500000) / 1000000

-- two numbers are apart by one at most
abbrev pub are_near : (one other : ℕ) → Bool
are_near one other = nat_le one (other + 1) && nat_le other (one + 1)

-- one agreed second is as many seconds after another as passed; between two days a leap second may lie
abbrev pub follows : (before after : AgreedSecond) → Bool
follows before after =
    if nat_eq before.claim.at.day after.claim.at.day
    then nat_eq (plain_second before.claim.at + passed before after) (plain_second after.claim.at)
    else are_near (plain_second before.claim.at + passed before after) (plain_second after.claim.at)

-- there is a jump from one to the other if it is not
abbrev pub jump_from : (before after : AgreedSecond) → Option Jump
jump_from before after = if follows before after then None else Some (record { before = before; after = after })

-- the same, if there is one before
abbrev pub jump_between : (before : Option AgreedSecond) → (after : AgreedSecond) → Option Jump
jump_between None after = None
jump_between (Some before) after = jump_from before after

-- no jump
abbrev pub no_jumps : Jumps
no_jumps = record { count = 0; first = None }

-- one more, if there is one
abbrev pub jumps_after : Jumps → Option Jump → Jumps
jumps_after jumps None = jumps
jumps_after jumps (Some jump) = record { count = counted (jumps.count + 1); first = option_or jumps.first (Some jump) }
