-- Which ports contradict what a reader holds: by them a liar has a name while nothing is voted.
-- Source: docs/READER.md; this library's own.
use Rattle.std.specs.Prelude.{ℕ, ◌+◌, ◌&&◌, Bool, false, not, nat_lt, if◌then◌else◌, Option, Some, None}
use Rattle.irig_time.specs.declared.second.UtcSecond.{UtcSecond}
use Rattle.irig_time.specs.Seconds.{same_second}
use Rattle.irig_port.specs.declared.told.Told.{Told}
use Rattle.irig_port.specs.declared.told.Told.TheVariants as tells
use Rattle.irig_vote.specs.declared.redundancy.Redundancy.{Redundancy}
use Rattle.irig_vote.specs.declared.votes.Tells.{Tells}
use Rattle.irig_vote.specs.Vote.{ports_in}
use Rattle.irig_reader.specs.declared.rule.State.{State}
use Rattle.irig_reader.specs.declared.rule.State.TheVariants.{Idle, Acquiring, Locked}

-- the second to which a reader has come, if it has anything to go on
abbrev pub held_by : State → Option UtcSecond
held_by Idle = None
held_by (Acquiring hold count) = Some hold.last
held_by (Locked hold) = Some hold.last

-- a claim is told, and of another second
abbrev pub is_against : UtcSecond → Told → Bool
is_against held (tells.Claim c) = not (same_second c.at held)
is_against held _ = false

-- the bit of a port in a mask, if the port is there and tells so
abbrev pub bit_against : Redundancy → UtcSecond → ℕ → ℕ → Told → ℕ
bit_against r held port bit told = if nat_lt port (ports_in r) && is_against held told then bit else 0

-- the mask of such ports, 0 if nothing is held
abbrev pub against_of : Option UtcSecond → Tells → Redundancy → ℕ
against_of None t r = 0
against_of (Some held) t r =
    bit_against r held 0 1 t.a + bit_against r held 1 2 t.b + bit_against r held 2 4 t.c
    + bit_against r held 3 8 t.d + bit_against r held 4 16 t.e
