-- What the audit of a device keeps as it goes, and what that stands for.
-- Source: this project's profile.
use Rattle.std.specs.Prelude.{◌≡◌, ℕ, ◌+◌, ◌<◌, ◌==◌, Bool, ◌&&◌, nat_lt, nat_le, if◌then◌else◌, List}
use Rattle.irig_lines.specs.declared.setup.ClockRules.{ClockRules}
use Rattle.irig_timekeeper.specs.Life.{Call, last_tick}
use Rattle.irig_witness.specs.declared.line.LineWitness.{LineWitness}
use Rattle.irig_witness.specs.declared.watch.Watch.{Watch}
use Rattle.irig_witness.specs.Witness.{TrueLines, is_kept, line_witness}

-- what it knows of a line
abbrev pub witness_at : Watch → ℕ → LineWitness
witness_at w line =
    if line == 0 then w.a
    else (if line == 1 then w.b
    else (if line == 2 then w.c
    else (if line == 3 then w.d
    else w.e)))

-- the same audit, but that it knows this of a line
abbrev pub with_witness : Watch → ℕ → LineWitness → Watch
with_witness w line witness =
    if line == 0 then record w { a = witness }
    else (if line == 1 then record w { b = witness }
    else (if line == 2 then record w { c = witness }
    else (if line == 3 then record w { d = witness }
    else record w { e = witness })))

-- the last pulse of each line rose by then
abbrev pub rose_by : Watch → (time : ℕ) → Bool
rose_by w time =
    nat_le w.a.rise time
    && (nat_le w.b.rise time
    && (nat_le w.c.rise time && (nat_le w.d.rise time && nat_le w.e.rise time)))

-- a tick that comes now is in order
abbrev pub may_tick : Watch → (now : ℕ) → Bool
may_tick w now =
    nat_le w.last_tick now
    && (nat_lt (now + 504000) (w.last_tick + 1800000000) && rose_by w (now + 4000))

-- a pulse that rose then is told in order
abbrev pub may_hear : Watch → (line rise : ℕ) → Bool
may_hear w line rise =
    nat_le (witness_at w line).rise rise && nat_le w.last_tick (rise + 500000)

-- a count of one
abbrev pub one_if : Bool → ℕ
one_if b = if b then 1 else 0

-- how many lines are untrue at a tick that comes now
abbrev pub doubted_in : Watch → (now : ℕ) → ℕ
doubted_in w now =
    one_if (nat_lt now w.a.clear) + one_if (nat_lt now w.b.clear) + one_if (nat_lt now w.c.clear)
    + one_if (nat_lt now w.d.clear) + one_if (nat_lt now w.e.clear)

-- the premises are still kept behind a pulse that rose then
abbrev pub kept_at_pulse : Watch → (line rise : ℕ) → Bool
kept_at_pulse w line rise = w.is_kept && may_hear w line rise

-- so are they behind a tick, where f lines may be untrue
abbrev pub kept_at_tick : Watch → (f now : ℕ) → Bool
kept_at_tick w f now = w.is_kept && (may_tick w now && nat_le (doubted_in w now) f)

-- it is the audit of these calls, and says that they kept the premises exactly if they did
pub record IsWatchOf (w : Watch) (c : ClockRules) (x : TrueLines) (start : ℕ) (calls : List Call)
    : Type 0 where
  pub lines : (line : ℕ) → line < 5 → witness_at w line ≡ line_witness c.within.us x line calls
  pub tick : w.last_tick ≡ last_tick start calls
  pub kept : w.is_kept ≡ is_kept c x start calls
