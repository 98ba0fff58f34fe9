-- When a pulse rose at its clock, by how late its line is.
-- Source: this project's profile.
use Rattle.std.specs.Prelude.{ℕ, ◌+◌, ◌-◌, ◌%◌, ◌^◌, ◌==◌, if◌then◌else◌, ℤ, pos, int_lt, unsigned_abs}
use Rattle.irig_lines.specs.declared.delay.Delays.{Delays}

-- how late the line of a port is, in microseconds; below 0 it is early
abbrev pub delay_at : Delays → ℕ → ℤ
delay_at delays port =
    if port == 0 then delays.a
    else (if port == 1 then delays.b
    else (if port == 2 then delays.c
    else (if port == 3 then delays.d
    else delays.e)))

-- by a clock of 32 bits the delay is taken off
abbrev pub corrected : ℕ → ℤ → ℕ
corrected rise delay =
    if int_lt delay (pos 0) then (rise + unsigned_abs delay) % 2 ^ 32
    else (rise + (2 ^ 32 - unsigned_abs delay)) % 2 ^ 32
