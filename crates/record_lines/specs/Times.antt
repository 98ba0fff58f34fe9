-- When a pulse rose, and when a receiver is ticked. Times are in microseconds, by a counter that does
-- not wrap.
-- Source: this project's profile.
use Rattle.std.specs.Prelude.{ℕ, ◌+◌, ◌-◌, ◌%◌, ◌^◌, min, max, nat_le, if◌then◌else◌, ℤ, pos, int_lt, unsigned_abs, List, Option, Some, None}
use Rattle.irig_timekeeper.specs.Keeping.{wait_at}
use Rattle.irig_timekeeper.specs.Life.{Call, last_tick}
use Rattle.irig_timekeeper.specs.Lived.{MadeOf, keeping_after}

-- when a pulse rose at its clock, if its line is so late; none before the counter began
abbrev pub risen_at : (rise : ℕ) → (delay : ℤ) → Option ℕ
risen_at rise delay =
    if int_lt delay (pos 0) then Some (rise + unsigned_abs delay)
    else (if nat_le (unsigned_abs delay) rise then Some (rise - unsigned_abs delay) else None)

-- when it is ticked next that was ticked last then, and asks at a time to wait so long: no sooner than 1 ms
-- after its last tick, and 2 s after it at the latest
abbrev pub next_tick : (ticked now wait : ℕ) → ℕ
next_tick ticked now wait = min (max (now + wait) (ticked + 1000)) (ticked + 2000000)

-- when that is for a timekeeper that was made of this, had these calls, and is asked at a time
abbrev pub asked_at : MadeOf → (start : ℕ) → List Call → (now : ℕ) → ℕ
asked_at made start calls now =
    next_tick (last_tick start calls) now (wait_at (keeping_after made calls) (now % 2 ^ 32))
