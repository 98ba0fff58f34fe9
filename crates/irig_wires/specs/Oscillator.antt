-- A device's true oscillator: what its counter shows, which does not wrap here. Times are true
-- microseconds behind where T(0) begins.
-- Source: this project's profile.
use Rattle.std.specs.Prelude.{ℕ, ◌+◌, ◌-◌, ◌*◌, ◌/◌, if◌then◌else◌, ℤ, pos, int_lt, unsigned_abs}

-- it gains or loses so many microseconds a second at most
abbrev pub most_gain_us : ℕ
most_gain_us = 1000

-- how many microseconds it counts in each second that truly passes, by what it gains in each
abbrev pub rate_of : ℤ → ℕ
rate_of gain =
    if int_lt gain (pos 0) then 1000000 - unsigned_abs gain else 1000000 + unsigned_abs gain

-- the counter counts so many in each second, and stood at its first where T(0) began
abbrev pub edges_by : ℕ → ℕ → ℕ → ℕ
edges_by first rate n = first + n * rate

-- what it shows at a time
abbrev pub counter_at : ℕ → ℕ → ℕ → ℕ
counter_at first rate time = first + time * rate / 1000000

-- the first time at which it shows a count or more, rounded up; if it does from the start, 0
abbrev pub time_of : ℕ → ℕ → ℕ → ℕ
time_of first rate count = ((count - first) * 1000000 + (rate - 1)) / rate
