-- Which times a recording of lines may go on with.
-- Source: this project's profile. All times are in nanoseconds.
use Rattle.std.specs.Prelude.{ℕ, ◌+◌, ◌<◌, ◌≤◌, ⊤, if◌then◌else◌, Option, Some, None, nat_lt, nat_le}
use Rattle.record_levels.specs.declared.limits.TimeFault.{TimeFault}
use Rattle.record_levels.specs.declared.limits.TimeFault.TheVariants.{Beyond, Back, Gap}

-- 1,000 hours
abbrev pub end_ns : ℕ
end_ns = 3600000000000000

-- a day
abbrev pub day_ns : ℕ
day_ns = 86400000000000

-- the next time lies more than a day after the last levels, if any were said
abbrev pub gap_fault : (levels : Option ℕ) → (next : ℕ) → Option TimeFault
gap_fault None next = None
gap_fault (Some last) next = if nat_lt (last + day_ns) next then Some Gap else None

-- the first fault of the next time of a recording that has come to the time now
abbrev pub time_fault : (now : ℕ) → (levels : Option ℕ) → (next : ℕ) → Option TimeFault
time_fault now levels next =
    if nat_le end_ns next then Some Beyond
    else (if nat_lt next now then Some Back else gap_fault levels next)

-- the next time lies no more than a day after the last levels, if any were said
abbrev pub IsWithinDay : (levels : Option ℕ) → (next : ℕ) → Type 0
IsWithinDay None next = ⊤
IsWithinDay (Some last) next = next ≤ last + day_ns

-- a time at which levels may be said after those at the last time, if any were
abbrev pub Follows : (last : Option ℕ) → (time : ℕ) → Type 0
Follows None time = time < end_ns
Follows (Some last) time = (last < time) × (time ≤ last + day_ns) × (time < end_ns)

-- a time at which a recording may end after them
abbrev pub EndsAt : (last : Option ℕ) → (time : ℕ) → Type 0
EndsAt None time = time < end_ns
EndsAt (Some last) time = (last ≤ time) × (time ≤ last + day_ns) × (time < end_ns)
