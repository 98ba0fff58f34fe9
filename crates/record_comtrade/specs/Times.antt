-- When a sample was, in nanoseconds after the first one.
-- Source: IEEE C37.111-2013, 5.3.9 (rates), 5.3.12 (the multiple) and 6.4 (a sample's own time). That the first
-- sample is at 0, and how times are rounded, is this project's profile.
use Rattle.std.specs.Prelude.{ℕ, zero, suc, ◌+◌, ◌-◌, ◌*◌, ◌/◌, Bool, true, false, ◌&&◌, if◌then◌else◌, List, [], ◌∷◌, length, Result, Ok, Err, max, min, nat_eq, nat_lt}
use Rattle.record_levels.specs.declared.limits.TimeFault.TheVariants.{Back}
use Rattle.record_comtrade.specs.declared.parts.Rate.{Rate}
use Rattle.record_comtrade.specs.declared.clock.Clock.{Clock}
use Rattle.record_comtrade.specs.declared.clock.Mark.{Mark}
use Rattle.record_comtrade.specs.declared.clock.Reason.{Reason}
use Rattle.record_comtrade.specs.declared.clock.Reason.TheVariants.{NoTime, Time}

-- so many steps at a rate in femtoseconds, rounded down
abbrev pub part_fs : (steps : ℕ) → (millionths : ℕ) → ℕ
part_fs steps zero = 0
part_fs steps (suc m) = steps * 1000000000000000000000 / suc m

-- the last step of a rate on the way to a sample: up to its last sample, or where it is the last rate, with none left
-- after it, up to that sample
abbrev pub end_of : Rate → (left : ℕ) → (to : ℕ) → ℕ
end_of rate left to = if nat_eq left 0 then to else min to rate.last

-- from one sample to another in femtoseconds: the steps at each rate
abbrev pub time_fs : (rates : List Rate) → (from to : ℕ) → ℕ
time_fs [] from to = 0
time_fs (rate ∷ rates) from to =
    part_fs (end_of rate (length rates) to - from) rate.millionths + time_fs rates (max from rate.last) to

-- no rate is 0
abbrev pub all_steps : (rates : List Rate) → Bool
all_steps [] = true
all_steps (rate ∷ rates) = nat_lt 0 rate.millionths && all_steps rates

-- there are rates, and none is 0
abbrev pub have_steps : (rates : List Rate) → Bool
have_steps [] = false
have_steps (rate ∷ rates) = all_steps (rate ∷ rates)

-- by the rates: the sum of all steps, rounded down to a nanosecond
abbrev pub time_by_rates : (rates : List Rate) → (first here : ℕ) → Result ℕ Reason
time_by_rates rates first here =
    if nat_lt here first then Err (Time Back) else Ok (time_fs rates first here / 1000000)

-- how many millionths of a unit of such times are a nanosecond: the unit is a nanosecond, or else a microsecond
abbrev pub parts_of : (is_fine : Bool) → ℕ
parts_of is_fine = if is_fine then 1000000 else 1000

-- by the samples' own times, of which the largest says that there is none: their difference, times the multiple,
-- which is in millionths
abbrev pub time_by_own : Clock → (first here : ℕ) → Result ℕ Reason
time_by_own clock first here =
    if nat_eq here 4294967295 then Err NoTime
    else (if nat_lt here first then Err (Time Back) else Ok ((here - first) * clock.multiple / parts_of clock.is_fine))

-- when a sample was, where the first one is that
abbrev pub time_of : (rates : List Rate) → Clock → (first here : Mark) → Result ℕ Reason
time_of rates clock first here =
    if have_steps rates then time_by_rates rates first.number here.number
    else time_by_own clock first.time here.time
