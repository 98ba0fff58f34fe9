-- Known values of the definitions, worked by hand.
use Rattle.std.proofs.Common.{◌≡◌, ℕ, ◌+◌, true, false, Some, None, refl}
use Rattle.irig_port.specs.declared.told.Told.TheVariants as tells
use Rattle.irig_time.specs.declared.claim.Claim.{Claim}
use Rattle.irig_time.specs.Days.{four_years, is_month_end}
use Rattle.irig_time.specs.declared.mark.Mark.{Mark}
use Rattle.irig_time.specs.declared.mark.Mark.TheVariants.{Unspoken, NoLeap, Insert}
use Rattle.record_verdict.specs.declared.stretch.AgreedSecond.{AgreedSecond}
use Rattle.record_verdict.specs.declared.stretch.Stretch.{Stretch}
use Rattle.record_verdict.specs.declared.tale.Tale.TheVariants.{Agreed, AnotherSecond, AnotherMark, Late, Early, Silent}
use Rattle.record_verdict.specs.declared.zero.Zero.TheVariants.{At, Undecided, OutOfYears}
use Rattle.record_verdict.specs.Jumps.{follows}
use Rattle.record_verdict.specs.Stretches.{begun, ended_by, stretch_past, turns_late}
use Rattle.record_verdict.specs.Tales.{goes_on, tale}
use Rattle.record_verdict.specs.Zeros.{zero_at}

-- ---- seconds

abbrev claimed : ℕ → ℕ → Mark → Claim
claimed day sod mark = record { at = record { day = day; sod = sod }; mark = mark }

-- 09:30:00 of 2026-11-24, day 9824
abbrev morning : ℕ → Claim
morning second = claimed 9824 (34200 + second) Unspoken

-- a second that ends so many microseconds behind the recording's beginning
abbrev ends_at : Claim → ℕ → AgreedSecond
ends_at claim lines = record { claim = claim; edge_us = lines; lines_us = lines }

-- ---- what a line said

-- 18 s ahead, as a clock that sends GPS time
pub ahead : tale (morning 4) 5050000 (Some 5050000) (tells.Claim (morning 22)) ≡ AnotherSecond (record { ahead = 18; behind = 0 })
ahead = refl

pub late : tale (morning 4) 5050000 (Some 5053200) (tells.Claim (morning 4)) ≡ Late 3200
late = refl

pub early : tale (morning 4) 5050000 (Some 5048999) (tells.Claim (morning 4)) ≡ Early 1001
early = refl

-- 1 ms is near enough
pub near : tale (morning 4) 5050000 (Some 5051000) (tells.Claim (morning 4)) ≡ Agreed
near = refl

-- a frame that is 0.3 s late is not told at its own edge; at the next one it ended 0.7 s before that
pub lost : tale (morning 4) 5050000 (Some 4350000) tells.Silence ≡ Late 300000
lost = refl

pub lost_early : tale (morning 4) 5050000 (Some 4750000) tells.Silence ≡ Early 300000
lost_early = refl

pub nothing_came : tale (morning 4) 5050000 (Some 3550000) tells.Silence ≡ Silent
nothing_came = refl

-- a clock that says that no leap second comes
pub another_mark : tale (claimed 6209 86399 Insert) 5050000 None (tells.Claim (claimed 6209 86399 NoLeap)) ≡ AnotherMark
another_mark = refl

-- 17 s, then 18 s, are two stretches; 3.2 ms late, then 3.3 ms, are one
pub two_offsets : goes_on (AnotherSecond (record { ahead = 17; behind = 0 })) (AnotherSecond (record { ahead = 18; behind = 0 })) ≡ false
two_offsets = refl

pub still_late : goes_on (Late 3200) (Late 3300) ≡ true
still_late = refl

pub late_then_early : goes_on (Late 3200) (Early 3300) ≡ false
late_then_early = refl

-- silent at 5.05 s, and 3.2 ms late a second later: late in both; a second after that one it is not
abbrev silent_at : ℕ → Stretch
silent_at lines = begun 1 (ends_at (morning 4) lines) Silent

pub late_from_the_first : (stretch_past (Some (silent_at 5050000)) 1 (ends_at (morning 5) 6050000) (Late 3200)
    ≡ record { line = 1; tale = Late 3200; first = ends_at (morning 4) 5050000; last = ends_at (morning 5) 6050000; seconds = 2; least_us = 3200; most_us = 3200 })
    × (turns_late (silent_at 5050000) (ends_at (morning 6) 7050000) (Late 3200) ≡ false) × (turns_late (silent_at 5050000) (ends_at (morning 5) 6050000) (Early 3200) ≡ false)
    × (ended_by (Some (silent_at 5050000)) (ends_at (morning 5) 6050000) (Late 3200) ≡ None)
late_from_the_first = (refl, refl, refl, refl)

-- ---- where most lines contradict themselves

-- a second that is one later, a second later; one that is 17 s back; three seconds later, one that is three later, and one that is two later
pub known_jumps : (follows (ends_at (morning 4) 5050000) (ends_at (morning 5) 6050300) ≡ true) × (follows (ends_at (morning 22) 5050000) (ends_at (morning 5) 6050000) ≡ false)
    × (follows (ends_at (morning 4) 5050000) (ends_at (morning 7) 8050000) ≡ true) × (follows (ends_at (morning 4) 5050000) (ends_at (morning 6) 8050000) ≡ false)
known_jumps = (refl, refl, refl, refl)

-- 23:59:59, 23:59:60 and 00:00:00 of 2017 follow each other, and without a leap second the first and the last do; no second is left out
pub leaps_are_no_jumps : (follows (ends_at (claimed 6209 86399 Insert) 5050000) (ends_at (claimed 6209 86400 Unspoken) 6050000) ≡ true)
    × (follows (ends_at (claimed 6209 86400 Unspoken) 6050000) (ends_at (claimed 6210 0 Unspoken) 7050000) ≡ true)
    × (follows (ends_at (claimed 6209 86399 NoLeap) 5050000) (ends_at (claimed 6210 0 Unspoken) 6050000) ≡ true)
    × (follows (ends_at (claimed 6209 86399 NoLeap) 5050000) (ends_at (claimed 6210 2 Unspoken) 6050000) ≡ false)
leaps_are_no_jumps = (refl, refl, refl, refl)

-- ---- when a recording begins

pub in_morning : zero_at (ends_at (morning 0) 1050000) ≡ At (record { day = 9824; sod = 34199 }) 950000
in_morning = refl

-- 5 s before the end of the leap second of 2016: 23:59:56
pub before_leap : zero_at (ends_at (claimed 6209 86400 Unspoken) 5000000) ≡ At (record { day = 6209; sod = 86396 }) 0
unfolding is_month_end four_years
before_leap = refl

-- half a second before the end of 00:00:02 of 2026-12-01 is within it, and 5 s before it in November
pub in_december : zero_at (ends_at (claimed 9831 2 Unspoken) 500000) ≡ At (record { day = 9831; sod = 2 }) 500000
in_december = refl

pub in_november : zero_at (ends_at (claimed 9831 2 Unspoken) 5000000) ≡ Undecided 9830
unfolding is_month_end four_years
in_november = refl

-- 5 s before the end of 00:00:02 of 2026-11-24, which does not begin a month
pub on_the_day_before : zero_at (ends_at (claimed 9824 2 Unspoken) 5000000) ≡ At (record { day = 9823; sod = 86398 }) 0
unfolding is_month_end four_years
on_the_day_before = refl

pub before_all : zero_at (ends_at (claimed 1 2 Unspoken) 5000000) ≡ OutOfYears
before_all = refl
