-- Values that were worked out by hand: of pulses, of seconds about the leap second of 2016-12-31, which is day 6209 (17
-- years of 365 days and 5 leap days make 6210), and of beginnings.
use Rattle.std.proofs.Common.{◌≡◌, ℕ, true, false, List, [], ◌∷◌, Option, Some, None, slice_get, refl}
use Rattle.std.specs.Prelude.{pos, neg_ℤ}
use Rattle.irig_frame.specs.declared.symbol.Symbol.{Symbol}
use Rattle.irig_frame.specs.declared.symbol.Symbol.TheVariants.{Zero, One, Marker, Bad}
use Rattle.irig_time.specs.declared.second.UtcSecond.{UtcSecond}
use Rattle.irig_time.specs.declared.leap.Leap.TheVariants.{Insert, Delete}
use Rattle.irig_time.specs.declared.rules.Sense.TheVariants.{Add}
use Rattle.irig_time.specs.declared.rules.SbsUse.TheVariants.{Check, Ignore}
use Rattle.record_pulses.specs.declared.edge.Pulse.{Pulse}
use Rattle.record_short.specs.declared.seen.Seen.{Seen}
use Rattle.irig_time.specs.Days.{four_years, is_month_end}
use Rattle.record_short.specs.Seen.{is_in_step, nothing_shown, seen_in}
use Rattle.record_short.specs.Fits.{element_fits, is_free, offset_sent}
use Rattle.record_short.specs.Searches.{second_in}

abbrev pulse : (rise width : ℕ) → Pulse
pulse rise width = record { rise_us = rise; width_us = width }

abbrev second : (day sod : ℕ) → UtcSecond
second day sod = record { day = day; sod = sod }

-- a millisecond is little enough, and one more microsecond is not
late_by_little : is_in_step 11000 ≡ true
late_by_little = refl

late_by_more : is_in_step 11001 ≡ false
late_by_more = refl

twice_at_once : is_in_step 900 ≡ false
twice_at_once = refl

-- 0, then two markers, 1, a lost pulse and 0
few : List Pulse
few = pulse 5000 2000 ∷ pulse 15000 8000 ∷ pulse 25000 8000 ∷ pulse 35000 5000 ∷ pulse 55000 2000 ∷ []

abbrev when : Option Seen → Option ℕ
when None = None
when (Some seen) = Some seen.begins_us

abbrev shows : ℕ → Option Seen → Option Symbol
shows at None = None
shows at (Some seen) = slice_get seen.shown at

begins : when (seen_in few) ≡ Some 25000
unfolding few
begins = refl

before_the_marker : shows 198 (seen_in few) ≡ Some Zero
unfolding few nothing_shown
before_the_marker = refl

the_marker : shows 200 (seen_in few) ≡ Some Marker
unfolding few nothing_shown
the_marker = refl

after_the_marker : shows 201 (seen_in few) ≡ Some One
unfolding few nothing_shown
after_the_marker = refl

the_lost_pulse : shows 202 (seen_in few) ≡ Some Bad
unfolding few nothing_shown
the_lost_pulse = refl

after_the_lost_pulse : shows 203 (seen_in few) ≡ Some Zero
unfolding few nothing_shown
after_the_lost_pulse = refl

-- the parity says nothing, the minutes do; the straight binary seconds do if they are compared
parity_is_free : is_free 75 ≡ true
parity_is_free = refl

minutes_are_not : is_free 10 ≡ false
minutes_are_not = refl

binary_seconds : element_fits Check 80 One Zero ≡ false
binary_seconds = refl

binary_seconds_left_out : element_fits Ignore 80 One Zero ≡ true
binary_seconds_left_out = refl

an_hour_ahead : offset_sent Add (pos 2) ≡ neg_ℤ (pos 2)
an_hour_ahead = refl

-- with the leap second, without it, and if a second had been deleted
the_leap_second : second_in (Some (6209, Insert)) 6209 86400 ≡ Some (second 6209 86400)
unfolding is_month_end four_years
the_leap_second = refl

no_leap_second : second_in None 6209 86400 ≡ Some (second 6210 0)
no_leap_second = refl

a_second_deleted : second_in (Some (6209, Delete)) 6209 86399 ≡ Some (second 6210 0)
a_second_deleted = refl
