-- What stamps say, at known values.
use Rattle.std.proofs.Common.{◌≡◌, ℕ, ◌≤◌, List, [], ◌∷◌, Option, Some, None, Ok, Err, ℤ, pos, refl, sym, subst, ap, arith}
use Rattle.std.specs.Prelude.{codes, neg_ℤ}
use Rattle.std.specs.Fmt.{digits}
use Rattle.std.proofs.lemmas.Int.{ints}
use Rattle.jiff_core.specs.Calendar.{days_from_civil, day_count, days_of_years, days_of_months}
use Rattle.irig_time.specs.declared.leap.Leap.TheVariants.{Insert, Delete}
use Rattle.irig_time.specs.Days.{is_month_end, four_years, IsDateOf}
use Rattle.irig_time.specs.Texts.{IsDayText}
use Rattle.irig_time.specs.TextValues.{day_read}
use Rattle.irig_time.proofs.TextLaws.{date_read}
use Rattle.irig_time.proofs.TextValueLaws.{day_read_is}
use Rattle.record_stamp.specs.declared.code.LeapSaid.TheVariants.{Added}
use Rattle.record_stamp.specs.declared.instant.Order.TheVariants.{DayFirst, MonthFirst}
use Rattle.record_stamp.specs.declared.instant.Stamp.{Stamp}
use Rattle.record_stamp.specs.declared.instant.StampFault.TheVariants as fault
use Rattle.record_stamp.specs.declared.parts.DateNumbers.{DateNumbers}
use Rattle.record_stamp.specs.declared.parts.ClockNumbers.{ClockNumbers}
use Rattle.record_stamp.specs.declared.late.Moment.{Moment}
use Rattle.record_stamp.specs.Parts.{clock_numbers, date_numbers}
use Rattle.record_stamp.specs.Codes.{leap_said, quality_of, zone_of}
use Rattle.record_stamp.specs.Instants.{order_of, stamp_in}
use Rattle.record_stamp.specs.Stamps.{exchanged, meaning}
use Rattle.record_stamp.specs.Late.{late_ns}
use Rattle.record_stamp.specs.Notes.{between_note, moment_after, quality_words, unlocked_words, zone_as, zone_note}
use Rattle.record_stamp.specs.Word.{step_ns, zone_reading}
use Rattle.record_stamp.specs.WordText.{amount_text, escaped, fraction_text, length_text, off_text, seconds_text, three, unit_text, within_text, zone_text}
use Rattle.record_stamp.proofs.LateLaws.{days_after, days_before, plain_days}

-- ---- numbers

abbrev date : (first second year : ℕ) → DateNumbers
date first second year = record { first = first; second = second; year = year }

abbrev clock : (hour minute second nanoseconds : ℕ) → ClockNumbers
clock hour minute second nanoseconds = record { hour = hour; minute = minute; second = second; nanoseconds = nanoseconds }

pub known_dates : (date_numbers (codes "24/11/2026") ≡ Some (date 24 11 2026)) × (date_numbers (codes "01/31/99") ≡ Some (date 1 31 2099))
    × (date_numbers (codes "24-11-2026") ≡ None) × (date_numbers (codes "24/11/2026/1") ≡ None) × (date_numbers (codes "100/11/2026") ≡ None) × (date_numbers [] ≡ None)
known_dates = (refl, refl, refl, refl, refl, refl)

pub known_clocks : (clock_numbers (codes "09:30:01.250000") ≡ Some (clock 9 30 1 250000000)) × (clock_numbers (codes "23:59:60") ≡ Some (clock 23 59 60 0))
    × (clock_numbers (codes "1:2:3.1234567890") ≡ Some (clock 1 2 3 123456789)) × (clock_numbers (codes "1:2:3.1234567891") ≡ None) × (clock_numbers (codes "09:30") ≡ None)
known_clocks = (refl, refl, refl, refl, refl)

-- ---- codes: IEEE C37.111-2013 has -5h30 and 0, C37.232 -4t

pub known_zones : (zone_of (codes "-5h30") ≡ Some (neg_ℤ (pos 330))) × (zone_of (codes "0") ≡ Some (pos 0)) × (zone_of (codes "+1h") ≡ Some (pos 60))
    × (zone_of (codes "-4t") ≡ Some (neg_ℤ (pos 240))) × (zone_of (codes "+10:45") ≡ Some (pos 645)) × (zone_of (codes "x") ≡ None) × (zone_of (codes "24") ≡ None)
    × (zone_of (codes "5h60") ≡ None) × (zone_of (codes "5h3") ≡ None) × (zone_of (codes "005") ≡ None) × (zone_of [] ≡ None)
known_zones = (refl, refl, refl, refl, refl, refl, refl, refl, refl, refl, refl)

pub known_codes : (quality_of (codes "B") ≡ Some 11) × (quality_of (codes "f") ≡ Some 15) × (quality_of (codes "C") ≡ None) × (quality_of (codes "00") ≡ None)
    × (leap_said (codes "1") ≡ Some Added) × (leap_said (codes "4") ≡ None)
known_codes = (refl, refl, refl, refl, refl, refl)

-- ---- days

day_is : (text : List ℕ) (day : ℕ) → day ≤ 36524 → IsDayText day text → ((d : ℕ) → IsDayText d text → day ≡ d) → day_read text ≡ Some day
day_is text day most spells only =
    sym (day_read_is text (Some day) (λ d. (
      λ same. let is : day ≡ d = cc in subst (λ (x : ℕ). (x ≤ 36524) × IsDayText x text) is (most, spells),
      λ h. ap Some (only d h.1),
    )))

-- 2017-01-01 is day 6210
abbrev first : List ℕ
first = codes "2017-01-01"

first_text : IsDayText 6210 first
unfolding days_from_civil day_count days_of_years days_of_months
first_text = record { year = 2017; month = 1; day_of_month = 1; date = (((omega arith, omega arith), (omega arith, omega arith), (omega arith, omega arith)), refl); text = refl }

first_day : days_from_civil (pos 2017) 1 1 ≡ pos 17167
unfolding days_from_civil day_count days_of_years days_of_months
first_day = refl

new_year : day_read first ≡ Some 6210
new_year =
    day_is first 6210 (omega arith) first_text (λ d h.
    let date : IsDateOf d (pos 2017) 1 1 = date_read d first 20 17 1 1 h (λ n few a b. omega (arith, few, a, b)) (λ n few a b. omega (arith, few, a, b))
    (λ n few a b. omega (arith, few, a, b)) (λ n few a b. omega (arith, few, a, b)) in
    omega (arith, ints, first_day, date.1))

-- ---- stamps

abbrev at : (day sod nanoseconds : ℕ) → Option ℤ → Stamp
at day sod nanoseconds zone = record { at = record { day = day; sod = sod }; nanoseconds = nanoseconds; zone_minutes = zone }

-- 2016 ended with 23:59:60, which was 05:29:60 of the next year in India
pub known_inserted : meaning 2013 (Some (pos 330)) (codes "01/01/2017") (codes "05:29:60.5") ≡ Ok (at 6209 86400 500000000 (Some (pos 330)))
unfolding is_month_end four_years
known_inserted = ap (λ day. stamp_in (Some (pos 330)) day (clock 5 29 60 500000000)) new_year

-- no month ended an hour later, and none ends in a minute that goes on
pub known_second_60 : (meaning 2013 (Some (pos 330)) (codes "01/01/2017") (codes "06:29:60") ≡ Err fault.Second60) × (meaning 2013 None (codes "01/01/2017") (codes "05:28:60") ≡ Err fault.Second60)
unfolding is_month_end four_years
known_second_60 = (ap (λ day. stamp_in (Some (pos 330)) day (clock 6 29 60 0)) new_year, ap (λ day. stamp_in None day (clock 5 28 60 0)) new_year)

-- a date in either order, without a zone, and with two digits
pub known_orders : (meaning 1991 None (codes "1/1/17") (codes "0:0:1.000001") ≡ Ok (at 6210 1 1000 None)) × (exchanged 1991 None (codes "1/1/17") (codes "0:0:1") ≡ None)
    × (order_of 1991 (date 12 31 2016) ≡ MonthFirst) × (order_of 1991 (date 13 1 2016) ≡ DayFirst) × (order_of 1999 (date 12 11 2016) ≡ DayFirst) × (order_of 2013 (date 12 13 2016) ≡ MonthFirst)
known_orders = (ap (λ day. stamp_in None day (clock 0 0 1 1000)) new_year, refl, refl, refl, refl, refl)

-- what is none: in the order of faults
pub known_faults : (meaning 1999 None (codes "1.1.2017") (codes "24") ≡ Err fault.Date) × (meaning 1999 None (codes "1/1/2017") (codes "24") ≡ Err fault.Clock)
    × (meaning 1999 None (codes "1/1/2017") (codes "24:00:00") ≡ Err fault.NoSuchTime)
known_faults = (refl, refl, ap (λ day. stamp_in None day (clock 24 0 0 0)) new_year)

-- ---- lateness

abbrev moment : (day sod nanoseconds : ℕ) → Moment
moment day sod nanoseconds = record { at = record { day = day; sod = sod }; nanoseconds = nanoseconds }

-- from 23:59:59 to the new year two seconds passed, and one would have passed without the leap, or none with one deleted
pub known_late : (late_ns ((6209, Insert) ∷ []) (moment 6210 0 5) (moment 6209 86399 0) ≡ pos 2000000005)
    × (late_ns [] (moment 6209 86399 0) (moment 6210 0 0) ≡ neg_ℤ (pos 1000000000)) × (late_ns ((6209, Delete) ∷ []) (moment 6210 0 0) (moment 6209 86399 0) ≡ pos 0)
known_late = (
  omega (arith, ints, days_after Insert 6209 6210 (omega arith), days_before Insert 6209 6209 (omega arith)),
  omega (arith, ints, plain_days 6209, plain_days 6210),
  omega (arith, ints, days_after Delete 6209 6210 (omega arith), days_before Delete 6209 6209 (omega arith)),
)

-- a stamp of India's time, read as UTC, and half a second late beside it; and what is no half hour
pub known_zone : (zone_reading (pos 19800500000000) ≡ Some (record { zone_minutes = pos 330; late_ns = pos 500000000 }))
    × (zone_reading (neg_ℤ (pos 18060000000000)) ≡ Some (record { zone_minutes = neg_ℤ (pos 300); late_ns = neg_ℤ (pos 60000000000) }))
    × (zone_reading (pos 19861000000000) ≡ None) × (zone_reading (pos 60000000000) ≡ None) × (zone_reading (pos 52200000000000) ≡ None)
known_zone = (refl, refl, refl, refl, refl)

-- 4,000 samples a second, one a minute, and none
pub known_steps : (step_ns (record { last = 100; millionths = 4000000000 } ∷ []) ≡ 250000) × (step_ns (record { last = 100; millionths = 16667 } ∷ []) ≡ 59998800023) × (step_ns [] ≡ 0)
    × (step_ns (record { last = 0; millionths = 0 } ∷ []) ≡ 0)
known_steps = (refl, refl, refl, refl)

-- ---- words

pub known_words : (off_text 1250000 (pos 1000000000) ≡ codes "is 1.000 s late") × (off_text 1250000 (neg_ℤ (pos 259201000400000)) ≡ codes "is 3 d 1 s early")
    × (off_text 1250000 (pos 19800500000000) ≡ codes "is 5 h 30 min 0.500 s late") × (off_text 1250000 (neg_ℤ (pos 1250000)) ≡ codes "agrees within 1.3 ms") × (off_text 1250000 (pos 1250001) ≡ codes "is 0.001 s late")
unfolding off_text amount_text length_text seconds_text unit_text within_text three digits
known_words = (refl, refl, refl, refl, refl)

pub known_texts : (zone_text (neg_ℤ (pos 330)) ≡ codes "-5:30") × (zone_text (pos 60) ≡ codes "+1:00") × (escaped (97 ∷ 92 ∷ 255 ∷ 10 ∷ []) ≡ codes "a\\x5c\\xff\\x0a")
    × (fraction_text 250000000 ≡ codes "250") × (fraction_text 1000 ≡ codes "000001") × (fraction_text 1 ≡ codes "000000001")
unfolding zone_text escaped fraction_text three digits
known_texts = (refl, refl, refl, refl, refl, refl)

-- ---- what a record says of its clock

-- a time code as -0500 is none, and x says that there is none
pub known_notes : (zone_note None (codes "x") ≡ codes "the stamp is read as UTC, since the record names no zone\n") × (zone_note None [] ≡ zone_note None (codes "x"))
    × (zone_note None (codes "-0500") ≡ codes "the stamp is read as UTC, since the record's time code, -0500, is no zone\n")
    × (zone_note None (codes "0") ≡ codes "the stamp is read as UTC, as the record says\n")
unfolding between_note escaped
known_notes = (refl, refl, refl, refl)

pub a_zone_of_the_record : zone_note None (codes "-5h30") ≡ codes "the stamp is read as local time of UTC-5:30, as the record says\n"
unfolding zone_as zone_text digits
a_zone_of_the_record = refl

pub known_quality : (quality_words 0 ≡ codes "the record says that its clock was locked\n") × (quality_words 15 ≡ codes "the record says that its clock was out of order\n")
    × (quality_words 1 ≡ codes "the record says that its clock was not locked, and right to 1 ns\n") × (quality_words 11 ≡ codes "the record says that its clock was not locked, and right to 10 s\n")
    × (quality_words 6 ≡ codes "the record says that its clock was not locked, and right to 100 us\n")
unfolding unlocked_words
known_quality = (refl, refl, refl, refl, refl)

-- 0.1 s after 09:30:00.250, and on another day it is not told
abbrev morning : Moment
morning = record { at = record { day = 9824; sod = 34200 }; nanoseconds = 250000000 }

pub known_trigger : (moment_after (pos 100000000) morning ≡ Some (record { at = record { day = 9824; sod = 34200 }; nanoseconds = 350000000 })) × (moment_after (pos 0) morning ≡ None)
    × (moment_after (neg_ℤ (pos 1250000000)) morning ≡ Some (record { at = record { day = 9824; sod = 34199 }; nanoseconds = 0 })) × (moment_after (pos 86400000000000) morning ≡ None)
known_trigger = (refl, refl, refl, refl)
