-- Whether what is seen of a line fits seconds.
-- Source: IRIG Standard 200-16, format B, and IEEE 1344-1995, the IRIG-B annex, by the frame of a second of
-- irig_time. Which elements say nothing is this project's profile.
use Rattle.std.specs.Prelude.{ℕ, zero, suc, ◌+◌, ◌*◌, Bool, true, false, not, ◌&&◌, ◌||◌, nat_le, nat_eq, List, [], ◌∷◌, take, drop, Option, Some, None, ℤ, pos, neg_ℤ, ◌-ℤ◌, slice_get}
use Rattle.irig_frame.specs.declared.symbol.Symbol.{Symbol}
use Rattle.irig_frame.specs.declared.symbol.Symbol.TheVariants.{Bad}
use Rattle.irig_frame.specs.Values.{is_one}
use Rattle.irig_control.specs.declared.control.Control.{Control}
use Rattle.irig_control.specs.declared.parity.Parity.TheVariants.{Even}
use Rattle.irig_time.specs.declared.second.UtcSecond.{UtcSecond}
use Rattle.irig_time.specs.declared.rules.Rules.{Rules}
use Rattle.irig_time.specs.declared.rules.SbsUse.{SbsUse}
use Rattle.irig_time.specs.declared.rules.SbsUse.TheVariants.{Check, Ignore}
use Rattle.irig_time.specs.declared.rules.Sense.{Sense}
use Rattle.irig_time.specs.declared.rules.Sense.TheVariants.{Add, Subtract}
use Rattle.irig_time.specs.Frames.{frame_of_second}
use Rattle.record_pulses.specs.Views.{same_symbol}
use Rattle.record_short.specs.declared.second.Five.{Five}

-- a number lies between these two, or is one of them
abbrev pub is_from_to : (least most n : ℕ) → Bool
is_from_to least most n = nat_le least n && nat_le n most

-- the elements without a field
abbrev pub is_spare : (place : ℕ) → Bool
is_spare n =
    nat_eq n 5 || (nat_eq n 14 || (nat_eq n 18 || (nat_eq n 24 || (nat_eq n 27 || (nat_eq n 28 || (nat_eq n 34
    || (is_from_to 42 48 n || (nat_eq n 54 || nat_eq n 98))))))))

-- these; the leap and daylight bits, the quality and the parity, and the three bits that are not used
abbrev pub is_free : (place : ℕ) → Bool
is_free n = is_spare n || (is_from_to 60 63 n || is_from_to 71 78 n)

-- the straight binary seconds, 80 to 88 and 90 to 97, if they are not looked at
abbrev pub is_left_out : SbsUse → (place : ℕ) → Bool
is_left_out Check place = false
is_left_out Ignore place = is_from_to 80 97 place && not (nat_eq place 89)

-- an element says nothing of the second
abbrev pub is_silent : SbsUse → (place : ℕ) → Bool
is_silent sbs place = is_free place || is_left_out sbs place

-- what is shown of an element fits what is sent there: it is no symbol, or the same, or says nothing
abbrev pub element_fits : SbsUse → (place : ℕ) → (shown sent : Symbol) → Bool
element_fits sbs place shown sent =
    same_symbol shown Bad || (same_symbol shown sent || is_silent sbs place)

-- what is shown of the elements of a second from a place on fits those of a frame
abbrev pub row_fits : SbsUse → (place : ℕ) → (shown frame : List Symbol) → Bool
row_fits sbs place [] frame = true
row_fits sbs place (x ∷ shown) [] = true
row_fits sbs place (x ∷ shown) (y ∷ frame) =
    element_fits sbs place x y && row_fits sbs (place + 1) shown frame

-- the offset of a clock that is so many half hours ahead of UTC
abbrev pub offset_sent : Sense → (zone : ℤ) → ℤ
offset_sent Add zone = neg_ℤ zone
offset_sent Subtract zone = zone

-- control bits that say nothing but this offset
abbrev pub control_sent : Sense → (zone : ℤ) → Control
control_sent sense zone = record {
  leap_pending = false;
  leap_delete = false;
  dst_pending = false;
  dst = false;
  offset_half_hours = offset_sent sense zone;
  quality = 0;
}

-- what a clock sends in a second; its leap and daylight bits, quality and parity are compared with nothing
abbrev pub frame_sent : Sense → (zone : ℤ) → UtcSecond → List Symbol
frame_sent sense zone second = frame_of_second Even second zone (control_sent sense zone)

-- what is shown of one of five seconds
unfoldable pub row_of : (second : ℕ) → (shown : List Symbol) → List Symbol
row_of second shown = take 100 (drop (100 * second) shown)

-- what is shown of one of five seconds fits this one, which has to be served
abbrev pub second_fits : Rules → (zone : ℤ) → (shown : List Symbol) → Option UtcSecond → Bool
second_fits rules zone shown None = false
second_fits rules zone shown (Some second) =
    row_fits rules.sbs 0 shown (frame_sent rules.sense zone second)

-- what is shown of the first two of five fits these
abbrev pub before_fit : Rules → (zone : ℤ) → (shown : List Symbol) → Five → Bool
before_fit rules zone shown five =
    second_fits rules zone (row_of 0 shown) five.two_before
    && second_fits rules zone (row_of 1 shown) five.before

-- of the last two
abbrev pub after_fit : Rules → (zone : ℤ) → (shown : List Symbol) → Five → Bool
after_fit rules zone shown five =
    second_fits rules zone (row_of 3 shown) five.after
    && second_fits rules zone (row_of 4 shown) five.two_after

-- of all five
abbrev pub all_fit : Rules → (zone : ℤ) → (shown : List Symbol) → Five → Bool
all_fit rules zone shown five =
    before_fit rules zone shown five
    && (second_fits rules zone (row_of 2 shown) five.here && after_fit rules zone shown five)

-- a zone by its number from 0: half hours ahead of UTC, from -24 on
abbrev pub zone_at : ℕ → ℤ
zone_at n = pos n -ℤ pos 24

-- it fits in one of so many zones, from one on
abbrev pub fits_from : Rules → (shown : List Symbol) → Five → (number zones : ℕ) → Bool
fits_from rules shown five number zero = false
fits_from rules shown five number (suc zones) =
    all_fit rules (zone_at number) shown five || fits_from rules shown five (number + 1) zones

-- it fits in one of the zones from 12 h behind UTC to 14 h ahead
unfoldable pub fits : Rules → (shown : List Symbol) → Five → Bool
fits rules shown five = fits_from rules shown five 0 53

-- nothing is shown of a second
abbrev pub is_blank : (shown : List Symbol) → Bool
is_blank [] = true
is_blank (x ∷ shown) = same_symbol x Bad && is_blank shown

-- ---- what a clock says of itself

-- an element shows a 1
abbrev pub shows_one : (shown : List Symbol) → ℕ → Bool
shows_one shown at = is_one (slice_get shown at)

-- a second is of a quality of 10 or more: bit 3 of it is set, and bit 1 or 2, which the elements 74, 72 and 73 have
abbrev pub is_poor_in : (shown : List Symbol) → (second : ℕ) → Bool
is_poor_in shown second =
    shows_one shown (100 * second + 74)
    && (shows_one shown (100 * second + 72) || shows_one shown (100 * second + 73))

-- one of the five is
abbrev pub is_poor : (shown : List Symbol) → Bool
is_poor shown =
    is_poor_in shown 0 || (is_poor_in shown 1 || (is_poor_in shown 2 || (is_poor_in shown 3 || is_poor_in shown 4)))
