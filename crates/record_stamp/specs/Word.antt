-- The word on a stamp: by how much it is off from what lines tell, and what may explain it.
-- Source: this project's profile: a millisecond and the step of a sample for agreement, 60 s for an explanation; zones
-- from 12 h behind UTC to 14 h ahead of it, in half hours.
use Rattle.std.specs.Prelude.{◌≡◌, ◌≢◌, ℕ, zero, suc, ◌+◌, ◌*◌, ◌/◌, ◌≤◌, Bool, not, ◌&&◌, List, [], ◌∷◌, Option, Some, None, nat_le, nat_eq, if◌then◌else◌, ℤ, pos, negsuc, neg_ℤ, ◌-ℤ◌, ◌*ℤ◌, ◌≤ℤ◌, int_lt, unsigned_abs, IfSome}
use Rattle.irig_time.specs.declared.leap.Leap.{Leap}
use Rattle.record_comtrade.specs.declared.parts.Rate.{Rate}
use Rattle.record_stamp.specs.declared.instant.Stamp.{Stamp}
use Rattle.record_stamp.specs.declared.late.Moment.{Moment}
use Rattle.record_stamp.specs.declared.word.Word.{Word}
use Rattle.record_stamp.specs.declared.word.ZoneReading.{ZoneReading}
use Rattle.record_stamp.specs.declared.word.TheConstants.{AGREE_NS, NEAR_NS}
use Rattle.record_stamp.specs.Late.{late_ns}

-- the moment that a stamp says
abbrev pub moment_of : Stamp → Moment
moment_of stamp = record { at = stamp.at; nanoseconds = stamp.nanoseconds }

-- a stamp agrees if it is off by no more than so many nanoseconds
abbrev pub agrees : (within : ℕ) → (late : ℤ) → Bool
agrees within late = nat_le (unsigned_abs late) within

-- from a sample to the next one in nanoseconds, by a rate in millionths of a sample a second
abbrev pub step_of : (millionths : ℕ) → ℕ
step_of zero = 0
step_of (suc m) = 1000000000000000 / suc m

-- the same by the first rate of a record
abbrev pub step_ns : List Rate → ℕ
step_ns [] = 0
step_ns (rate ∷ rates) = step_of rate.millionths

-- how late an explanation leaves it, if that is near
abbrev pub if_near : (late : ℤ) → Option ℤ
if_near late = if nat_le (unsigned_abs late) NEAR_NS then Some late else None

-- how late a stamp is with its day and month exchanged, if that is another time and near
abbrev pub exchanged_late : List (ℕ × Leap) → Option Stamp → (truth : Moment) → Option ℤ
exchanged_late leaps None truth = None
exchanged_late leaps (Some stamp) truth = if_near (late_ns leaps (moment_of stamp) truth)

-- the half hours nearest to so many nanoseconds, in minutes
abbrev pub minutes_near : (ns : ℕ) → ℕ
minutes_near ns = 30 * ((ns + 900000000000) / 1800000000000)

-- the same with the sign of a lateness
abbrev pub nearest_zone : (late : ℤ) → ℤ
nearest_zone (pos n) = pos (minutes_near n)
nearest_zone (negsuc n) = neg_ℤ (pos (minutes_near (n + 1)))

-- minutes from 12 h behind UTC to 14 h ahead of it, and not 0
abbrev pub is_zone : (minutes : ℤ) → Bool
is_zone minutes = not (int_lt minutes (neg_ℤ (pos 720))) && not (int_lt (pos 840) minutes) && not (nat_eq (unsigned_abs minutes) 0)

-- how late a stamp is, if it is local time so many minutes ahead of UTC
abbrev pub zone_late : (late minutes : ℤ) → ℤ
zone_late late minutes = late -ℤ minutes *ℤ pos 60000000000

-- in that zone, if it is near there
abbrev pub reading_in : (late minutes : ℤ) → Option ZoneReading
reading_in late minutes =
    if nat_le (unsigned_abs (zone_late late minutes)) NEAR_NS
    then Some (record { zone_minutes = minutes; late_ns = zone_late late minutes }) else None

-- minutes, if they are a zone's
abbrev pub zone_near : (minutes : ℤ) → Option ℤ
zone_near minutes = if is_zone minutes then Some minutes else None

-- in that zone, if there is one
abbrev pub reading_by : (late : ℤ) → (zone : Option ℤ) → Option ZoneReading
reading_by late None = None
reading_by late (Some minutes) = reading_in late minutes

-- the zone in which a stamp is near that is so much late, read as UTC
abbrev pub zone_reading : (late : ℤ) → Option ZoneReading
zone_reading late = reading_by late (zone_near (nearest_zone late))

-- the same, unless a zone is known
abbrev pub zone_word : (zone : Option ℤ) → (late : ℤ) → Option ZoneReading
zone_word (Some zone) late = None
zone_word None late = zone_reading late

-- a zone explains how late a stamp is, read as UTC: it is some half hours from 12 h behind UTC to 14 h ahead of it, and
-- as local time of it the stamp is near
pub record Explains (late : ℤ) (reading : ZoneReading) : Type 0 where
  pub half_hours : ℤ
  pub minutes : reading.zone_minutes ≡ pos 30 *ℤ half_hours
  pub some : half_hours ≢ pos 0
  pub range : (neg_ℤ (pos 24) ≤ℤ half_hours) × (half_hours ≤ℤ pos 28)
  pub then_late : reading.late_ns ≡ zone_late late reading.zone_minutes
  pub near : unsigned_abs reading.late_ns ≤ NEAR_NS

-- a zone in which a stamp is near
pub record IsReading (reading : ZoneReading) : Type 0 where
  pub zone : unsigned_abs reading.zone_minutes ≤ 840
  pub near : unsigned_abs reading.late_ns ≤ NEAR_NS

-- a word whose explanations leave a stamp near
pub record IsWord (word : Word) : Type 0 where
  pub exchanged : IfSome word.exchanged_ns (λ late. unsigned_abs late ≤ NEAR_NS)
  pub zone : IfSome word.zone IsReading

-- the word on a stamp, by the leaps that are known
abbrev pub word_on : List (ℕ × Leap) → Stamp → (exchanged : Option Stamp) → (truth : Moment) → (step : ℕ) → Word
word_on leaps stamp exchanged truth step = record {
  late_ns = late_ns leaps (moment_of stamp) truth;
  within_ns = AGREE_NS + step;
  exchanged_ns = exchanged_late leaps exchanged truth;
  zone = zone_word stamp.zone_minutes (late_ns leaps (moment_of stamp) truth);
}
