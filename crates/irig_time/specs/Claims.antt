-- What a frame claims: the UTC second by the offset, and what is said of a leap (IEEE 1344-1995,
-- the IRIG-B annex, with this project's profile of when the leap bits speak).
use Rattle.std.specs.Prelude.{◌≡◌, ◌≤◌, ◌⊎◌, ℕ, ◌+◌, ◌*◌, ◌/◌, ◌%◌, Bool, not, ◌&&◌, ◌==◌, nat_lt, if◌then◌else◌, Result, Ok, Err, ℤ, pos, ◌+ℤ◌, ◌-ℤ◌, ◌*ℤ◌, int_lt, unsigned_abs, true, false}
use Rattle.irig_frame.specs.declared.coded.Coded.{Coded}
use Rattle.irig_control.specs.declared.control.Control.{Control}
use Rattle.irig_time.specs.declared.second.UtcSecond.{UtcSecond}
use Rattle.irig_time.specs.declared.mark.Mark.{Mark}
use Rattle.irig_time.specs.declared.mark.Mark.TheVariants.{Unspoken, NoLeap, Insert, Delete}
use Rattle.irig_time.specs.declared.claim.Claim.{Claim}
use Rattle.irig_time.specs.declared.rules.Sense.{Sense}
use Rattle.irig_time.specs.declared.rules.Sense.TheVariants.{Add, Subtract}
use Rattle.irig_time.specs.declared.claim.TimeFault.{TimeFault}
use Rattle.irig_time.specs.declared.claim.TimeFault.TheVariants as fault
use Rattle.irig_time.specs.declared.second.TheConstants.{FIRST_DAY, LAST_DAY}
use Rattle.irig_time.specs.Days.{is_month_end, year_length}
use Rattle.irig_time.specs.Seconds.{minute_of, same_second, second_of}
use Rattle.irig_time.specs.CodedTime.{coded_minute}

-- the UTC minute, counted from 2000-01-01
unfoldable pub utc_minute : Sense → Coded → Control → ℤ
utc_minute Add c k = pos (coded_minute c) +ℤ pos 30 *ℤ k.offset_half_hours
utc_minute Subtract c k = pos (coded_minute c) -ℤ pos 30 *ℤ k.offset_half_hours

-- the second of a UTC minute
abbrev pub utc_at : ℕ → ℕ → UtcSecond
utc_at minute second = record { day = minute / 1440; sod = 60 * (minute % 1440) + second }

-- the last minute of a month, by its number
abbrev pub is_last_minute : ℕ → Bool
is_last_minute minute = is_month_end (minute / 1440) && (minute % 1440 == 1439)

-- in seconds 1 to 59 of a month's last minute the leap bits speak
abbrev pub frame_mark : Bool → ℕ → Control → Mark
frame_mark last second k =
    if last && (nat_lt 0 second && nat_lt second 60)
    then (if k.leap_pending then (if k.leap_delete then Delete else Insert) else NoLeap)
    else Unspoken

-- the claim of a frame whose UTC minute this is
abbrev pub claim_at : ℕ → Coded → Control → Result Claim TimeFault
claim_at minute c k =
    if (c.second == 60) && not (is_last_minute minute) then Err fault.Second60
    else (if is_last_minute minute && ((c.second == 59) && (k.leap_pending && k.leap_delete))
    then Err fault.DeletedSecond
    else Ok (record {
      at = utc_at minute c.second;
      mark = frame_mark (is_last_minute minute) c.second k;
    }))

-- what a frame claims, or the first fault; a day has 1440 minutes
abbrev pub claim_by : Sense → Coded → Control → Result Claim TimeFault
claim_by sense c k =
    if nat_lt (year_length c.year) c.day then Err fault.NoSuchDay
    else (if int_lt (utc_minute sense c k) (pos (FIRST_DAY * 1440)) then Err fault.OutOfYears
    else (if int_lt (utc_minute sense c k) (pos ((LAST_DAY + 1) * 1440))
    then claim_at (unsigned_abs (utc_minute sense c k)) c k
    else Err fault.OutOfYears))

-- what a frame of this second claims with these bits
abbrev pub claim_of_second : UtcSecond → Control → Result Claim TimeFault
claim_of_second u k =
    if is_last_minute (1440 * u.day + minute_of u)
    && ((second_of u == 59) && (k.leap_pending && k.leap_delete))
    then Err fault.DeletedSecond
    else Ok (record {
      at = u;
      mark = frame_mark (is_last_minute (1440 * u.day + minute_of u)) (second_of u) k;
    })

-- whether two marks are the same
abbrev pub same_mark : Mark → Mark → Bool
same_mark Unspoken Unspoken = true
same_mark NoLeap NoLeap = true
same_mark Insert Insert = true
same_mark Delete Delete = true
same_mark _ _ = false

-- whether two claims are the same, second and mark both
abbrev pub same_claim : Claim → Claim → Bool
same_claim c d = same_second c.at d.at && same_mark c.mark d.mark

-- if the claim says something of a leap, it is of a month's last minute, from second 1 on
abbrev pub IsMarkedLate : Claim → Type 0
IsMarkedLate c = (c.mark ≡ Unspoken) ⊎ ((is_month_end c.at.day ≡ true) × (86341 ≤ c.at.sod))
