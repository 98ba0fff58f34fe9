-- A hold, and its steps from second to second.
-- Source: docs/READER.md.
use Rattle.std.specs.Prelude.{ℕ, ◌+◌, ◌==◌, nat_le, if◌then◌else◌, Option, Some, None, Result, Ok, Err}
use Rattle.irig_time.specs.declared.second.UtcSecond.{UtcSecond}
use Rattle.irig_time.specs.declared.mark.Mark.{Mark}
use Rattle.irig_time.specs.declared.mark.Mark.TheVariants.{Unspoken, NoLeap, Insert, Delete}
use Rattle.irig_time.specs.declared.claim.Claim.{Claim}
use Rattle.irig_time.specs.declared.second.TheConstants.{LAST_DAY}
use Rattle.irig_time.specs.Next.{next_of}
use Rattle.irig_time.specs.Seconds.{same_second}
use Rattle.irig_time.specs.Tables.{TableValue, spoken_mark}
use Rattle.irig_hold.specs.declared.hold.Turn.{Turn}
use Rattle.irig_hold.specs.declared.hold.Turn.TheVariants.{Now, LeapGuard, Expired, RangeEnd, Jump}

-- the second that a hold has come to, how many seconds it has gone alone, and what it heard of the
-- end of that day
pub record HoldValue : Type 0 where
  pub last : UtcSecond
  pub age : ℕ
  pub heard : Mark

-- the hold at a second, with this age and what it heard
abbrev pub hold_value : UtcSecond → ℕ → Mark → HoldValue
hold_value last age heard = record { last = last; age = age; heard = heard }

-- why there is no step from a second of this day
abbrev pub stop_on : ℕ → Turn
stop_on day = if day == LAST_DAY then RangeEnd else LeapGuard

-- a mark that was heard on the one day is forgotten on another
abbrev pub mark_kept : ℕ → ℕ → Mark → Mark
mark_kept from to heard = if from == to then heard else Unspoken

-- what becomes of a hold that steps from the one second to the other
abbrev pub hold_after : UtcSecond → ℕ → Mark → UtcSecond → HoldValue
hold_after from age heard to = hold_value to age (mark_kept from.day to.day heard)

-- the same, if there is a second to step to; else why there is none
abbrev pub hold_or_stop : UtcSecond → ℕ → Mark → Option UtcSecond → Result HoldValue Turn
hold_or_stop from age heard None = Err (stop_on from.day)
hold_or_stop from age heard (Some to) = Ok (hold_after from age heard to)

-- the step from a second, by what was heard and the table: the hold there, or why there is none
abbrev pub hold_step : TableValue → UtcSecond → ℕ → Mark → Result HoldValue Turn
hold_step table from age heard =
    hold_or_stop from age heard (next_of from (spoken_mark table heard from.day))

-- a hold that begins with a claim, or why there is none
abbrev pub hold_start : TableValue → Claim → Result HoldValue Turn
hold_start table c = hold_step table c.at 0 c.mark

-- what a hold answers, and what it then is
pub record Outcome : Type 0 where
  pub answer : Turn
  pub new : HoldValue

-- it stays as it is if it doesn't step
abbrev pub outcome_of : HoldValue → Result HoldValue Turn → Outcome
outcome_of h (Ok new) = record { answer = Now new.last; new = new }
outcome_of h (Err stop) = record { answer = stop; new = h }

-- the first mark, but if it is unspoken the second
abbrev pub mark_or : Mark → Mark → Mark
mark_or Unspoken heard = heard
mark_or NoLeap heard = NoLeap
mark_or Insert heard = Insert
mark_or Delete heard = Delete

-- a hold with a vote
abbrev pub voted_by : TableValue → HoldValue → Claim → Outcome
voted_by table h c =
    if same_second c.at h.last
    then outcome_of h (hold_step table h.last 0 (mark_or c.mark h.heard))
    else outcome_of h (Err Jump)

-- a hold without a vote, which goes alone for so many seconds at most
abbrev pub alone_by : TableValue → HoldValue → ℕ → Outcome
alone_by table h limit =
    if nat_le limit h.age then outcome_of h (Err Expired)
    else outcome_of h (hold_step table h.last (h.age + 1) h.heard)
