-- The second after a second, as far as what was heard of a leap decides it.
-- Source: the table of docs/FRAME.md; ITU-R TF.460 for leap seconds.
use Rattle.std.specs.Prelude.{ℕ, ◌+◌, ◌==◌, nat_lt, if◌then◌else◌, Option, Some, None}
use Rattle.irig_time.specs.declared.second.UtcSecond.{UtcSecond}
use Rattle.irig_time.specs.declared.mark.Mark.{Mark}
use Rattle.irig_time.specs.declared.mark.Mark.TheVariants.{Unspoken, NoLeap, Insert, Delete}
use Rattle.irig_time.specs.declared.second.TheConstants.{LAST_DAY}
use Rattle.irig_time.specs.Days.{is_month_end}

-- the next second of the same day
abbrev pub plain : UtcSecond → UtcSecond
plain u = record { day = u.day; sod = u.sod + 1 }

-- the first second of the next day, which the last day served has not
abbrev pub next_day : UtcSecond → Option UtcSecond
next_day u = if u.day == LAST_DAY then None else Some (record { day = u.day + 1; sod = 0 })

-- one second on up to this second of the day, and then the next day
abbrev pub next_day_after : ℕ → UtcSecond → Option UtcSecond
next_day_after last u = if nat_lt u.sod last then Some (plain u) else next_day u

-- the second after a second of a month's last day, by the mark of that day
abbrev pub next_at_month_end : UtcSecond → Mark → Option UtcSecond
next_at_month_end u Unspoken =
    if nat_lt u.sod 86398 then Some (plain u) else (if nat_lt u.sod 86400 then None else next_day u)
next_at_month_end u NoLeap = next_day_after 86399 u
next_at_month_end u Insert = next_day_after 86400 u
next_at_month_end u Delete = next_day_after 86398 u

-- the second after a second, by the mark of its day, if that is known
abbrev pub next_of : UtcSecond → Mark → Option UtcSecond
next_of u mark = if is_month_end u.day then next_at_month_end u mark else next_day_after 86399 u
