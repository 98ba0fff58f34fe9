-- How far one second is from another.
-- Source: docs/OUTPUT.md.
use Rattle.std.specs.Prelude.{ℕ, ◌+◌, ◌-◌, ◌*◌, ◌==◌, ◌&&◌, Bool, true, false, nat_lt, if◌then◌else◌, Option, Some, None}
use Rattle.irig_time.specs.declared.second.UtcSecond.{UtcSecond}
use Rattle.report_log.specs.declared.offset.Offset.{Offset}

-- the place of a second, if every day has 86,400
abbrev pub place : UtcSecond → ℕ
place u = 86400 * u.day + u.sod

-- from 23:59:60 to a later day it is one second more
abbrev pub extra : UtcSecond → UtcSecond → ℕ
extra u v = if (u.sod == 86400) && nat_lt u.day v.day then 1 else 0

-- how many seconds the second one is after the first, and 0 if it is not
abbrev pub seconds_after : UtcSecond → UtcSecond → ℕ
seconds_after u v = (place v + extra u v) - place u

-- how far a second is from the true one, u
abbrev pub offset_from : UtcSecond → UtcSecond → Offset
offset_from u v = record { ahead = seconds_after u v; behind = seconds_after v u }

-- if there are both
abbrev pub offset_between : Option UtcSecond → Option UtcSecond → Option Offset
offset_between (Some u) (Some v) = Some (offset_from u v)
offset_between (Some u) None = None
offset_between None o = None

-- whether two are the same
abbrev pub same_offset : Option Offset → Option Offset → Bool
same_offset (Some a) (Some b) = (a.ahead == b.ahead) && (a.behind == b.behind)
same_offset (Some a) None = false
same_offset None (Some b) = false
same_offset None None = true
