-- Stamps of events by the seconds that were announced last.
-- Source: this project's profile.
use Rattle.std.specs.Prelude.{ℕ, ◌+◌, nat_le, nat_lt, Bool, ◌&&◌, ◌||◌, if◌then◌else◌, IfSome, Option, Some, None}
use Rattle.irig_time.specs.Seconds.{IsValid}
use Rattle.irig_sync.specs.Sync.{clock_gap}
use Rattle.irig_timekeeper.specs.declared.stamp.Announced.{Announced}
use Rattle.irig_timekeeper.specs.declared.stamp.Stamp.{Stamp}

-- an event so far behind a second's edge is stamped by it: if that is a second and the error of the
-- edge at most, or if it comes before the next edge that was announced and that lies less than a
-- second and a half behind, so that there is no second between
abbrev pub serves : (bound next offset : ℕ) → Bool
serves bound next offset =
    nat_le offset (1000000 + bound) || (nat_lt offset next && nat_lt next 1500000)

-- by a second, whose next edge lies so far behind its own, 0 if there is none
abbrev pub stamp_by : Option Announced → (next time : ℕ) → Option Stamp
stamp_by None next time = None
stamp_by (Some a) next time =
    if serves a.bound_us next (clock_gap a.edge_us time)
    then Some (record {
      second = a.second;
      offset_us = clock_gap a.edge_us time;
      bound_us = a.bound_us;
    })
    else None

-- the first of two
abbrev pub first_stamp : Option Stamp → Option Stamp → Option Stamp
first_stamp (Some x) y = Some x
first_stamp None y = y

-- how far the last second's edge lies behind that of the one before, 0 if one of them is not there
abbrev pub next_us : Option Announced → Option Announced → ℕ
next_us None before = 0
next_us (Some last) None = 0
next_us (Some last) (Some before) = clock_gap before.edge_us last.edge_us

-- by the last second, else by the one before
abbrev pub stamp_of : Option Announced → Option Announced → ℕ → Option Stamp
stamp_of last before time =
    first_stamp (stamp_by last 0 time) (stamp_by before (next_us last before) time)

-- the second of a stamp, if one is given, is one of UTC
abbrev pub StampsOfUtc : Option Stamp → Type 0
StampsOfUtc stamp = IfSome stamp (λ s. IsValid s.second)
