-- What each fault does to a generator.
-- Source: docs/SCENARIOS.md, the table of faults.
use Rattle.std.specs.Prelude.{ℕ, ◌+◌, ◌-◌, min, nat_lt, if◌then◌else◌, true, false, Option, Some, None, ℤ, pos, negsuc, ◌+ℤ◌, neg_ℤ, int_lt}
use Rattle.irig_control.specs.declared.control.Control.{Control}
use Rattle.irig_gen.specs.declared.fault.GenFault.{GenFault}
use Rattle.irig_gen.specs.declared.fault.GenFault.TheVariants.{Silent, Stuck, Skew, NoPending, FalsePending, Quality, WrongOffset}
use Rattle.irig_time.specs.Timelines.{is_deletion}

-- the nearest offset for which the control bits have room
abbrev pub limited_offset : ℤ → ℤ
limited_offset z =
    if int_lt z (neg_ℤ (pos 31)) then neg_ℤ (pos 31) else (if int_lt (pos 31) z then pos 31 else z)

-- what a fault makes of the control bits
abbrev pub control_with_fault : Option GenFault → Control → Control
control_with_fault None k = k
control_with_fault (Some Silent) k = k
control_with_fault (Some Stuck) k = k
control_with_fault (Some (Skew by)) k = k
control_with_fault (Some NoPending) k = record k { leap_pending = false; leap_delete = false }
control_with_fault (Some (FalsePending leap)) k =
    record k { leap_pending = true; leap_delete = is_deletion (Some leap) }
control_with_fault (Some (Quality q)) k = record k { quality = min q 15 }
control_with_fault (Some (WrongOffset by)) k =
    record k { offset_half_hours = limited_offset (k.offset_half_hours +ℤ by) }

-- an edge so many later, or earlier
abbrev pub skewed_edge : ℕ → ℤ → Option ℕ
skewed_edge edge (pos n) = Some (edge + n)
skewed_edge edge (negsuc n) = if nat_lt edge (n + 1) then None else Some (edge - (n + 1))

-- the edge whose frame is sent at an edge, if the fault was set at edge since
abbrev pub sent_edge : Option GenFault → ℕ → ℕ → Option ℕ
sent_edge None edge since = Some edge
sent_edge (Some Silent) edge since = None
sent_edge (Some Stuck) edge since = Some since
sent_edge (Some (Skew by)) edge since = skewed_edge edge by
sent_edge (Some NoPending) edge since = Some edge
sent_edge (Some (FalsePending leap)) edge since = Some edge
sent_edge (Some (Quality q)) edge since = Some edge
sent_edge (Some (WrongOffset by)) edge since = Some edge
