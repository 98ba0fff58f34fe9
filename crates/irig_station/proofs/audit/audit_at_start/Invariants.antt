use Rattle.std.proofs.Common.{◌≡◌, drop}
use Rattle.irig_station.specs.StationAudits.{first_device, is_misled_by_table}
use Rattle.irig_station.proofs.audit.audit_at_start.Given as goal

-- the first is among those that are left
abbrev pub invariant-loop-r : goal.invariant-loop-r
invariant-loop-r l = first_device (is_misled_by_table l.timeline) l.r (drop l.r l.devices) ≡ first_device (is_misled_by_table l.timeline) 0 l.devices
