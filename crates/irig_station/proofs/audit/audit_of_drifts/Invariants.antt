use Rattle.std.proofs.Common.{◌≡◌, drop}
use Rattle.irig_station.specs.StationAudits.{drifts_beyond, first_device}
use Rattle.irig_station.proofs.audit.audit_of_drifts.Given as goal

-- the first is among those that are left
abbrev pub invariant-loop-r : goal.invariant-loop-r
invariant-loop-r l = first_device drifts_beyond l.r (drop l.r l.devices) ≡ first_device drifts_beyond 0 l.devices
