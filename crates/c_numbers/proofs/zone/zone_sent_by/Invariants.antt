use Rattle.std.proofs.Common.{◌≡◌, ◌-◌, drop}
use Rattle.c_numbers.specs.Standings.{first_zone}
use Rattle.c_numbers.proofs.zone.zone_sent_by.Given as goal

-- what is left decides
abbrev pub invariant-loop-frame : goal.invariant-loop-frame
invariant-loop-frame l = first_zone (l.enough - 1) l.sent l.sent ≡ first_zone (l.enough - 1) l.sent (drop l.frame-index l.sent)
