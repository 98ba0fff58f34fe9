use Rattle.std.proofs.Common.{◌≡◌, [], drop, take}
use Rattle.record_short.specs.Seen.{begun_in, newest_first}
use Rattle.record_short.proofs.marker.second_marker.Given as goal

-- those that are left decide
abbrev pub invariant-loop-first : goal.invariant-loop-first
invariant-loop-first l = begun_in (newest_first (take l.first l.pulses)) (drop l.first l.pulses) ≡ begun_in [] l.pulses
