use Rattle.std.proofs.Common.{◌≡◌, ◌<◌, ◌≤◌, take, length}
use Rattle.record_short.specs.Seen.{begins_by, behind, newest_first}
use Rattle.record_short.proofs.seen.show_behind.Given as goal

-- those that are left decide
abbrev pub invariant-loop-left : goal.invariant-loop-left
invariant-loop-left l = record {
  shown : behind l.at l.first_us (newest_first (take l.left l.before)) l.shown ≡ behind 200 l.fn.marker.rise_us (newest_first l.fn.before) l.fn.shown;
  begins : begins_by l.at l.first_us (newest_first (take l.left l.before)) ≡ begins_by 200 l.fn.marker.rise_us (newest_first l.fn.before);
  there : l.at ≤ 200;
  early : l.first_us < 3600000000;
  few : l.left ≤ length l.before;
  all : length l.shown ≡ 500;
}

abbrev pub decreases-loop-left : goal.decreases-loop-left
decreases-loop-left l = l.left
