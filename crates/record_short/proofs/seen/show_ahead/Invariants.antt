use Rattle.std.proofs.Common.{◌≡◌, ◌<◌, drop, length}
use Rattle.record_short.specs.Seen.{ahead}
use Rattle.record_short.proofs.seen.show_ahead.Given as goal

-- those that are left decide
abbrev pub invariant-loop-pulse : goal.invariant-loop-pulse
invariant-loop-pulse l = record {
  shown : ahead l.at l.last_us (drop l.pulse-index l.after) l.shown ≡ ahead 200 l.fn.marker.rise_us l.fn.after l.fn.shown;
  there : l.at < 500;
  all : length l.shown ≡ 500;
}
