use Rattle.std.proofs.Common.{◌≡◌, ◌<◌}
use Rattle.irig_reader.specs.Rule.{count_of}
use Rattle.irig_timekeeper.specs.Rule.{missed}
use Rattle.irig_timekeeper.proofs.clock.step_behind.Given as goal

abbrev pub invariant-loop-gone : goal.invariant-loop-gone
invariant-loop-gone g l = record {
  state : l.state ≡ missed l.prefers_frames l.reader_rules (g.T.Leaps.says l.table) l.gone l.fn.state;
  counting : count_of l.state < l.reader_rules.lock_after;
}
