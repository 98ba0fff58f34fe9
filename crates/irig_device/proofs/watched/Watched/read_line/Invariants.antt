use Rattle.std.proofs.Common.{◌≡◌, ◌≤◌, ◌+◌, ◌-◌, vec_len}
use Rattle.std.specs.Io.KnownBytes.{Consumes}
use Rattle.irig_device.specs.Watched.{device_of, has_failed}
use Rattle.irig_device.specs.Lines.{HasNoNewline}
use Rattle.irig_device.proofs.watched.Watched.read_line.Given as goal

abbrev pub invariant-loop-end : goal.invariant-loop-end
invariant-loop-end g l =
    (vec_len l.line ≤ l.limit)
    × (has_failed l.self ≡ has_failed l.initial.self)
    × HasNoNewline l.line.items
    × Consumes (g.R.Read.remaining (device_of l.initial.self)) (g.R.Read.remaining (device_of l.self)) l.line.items

abbrev pub decreases-loop-end : goal.decreases-loop-end
decreases-loop-end g l = l.limit + 1 - vec_len l.line
