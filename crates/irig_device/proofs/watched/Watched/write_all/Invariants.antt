use Rattle.std.proofs.Common.{length, ◌-◌, ◌≡◌, ◌≤◌, take}
use Rattle.std.specs.Io.KnownBytes.{Appends}
use Rattle.irig_device.specs.Watched.{device_of, has_failed}
use Rattle.irig_device.proofs.watched.Watched.write_all.Given as goal

abbrev pub invariant-loop-done : goal.invariant-loop-done
invariant-loop-done g l =
    (l.done ≤ length l.bytes)
    × (has_failed l.self ≡ has_failed l.initial.self)
    × Appends (g.W.Write.contents (device_of l.initial.self)) (g.W.Write.contents (device_of l.self)) (take l.done l.bytes)

abbrev pub decreases-loop-done : goal.decreases-loop-done
decreases-loop-done g l = length l.bytes - l.done
