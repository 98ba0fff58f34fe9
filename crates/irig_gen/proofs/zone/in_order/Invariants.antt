use Rattle.std.proofs.Common.{◌≡◌, drop}
use Rattle.irig_gen.specs.Zones.{in_order}
use Rattle.irig_gen.proofs.zone.in_order.Given as goal

abbrev pub invariant-loop-change : goal.invariant-loop-change
invariant-loop-change l = in_order l.before (drop l.change-index l.changes) ≡ in_order 0 l.changes
