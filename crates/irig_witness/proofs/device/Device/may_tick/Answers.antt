use Rattle.std.specs.Prelude.{◌&&◌}
use Rattle.std.proofs.Common.{◌∙◌, Bool, sym, ap}
use Rattle.irig_lives.specs.Decided.{in_order}
use Rattle.irig_witness.specs.Devices.{lines_on}
use Rattle.irig_witness.proofs.WatchLaws.{tick_is}
use Rattle.irig_witness.proofs.device.Device.may_tick.Goals as goal

pub returns-clause-exact : goal.returns-clause-exact
returns-clause-exact g c made symbol start calls is =
    tick_is c.args.self.now.watch made.clock (lines_on c.args.self.now symbol) start calls is.watch c.args.now
    ∙ ap (λ (b : Bool). b && in_order start made.clock.redundancy calls) (sym c.may_tick.ensures)
