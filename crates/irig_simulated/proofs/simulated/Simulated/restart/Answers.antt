use Rattle.std.proofs.Common.{◌∙◌, ℕ, [], ap, subst}
use Rattle.irig_witness.specs.Devices.{IsDeviceOf}
use Rattle.irig_simulated.specs.Courses.{next_tick}
use Rattle.irig_simulated.proofs.StandsLaws.{counted_now, next_same, waited}
use Rattle.irig_simulated.proofs.simulated.Simulated.restart.Goals as goal

pub returns-clause-stands : goal.returns-clause-stands
returns-clause-stands g c k symbol x is =
    let self = c.args.self.now in
    let at = counted_now self k symbol x is c.count_at-now.result c.count_at-now.ensures.value in
    let device = subst (λ (start : ℕ). IsDeviceOf c.restart.new.self k.made symbol start []) at (c.restart.ensures.on k.made symbol x.start x.calls is.device) in
    let wait = waited c.restart.new.self k symbol _ c.count_at-now.result c.wait-wait_us.result x.now [] device c.wait-wait_us.ensures at in
    record {
      device = device;
      ended = tt;
      first = is.first;
      rate = is.rate;
      ticking = is.ticking;
      now = is.now;
      wires = is.wires;
      tick = c.next_tick-self.ensures ∙ next_same self k symbol x is c.wait-wait_us.result ∙ ap (λ (n : ℕ). next_tick k.ticking k.first k.rate x.now n) wait;
      send = is.send;
      told = is.told;
    }
