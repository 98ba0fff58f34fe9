use Rattle.irig_wires.specs.Oscillator.{rate_of}
use Rattle.irig_witness.specs.Witness.{lines_by}
use Rattle.irig_witness.proofs.device.Device.restart.Goals as goal

pub returns-clause-on : goal.returns-clause-on
returns-clause-on g c made symbol before calls is =
    let o = c.args.self.now.oscillator in
    record {
      lived = c.restart.ensures.lived made calls is.lived;
      watch = c.new-self.ensures made.clock (lines_by symbol o.first (rate_of o.gain_us));
      clock = is.clock;
    }
