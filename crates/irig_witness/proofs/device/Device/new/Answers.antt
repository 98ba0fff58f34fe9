use Rattle.std.proofs.Common.{refl}
use Rattle.irig_wires.specs.Oscillator.{rate_of}
use Rattle.irig_witness.specs.Witness.{lines_by}
use Rattle.irig_witness.proofs.device.Device.new.Goals as goal

pub returns : goal.returns
returns g c = (
  refl,
  refl,
  λ symbol. record {
    lived = c.in_ok-keeper.ensures.lived;
    watch = c.new-2.ensures c.args.clock (lines_by symbol c.args.oscillator.first (rate_of c.args.oscillator.gain_us));
    clock = refl;
  },
)
