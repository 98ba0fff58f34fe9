use Rattle.std.proofs.Common.{◌∙◌, ◌∷◌, sym, subst}
use Rattle.irig_lines.specs.declared.setup.ClockRules.{ClockRules}
use Rattle.irig_timekeeper.specs.Life.Call.{Tick}
use Rattle.irig_wires.specs.Oscillator.{rate_of}
use Rattle.irig_witness.specs.Watches.{IsWatchOf}
use Rattle.irig_witness.specs.Devices.{lines_on}
use Rattle.irig_witness.specs.Promise.{lines_of}
use Rattle.irig_witness.proofs.VouchLaws.{device, lives_well}
use Rattle.irig_witness.proofs.device.Device.tick.Goals as goal

pub returns-clause-on : goal.returns-clause-on
returns-clause-on g c made symbol start calls is =
    let d = c.args.self.now in
    record {
      lived = c.tick-2.ensures.lived made calls c.args.now is.lived c.low.ensures;
      watch = subst (λ (k : ClockRules). IsWatchOf c.tick.new.self k (lines_on d symbol) start (Tick c.args.now ∷ calls)) is.clock
          (c.tick.ensures (lines_on d symbol) start calls (subst (λ (k : ClockRules). IsWatchOf d.watch k (lines_on d symbol) start calls) (sym is.clock) is.watch));
      clock = is.clock;
    }

pub returns-clause-truth : goal.returns-clause-truth
returns-clause-truth g c t sent made start calls beat u is setup kept told says =
    let d = c.args.self.now in
    let x = lines_of made.rules t sent d.oscillator.first (rate_of d.oscillator.gain_us) in
    let after : IsWatchOf c.tick.new.self made.clock x start (Tick c.args.now ∷ calls) =
    subst (λ (k : ClockRules). IsWatchOf c.tick.new.self k x start (Tick c.args.now ∷ calls)) is.clock
    (c.tick.ensures x start calls (subst (λ (k : ClockRules). IsWatchOf d.watch k x start calls) (sym is.clock) is.watch)) in
    let well = lives_well t x made start (Tick c.args.now ∷ calls) (device t sent d.oscillator.first (rate_of d.oscillator.gain_us) made.rules made.clock made.table setup) (sym after.kept ∙ kept) in
    c.tick-2.ensures.life t x.edges made start c.args.now calls beat u is.lived c.low.ensures well told says
