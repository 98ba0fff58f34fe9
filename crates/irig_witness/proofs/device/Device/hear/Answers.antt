use Rattle.std.proofs.Common.{◌≡◌, ◌∙◌, ℕ, ◌%◌, ◌^◌, ◌∷◌, sym, ap, subst}
use Rattle.irig_lines.specs.declared.setup.ClockRules.{ClockRules}
use Rattle.irig_lines.specs.Delays.{corrected, delay_at}
use Rattle.irig_timekeeper.specs.Keeping.{place_told}
use Rattle.irig_timekeeper.specs.Life.Call.{Hear}
use Rattle.irig_wires.specs.Oscillator.{rate_of}
use Rattle.irig_witness.specs.Elements.{element_near}
use Rattle.irig_witness.specs.Witness.{IsSaidOf}
use Rattle.irig_witness.specs.Watches.{IsWatchOf}
use Rattle.irig_witness.specs.Devices.{lines_on, risen_on}
use Rattle.irig_witness.proofs.DelayLaws.{low_is}
use Rattle.irig_witness.proofs.device.Device.hear.Goals as goal

pub returns-clause-on : goal.returns-clause-on
returns-clause-on g c made symbol start calls is said =
    let d = c.args.self.now in
    let line = c.args.line in
    let rise : c.risen_on.result ≡ risen_on d line c.args.rise_us = c.risen_on.ensures.value in
    let low : corrected c.low.result (delay_at made.clock.delays line) ≡ risen_on d line c.args.rise_us % 2 ^ 32 =
    low_is c.args.rise_us line c.low.result (risen_on d line c.args.rise_us) d.clock made.clock c.low.ensures (sym is.clock) (c.risen_on.ensures.low ∙ ap (λ (n : ℕ). n % 2 ^ 32) rise) in
    let heard : IsWatchOf c.hear.new.self d.clock (lines_on d symbol) start (Hear line c.risen_on.result c.args.width_us ∷ calls) =
    c.hear.ensures (lines_on d symbol) start calls (subst (λ (k : ClockRules). IsWatchOf d.watch k (lines_on d symbol) start calls) (sym is.clock) is.watch) (c.requires.element ∙ ap (element_near d.oscillator.first (rate_of d.oscillator.gain_us)) (sym rise)) c.begins.ensures.value
    (subst (λ (k : ℕ). IsSaidOf (symbol line) k c.args.width_us c.args.symbol) (sym c.requires.element) said) in
    record {
      lived = c.hear-2.ensures.lived made calls (risen_on d line c.args.rise_us) is.lived low;
      watch = subst (λ (k : ClockRules). IsWatchOf c.hear.new.self k (lines_on d symbol) start (Hear line (risen_on d line c.args.rise_us) c.args.width_us ∷ calls)) is.clock
          (subst (λ (n : ℕ). IsWatchOf c.hear.new.self d.clock (lines_on d symbol) start (Hear line n c.args.width_us ∷ calls)) rise heard);
      clock = is.clock;
    }

pub returns-clause-place : goal.returns-clause-place
returns-clause-place g c k is =
    let d = c.args.self.now in
    let line = c.args.line in
    let low : corrected c.low.result (delay_at k.clock.delays line) ≡ risen_on d line c.args.rise_us % 2 ^ 32 =
    low_is c.args.rise_us line c.low.result (risen_on d line c.args.rise_us) d.clock k.clock c.low.ensures (sym is.clock ∙ d.same) (c.risen_on.ensures.low ∙ ap (λ (n : ℕ). n % 2 ^ 32) c.risen_on.ensures.value) in
    ◌∙◌ {b = place_told k line (corrected c.low.result (delay_at k.clock.delays line)) c.args.width_us} (c.hear-2.ensures.place k is) (ap (λ (n : ℕ). place_told k line n c.args.width_us) low)
