use Rattle.std.proofs.Common.{◌≡◌, ◌∙◌, ℕ, true, sym, ap}
use Rattle.irig_lines.specs.Steps.{is_pulse}
use Rattle.irig_witness.specs.declared.watch.Watch.{Watch}
use Rattle.irig_witness.specs.Witness.{after_rise}
use Rattle.irig_witness.specs.Watches.{with_witness, witness_at}
use Rattle.irig_witness.proofs.WatchLaws.{hears_on, stuck_on}
use Rattle.irig_witness.proofs.watch.Watch.hear.Goals as goal

pub returns : goal.returns
returns c x start calls is element begins symbol =
    let w = c.args.self.now in
    let p = c.args.pulse in
    let line = c.args.line in
    let narrow : is_pulse p.width_us ≡ true = sym c.is_pulse.ensures ∙ c.if-not-is_pulse.false in
    let after = after_rise c.args.clock.now.within.us (x.symbol line) x.edges (witness_at w line) p.element p.rise p.width_us in
    let near : after ≡ after_rise c.args.clock.now.within.us (x.symbol line) x.edges (witness_at w line) (x.near p.rise) p.rise p.width_us =
    ap (λ (j : ℕ). after_rise c.args.clock.now.within.us (x.symbol line) x.edges (witness_at w line) j p.rise p.width_us) element in
    let heard : c.hear_rise.new.self ≡ with_witness w line after =
    c.hear_rise.ensures (x.symbol line) x.edges begins symbol
    ∙ ap (λ (n : ℕ). with_witness w line (after_rise n (x.symbol line) x.edges (witness_at w line) p.element p.rise p.width_us)) c.us.ensures.value in
    hears_on w c.args.clock.now x start calls is line p.rise p.width_us c.requires.line _ after narrow near
    (λ q. ap (λ (v : Watch). witness_at v q) heard) (ap (λ (v : Watch). v.last_tick) heard) c.kept_at_pulse-is_kept.ensures

pub returns-then-not-is_pulse : goal.returns-then-not-is_pulse
returns-then-not-is_pulse c x start calls is element begins symbol =
    stuck_on c.args.self.now c.args.clock.now x start calls is c.args.line c.args.pulse.rise c.args.pulse.width_us c.requires.line (sym c.is_pulse.ensures ∙ c.if-not-is_pulse.true)
