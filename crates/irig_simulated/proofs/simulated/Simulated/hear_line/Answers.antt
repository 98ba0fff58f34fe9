use Rattle.std.proofs.Common.{rules, ◌≡◌, ◌∙◌, ◌<◌, ◌+◌, ◌*◌, ℕ, Some, true, length, take, refl, sym, ap, arith, subst}
use Rattle.std.specs.Prelude.{slice_get}
use Rattle.std.specs.Option.{option_map}
use Rattle.irig_frame.specs.Symbols.{width_of}
use Rattle.irig_lines.specs.declared.setup.ClockRules.{ClockRules}
use Rattle.irig_vote.specs.Vote.{ports_in}
use Rattle.irig_wires.specs.declared.wires.Wires.{Wires}
use Rattle.irig_wires.specs.Oscillator.{counter_at, rate_of}
use Rattle.irig_wires.specs.Wires.{wire_at}
use Rattle.irig_wires.proofs.OrderLaws.{other_wire}
use Rattle.irig_timekeeper.specs.Unfinished.{most}
use Rattle.irig_simulated.specs.declared.second.LineSecond.{LineSecond}
use Rattle.irig_simulated.specs.Flights.{are_flights}
use Rattle.irig_simulated.specs.Quiet.{sent_at}
use Rattle.irig_simulated.specs.QuietLines.{rise_on}
use Rattle.irig_simulated.specs.Seconds.{symbol_in, true_in}
use Rattle.irig_simulated.proofs.QuietDevices.{brought, rises_at, told_frame}
use Rattle.irig_simulated.proofs.QuietWires.{flying_then, quiet_same, wires_resent}
use Rattle.irig_simulated.proofs.StandsLaws.{sent_line}
use Rattle.irig_simulated.proofs.simulated.Simulated.hear_line.Goals as goal

pub invariant_of-self-clause-flying : goal.invariant_of-self-clause-flying
invariant_of-self-clause-flying g c =
    let self = c.args.self.now in
    let s = c.args.second.now in
    let line = c.args.line in
    let flight = c.in-Some.flight in
    let busy : (wire_at self.wires line).flight ≡ Some flight = sym c.flight.ensures ∙ c.in-Some.is in
    let brings = brought self s line flight busy c.requires.quiet in
    let is_frame : Some c.in-Some-true_frame.frame ≡ option_map (λ (l : LineSecond). l.truth) (slice_get s.lines.items line) = sym c.in-Some-true_frame.is ∙ c.true_frame.ensures in
    let wide : c.width_us.result ≡ width_of (true_in s line most) = c.width_us.ensures.width ∙ ap (λ x. width_of (symbol_in most x)) is_frame in
    let at : s.number * 1000000 + 990000 ≡ sent_at s.number most = omega arith in
    let there : line < ports_in self.device.clock.redundancy = omega (arith, sent_line s line 0 (true_in s line 0) (brings.frame.sends 0 (omega arith)), c.requires.lines) in
    let wires = wires_resent self.wires c.take.new.self c.send.new.self line s.number (s.number * 1000000 + 990000) c.width_us.result flight (true_in s line) c.requires.line busy brings.plugged c.take.ensures.new c.send.ensures at wide in
    subst (λ (k : ClockRules). are_flights (ports_in k.redundancy) c.send.new.self ≡ true) (sym c.hear_unfinished.ensures.set.clock)
    (subst (λ (w : Wires). are_flights (ports_in self.device.clock.redundancy) w ≡ true) (sym wires)
    (flying_then self.device.clock.redundancy self.wires line s.number (true_in s line) flight self.flying there busy))

pub returns-clause-heard : goal.returns-clause-heard
returns-clause-heard g c =
    let self = c.args.self.now in
    let s = c.args.second.now in
    let line = c.args.line in
    let flight = c.in-Some.flight in
    let frame = c.in-Some-true_frame.frame in
    let busy : (wire_at self.wires line).flight ≡ Some flight = sym c.flight.ensures ∙ c.in-Some.is in
    let brings = brought self s line flight busy c.requires.quiet in
    let rises = rises_at self s line flight busy brings in
    let first : c.count_at-first.result ≡ counter_at self.oscillator.first (rate_of self.oscillator.gain_us) (rise_on self s line) = c.count_at-first.ensures.value ∙ ap (counter_at self.oscillator.first (rate_of self.oscillator.gain_us)) rises in
    let last : c.count_at-last.result ≡ counter_at self.oscillator.first (rate_of self.oscillator.gain_us) (rise_on self s line + 980000) = c.count_at-last.ensures.value ∙ ap (λ (t : ℕ). counter_at self.oscillator.first (rate_of self.oscillator.gain_us) (t + 980000)) rises in
    let is_frame : Some frame ≡ option_map (λ (l : LineSecond). l.truth) (slice_get s.lines.items line) = sym c.in-Some-true_frame.is ∙ c.true_frame.ensures in
    let long : length frame ≡ 100 = search rules in
    let wide : c.width_us.result ≡ width_of (true_in s line most) = c.width_us.ensures.width ∙ ap (λ x. width_of (symbol_in most x)) is_frame in
    let at : s.number * 1000000 + 990000 ≡ sent_at s.number most = omega arith in
    record {
      wires = wires_resent self.wires c.take.new.self c.send.new.self line s.number (s.number * 1000000 + 990000) c.width_us.result flight (true_in s line) c.requires.line busy brings.plugged c.take.ensures.new c.send.ensures at wide;
      device = λ k signal symbol start calls of k_first k_rate is.
          told_frame self s line brings c.requires.rate frame is_frame long c.hear_unfinished.new.self c.count_at-first.result c.count_at-last.result c.widths_of-widths_us.result c.widths_of-widths_us.ensures first last c.hear_unfinished.ensures.on k signal symbol start calls of k_first k_rate is;
      oscillator = refl;
      ticking = refl;
      now = refl;
      tick = refl;
      send = refl;
      told = refl;
      clock = c.hear_unfinished.ensures.set.clock;
    }

pub returns-clause-others : goal.returns-clause-others
returns-clause-others g c other few not_line quiet =
    let self = c.args.self.now in
    let line = c.args.line in
    let taken_same = ap (λ (w : Wires). wire_at w other) c.take.ensures.new ∙ other_wire self.wires line _ other c.requires.line few not_line in
    let same = ap (λ (w : Wires). wire_at w other) c.send.ensures ∙ other_wire c.take.new.self line _ other c.requires.line few not_line ∙ taken_same in
    quiet_same self _ c.args.second.now other same refl c.hear_unfinished.ensures.set.clock (λ rise element. c.hear_unfinished.ensures.others other rise element few not_line) quiet
