use Rattle.std.proofs.Common.{◌≡◌, ◌∙◌, ◌∷◌, ℕ, ◌-◌, ◌^◌, true, false, sym, ap, arith, subst}
use Rattle.std.specs.Prelude.{◌==◌, min}
use Rattle.std.proofs.lemmas.Bool.{eq-eqb}
use Rattle.irig_lines.specs.declared.setup.ClockRules.{ClockRules}
use Rattle.irig_vote.specs.Vote.{ports_in}
use Rattle.irig_wires.specs.declared.wires.Wires.{Wires}
use Rattle.irig_wires.specs.Order.{behind_end}
use Rattle.irig_witness.specs.Devices.{HearsOn, element_on}
use Rattle.irig_simulated.specs.Flights.{are_flights}
use Rattle.irig_simulated.specs.Seconds.{asked_of}
use Rattle.irig_simulated.proofs.FlightLaws.{few_ports, flights_taken}
use Rattle.irig_simulated.specs.Courses.{hearing, place_heard, tick_after_frame}
use Rattle.irig_simulated.proofs.StandsLaws.{after_frame_same, heard_device, heard_ended, heard_place, now_is, other_number, waited}
use Rattle.irig_simulated.proofs.simulated.Simulated.hear.Goals as goal

pub invariant_of-self-clause-flying : goal.invariant_of-self-clause-flying
invariant_of-self-clause-flying g c =
    let self = c.args.self.now in
    subst (λ (k : ClockRules). are_flights (ports_in k.redundancy) c.take.new.self ≡ true) (sym c.hear-place.ensures.set.clock)
    (subst (λ (w : Wires). are_flights (ports_in self.device.clock.redundancy) w ≡ true) (sym c.take.ensures.new)
    (flights_taken self.device.clock.redundancy self.wires self.flying c.args.ending.line c.args.ending.flight.end_us (omega (arith, c.requires.line, few_ports self.device.clock.redundancy))))

pub invariant_of-self-else-place-eq100-clause-flying : goal.invariant_of-self-else-place-eq100-clause-flying
invariant_of-self-else-place-eq100-clause-flying g c =
    let self = c.args.self.now in
    subst (λ (k : ClockRules). are_flights (ports_in k.redundancy) c.take.new.self ≡ true) (sym c.hear-place.ensures.set.clock)
    (subst (λ (w : Wires). are_flights (ports_in self.device.clock.redundancy) w ≡ true) (sym c.take.ensures.new)
    (flights_taken self.device.clock.redundancy self.wires self.flying c.args.ending.line c.args.ending.flight.end_us (omega (arith, c.requires.line, few_ports self.device.clock.redundancy))))

pub returns-then-place-eq100-clause-stands : goal.returns-then-place-eq100-clause-stands
returns-then-place-eq100-clause-stands g c k signal symbol x of is =
    let self = c.args.self.now in
    let e = c.args.ending in
    let s = c.args.second.now in
    let now = c.count_at-now.result in
    let rise = c.count_at-rise.result in
    let width = c.min-width_us.result in
    let device = c.hear-place.new.self in
    let asks = c.element-element.ensures.value in
    let told = c.true_symbol-symbol.ensures ∙ ap (asked_of s e.line) asks in
    let wide : width ≡ min (now - rise) (2 ^ 32 - 1) = c.min-width_us.ensures ∙ ap (min (now - rise)) c.from.ensures in
    let on : HearsOn self.device device e.line rise width (asked_of s e.line (element_on self.device e.line rise)) = subst (HearsOn self.device device e.line rise width) told c.hear-place.ensures.on in
    let heard = heard_device self s e device now rise width c.hear-place.result c.count_at-now.ensures.value c.count_at-rise.ensures.value wide on c.hear-place.ensures.place c.requires.rise c.requires.begun c.requires.within k signal symbol x of is in
    let wait = waited device k symbol x.start now c.wait-wait_us.result x.now (hearing k x.now e ∷ x.calls) heard c.wait-wait_us.ensures (now_is self s e device now rise width c.hear-place.result c.count_at-now.ensures.value c.count_at-rise.ensures.value wide on c.hear-place.ensures.place c.requires.rise c.requires.begun c.requires.within k signal symbol x of is) in
    let last : (place_heard k x.calls x.now e == 100) ≡ true = eq-eqb _ 100 (sym (heard_place self s e device now rise width c.hear-place.result c.count_at-now.ensures.value c.count_at-rise.ensures.value wide on c.hear-place.ensures.place c.requires.rise c.requires.begun c.requires.within k signal symbol x of is) ∙ c.if-place-eq100.true) in
    record {
      device = heard;
      ended = heard_ended self s e device now rise width c.hear-place.result c.count_at-now.ensures.value c.count_at-rise.ensures.value wide on c.hear-place.ensures.place c.requires.rise c.requires.begun c.requires.within k signal symbol x of is;
      first = is.first;
      rate = is.rate;
      ticking = is.ticking;
      now = is.now;
      wires = c.take.ensures.new ∙ ap (λ (w : Wires). behind_end w e) is.wires;
      tick = rw last (c.tick_after_frame-self.ensures ∙ after_frame_same self k symbol x is c.wait-wait_us.result ∙ ap (λ (n : ℕ). tick_after_frame k.ticking k.first k.rate x.now n x.tick) wait);
      send = is.send;
      told = is.told;
    }

pub returns-else-place-eq100-clause-stands : goal.returns-else-place-eq100-clause-stands
returns-else-place-eq100-clause-stands g c k signal symbol x of is =
    let self = c.args.self.now in
    let e = c.args.ending in
    let s = c.args.second.now in
    let now = c.count_at-now.result in
    let rise = c.count_at-rise.result in
    let width = c.min-width_us.result in
    let device = c.hear-place.new.self in
    let asks = c.element-element.ensures.value in
    let told = c.true_symbol-symbol.ensures ∙ ap (asked_of s e.line) asks in
    let wide : width ≡ min (now - rise) (2 ^ 32 - 1) = c.min-width_us.ensures ∙ ap (min (now - rise)) c.from.ensures in
    let on : HearsOn self.device device e.line rise width (asked_of s e.line (element_on self.device e.line rise)) = subst (HearsOn self.device device e.line rise width) told c.hear-place.ensures.on in
    record {
      device = heard_device self s e device now rise width c.hear-place.result c.count_at-now.ensures.value c.count_at-rise.ensures.value wide on c.hear-place.ensures.place c.requires.rise c.requires.begun c.requires.within k signal symbol x of is;
      ended = heard_ended self s e device now rise width c.hear-place.result c.count_at-now.ensures.value c.count_at-rise.ensures.value wide on c.hear-place.ensures.place c.requires.rise c.requires.begun c.requires.within k signal symbol x of is;
      first = is.first;
      rate = is.rate;
      ticking = is.ticking;
      now = is.now;
      wires = c.take.ensures.new ∙ ap (λ (w : Wires). behind_end w e) is.wires;
      tick = (let other : (place_heard k x.calls x.now e == 100) ≡ false = other_number _ 100 (λ same. c.if-place-eq100.false (heard_place self s e device now rise width c.hear-place.result c.count_at-now.ensures.value c.count_at-rise.ensures.value wide on c.hear-place.ensures.place c.requires.rise c.requires.begun c.requires.within k signal symbol x of is ∙ same)) in rw other is.tick);
      send = is.send;
      told = is.told;
    }

pub returns-then-place-eq100-clause-kept : goal.returns-then-place-eq100-clause-kept
returns-then-place-eq100-clause-kept g c = c.in_ok-add.ensures

pub returns-else-place-eq100-clause-kept : goal.returns-else-place-eq100-clause-kept
returns-else-place-eq100-clause-kept g c = c.in_ok-add.ensures
