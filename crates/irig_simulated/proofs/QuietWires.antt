-- The cables of a device that was told a line's frame, but for its last pulse, at once; and what it asks of its other lines.
use Rattle.std.proofs.Common.{◌≡◌, ◌∙◌, ℕ, zero, suc, ◌+◌, ◌*◌, ◌<◌, ◌≤◌, true, Some, None, refl, sym, ap, arith, inl, inr, subst}
use Rattle.std.specs.Prelude.{is_some}
use Rattle.std.proofs.lemmas.Bool.{and_from, le-leb, lt-ltb}
use Rattle.irig_frame.specs.declared.symbol.Symbol.{Symbol}
use Rattle.irig_frame.specs.Symbols.{width_of}
use Rattle.irig_port.specs.declared.port.Port.{Ghosts}
use Rattle.irig_vote.specs.declared.redundancy.Redundancy.{Redundancy}
use Rattle.irig_vote.specs.Vote.{ports_in}
use Rattle.irig_lines.specs.declared.setup.ClockRules.{ClockRules}
use Rattle.irig_lines.specs.Delays.{delay_at}
use Rattle.irig_timekeeper.specs.Unfinished.{most}
use Rattle.irig_wires.specs.declared.oscillator.Oscillator.{Oscillator}
use Rattle.irig_wires.specs.declared.wire.Flight.{Flight}
use Rattle.irig_wires.specs.declared.wire.Wire.{Wire}
use Rattle.irig_wires.specs.declared.wires.Wires.{Wires}
use Rattle.irig_wires.specs.Oscillator.{counter_at, rate_of}
use Rattle.irig_wires.specs.Wires.{flight_of, sent, taken, wire_at, with_wire}
use Rattle.irig_wires.proofs.OrderLaws.{own_wire}
use Rattle.irig_wires.proofs.WireLaws.{sent_free, taken_busy}
use Rattle.irig_witness.specs.Devices.{risen_at, risen_on}
use Rattle.irig_witness.specs.Unfinished.{takes_frame}
use Rattle.irig_simulated.specs.declared.second.Second.{Second}
use Rattle.irig_simulated.specs.declared.simulated.Simulated.{Simulated}
use Rattle.irig_simulated.specs.Flights.{are_flights}
use Rattle.irig_simulated.specs.Quiet.{sent_at, wire_then, with_element}
use Rattle.irig_simulated.specs.QuietLines.{IsQuietOn, is_on, rise_on}
use Rattle.irig_simulated.proofs.FlightLaws.{few_ports, flights_with}

-- the last wire in a place stands
twice : (w : Wires) (line : ℕ) (a b : Wire) → line < 5 → with_wire (with_wire w line a) line b ≡ with_wire w line b
twice w zero a b less = refl
twice w (suc zero) a b less = refl
twice w (suc (suc zero)) a b less = refl
twice w (suc (suc (suc zero))) a b less = refl
twice w (suc (suc (suc (suc zero)))) a b less = refl
twice w (suc (suc (suc (suc (suc n))))) a b less = absurd (omega (arith, less))

-- a wire that is as it was
pub same_wire : (w : Wires) (line : ℕ) → line < 5 → w ≡ with_wire w line (wire_at w line)
same_wire w zero less = refl
same_wire w (suc zero) less = refl
same_wire w (suc (suc zero)) less = refl
same_wire w (suc (suc (suc zero))) less = refl
same_wire w (suc (suc (suc (suc zero)))) less = refl
same_wire w (suc (suc (suc (suc (suc n))))) less = absurd (omega (arith, less))

-- what was on its way is taken, and another pulse is sent
resent : (wire : Wire) (flight : Flight) (now width : ℕ) → wire.flight ≡ Some flight → wire.is_plugged ≡ true
    → sent now width (taken flight.end_us wire) ≡ record wire { flight = Some (flight_of (now + wire.late_us) width) }
resent wire flight now width busy plugged = elim (taken_busy flight.end_us wire flight busy) [
  | inl over ↦ ap (sent now width) over.0 ∙ sent_free now width (record wire { flight = None }) plugged refl
  | inr still ↦ absurd (let late = still.2 in omega (arith, late))
]

pub wires_resent : (w taken_w sent_w : Wires) (line n now width : ℕ) (flight : Flight) (symbols : ℕ → Symbol) → line < 5 → (wire_at w line).flight ≡ Some flight → (wire_at w line).is_plugged ≡ true
    → taken_w ≡ with_wire w line (taken flight.end_us (wire_at w line)) → sent_w ≡ with_wire taken_w line (sent now width (wire_at taken_w line))
    → now ≡ sent_at n most → width ≡ width_of (symbols most) → sent_w ≡ with_wire w line (wire_then n (is_on w line) symbols (wire_at w line))
wires_resent w taken_w sent_w line n now width flight symbols less busy plugged is_taken is_sent at wide =
    let wire = wire_at w line in
    let here : wire_at taken_w line ≡ taken flight.end_us wire = ap (λ (v : Wires). wire_at v line) is_taken ∙ own_wire w line (taken flight.end_us wire) less in
    let on : is_on w line ≡ true = ap is_some busy in
    let element : sent now width (taken flight.end_us wire) ≡ with_element n symbols most wire = resent wire flight now width busy plugged ∙ (let e : record wire { flight = Some (flight_of (now + wire.late_us) width) } ≡ with_element n symbols most wire = rw (at, wide) refl in e) in
    is_sent ∙ ap (λ (v : Wire). with_wire taken_w line (sent now width v)) here ∙ ap (λ (v : Wires). with_wire v line (sent now width (taken flight.end_us wire))) is_taken
    ∙ twice w line (taken flight.end_us wire) (sent now width (taken flight.end_us wire)) less
    ∙ ap (with_wire w line) element ∙ (let e : with_wire w line (with_element n symbols most wire) ≡ with_wire w line (wire_then n (is_on w line) symbols wire) = rw on refl in e)

-- it is a flight as there may be
pub flying_then : (r : Redundancy) (w : Wires) (line n : ℕ) (symbols : ℕ → Symbol) (flight : Flight) → are_flights (ports_in r) w ≡ true → line < ports_in r → (wire_at w line).flight ≡ Some flight
    → are_flights (ports_in r) (with_wire w line (wire_then n (is_on w line) symbols (wire_at w line))) ≡ true
flying_then r w line n symbols flight are less busy =
    let on : is_on w line ≡ true = ap is_some busy in
    let few : line < 5 = omega (arith, less, few_ports r) in
    let is = flights_with (ports_in r) w line (with_element n symbols most (wire_at w line)) few are (and_from _ _ (lt-ltb line (ports_in r) less) (le-leb (sent_at n most + (wire_at w line).late_us) (sent_at n most + (wire_at w line).late_us + width_of (symbols most)) (omega arith))) in
    rw on is

-- what is asked of another line
module _ {P : Type 0} {g : Ghosts P} (d new : Simulated P g) (s : Second) (other : ℕ) (wire : wire_at new.wires other ≡ wire_at d.wires other) (oscillator : new.oscillator ≡ d.oscillator) (clock : new.device.clock ≡ d.device.clock)
    (takes : (rise element : ℕ) → takes_frame new.device other rise element ≡ takes_frame d.device other rise element) where
  rise_same : rise_on new s other ≡ rise_on d s other
  rise_same = ap (λ (v : Wire). sent_at s.number 0 + v.late_us) wire

  risen_same : (rise : ℕ) → risen_on new.device other rise ≡ risen_on d.device other rise
  risen_same rise = ap (λ (c : ClockRules). risen_at rise (delay_at c.delays other)) clock

  count_same : counter_at new.oscillator.first (rate_of new.oscillator.gain_us) (rise_on new s other) ≡ counter_at d.oscillator.first (rate_of d.oscillator.gain_us) (rise_on d s other)
  count_same = ap (λ (o : Oscillator). counter_at o.first (rate_of o.gain_us) (rise_on new s other)) oscillator ∙ ap (counter_at d.oscillator.first (rate_of d.oscillator.gain_us)) rise_same

  pub quiet_same : IsQuietOn d s other → IsQuietOn new s other
  quiet_same (inl brings) = inl (record {
    plugged = ap (λ (v : Wire). v.is_plugged) wire ∙ brings.plugged;
    late = subst (λ (v : Wire). v.late_us ≤ 448) (sym wire) brings.late;
    flight = ap (λ (v : Wire). v.flight) wire ∙ brings.flight ∙ ap (λ (t : ℕ). Some (flight_of t 8000)) (sym rise_same);
    frame = brings.frame;
    takes = takes (risen_on new.device other (counter_at new.oscillator.first (rate_of new.oscillator.gain_us) (rise_on new s other))) (100 * s.number)
        ∙ ap (λ (r : ℕ). takes_frame d.device other r (100 * s.number)) (risen_same (counter_at new.oscillator.first (rate_of new.oscillator.gain_us) (rise_on new s other)) ∙ ap (risen_on d.device other) count_same)
        ∙ brings.takes;
  })
  quiet_same (inr nothing) = inr (record {
    none = ap (λ (v : Wire). v.flight) wire ∙ nothing.none;
    silent = elim nothing.silent [ inl out ↦ inl (ap (λ (v : Wire). v.is_plugged) wire ∙ out) | inr sends ↦ inr sends ];
  })
