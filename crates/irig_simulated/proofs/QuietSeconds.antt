-- A device whose lines were told their frames, but for the last pulses, stands where its course does.
use Rattle.std.proofs.Common.{◌≡◌, ◌∙◌, ℕ, zero, suc, ◌+◌, ◌-◌, ◌*◌, ◌%◌, ◌^◌, ◌<◌, ◌≤◌, All, Bool, true, false, List, [], ◌∷◌, ◌++◌, append-nil, append_assoc, Option, Some, None, length, refl, sym, ap, arith, inl, inr, subst}
use Rattle.std.specs.Prelude.{◌==◌, ◌&&◌, if◌then◌else◌, is_some, nat_lt, option_and_then, slice_get}
use Rattle.std.proofs.lemmas.List.Elements.{All-nil}
use Rattle.std.proofs.lemmas.Bool.{and_parts, cases_Bool, lt-ltb, ltb-true}
use Rattle.irig_frame.specs.declared.symbol.Symbol.{Symbol}
use Rattle.irig_frame.specs.declared.symbol.Symbol.TheVariants.{Bad, Marker, One, Zero}
use Rattle.irig_frame.specs.Symbols.{width_of}
use Rattle.irig_sync.specs.Lines.{Pulse, pulse_at}
use Rattle.irig_port.specs.declared.port.Port.{Ghosts}
use Rattle.irig_vote.specs.Vote.{ports_in}
use Rattle.irig_lines.specs.declared.setup.ClockRules.{ClockRules}
use Rattle.irig_lines.specs.Steps.{is_pulse, line_at}
use Rattle.irig_timekeeper.specs.declared.clock.ClockState.{ClockState}
use Rattle.irig_timekeeper.specs.Keeping.{Keeping, place_told}
use Rattle.irig_timekeeper.specs.Life.{Call, pulses_on}
use Rattle.irig_timekeeper.specs.Life.Call.{Hear, Tick}
use Rattle.irig_timekeeper.specs.Lived.{keeping_after}
use Rattle.irig_timekeeper.specs.Unfinished.{AreHears, AreOfAFrame, AreSameByLine, hears, most, pulses_by}
use Rattle.irig_timekeeper.proofs.UnfinishedLaws.{after_both, are_hears, others_hear, own_hears, place_in_frame}
use Rattle.irig_wires.specs.declared.oscillator.Oscillator.{Oscillator}
use Rattle.irig_wires.specs.declared.wire.Flight.{Flight}
use Rattle.irig_wires.specs.declared.wires.Wires.{Wires}
use Rattle.irig_wires.specs.Order.{IsNotBefore, NoneEndsBefore}
use Rattle.irig_wires.specs.Oscillator.{counter_at, rate_of}
use Rattle.irig_wires.specs.Wires.{flight_of, wire_at}
use Rattle.irig_wires.proofs.OscillatorLaws.{monotone}
use Rattle.irig_witness.specs.declared.device.Device.{Device}
use Rattle.irig_witness.specs.Devices.{IsDeviceOf, risen_on}
use Rattle.irig_witness.specs.Witness.{HaveEnded}
use Rattle.irig_witness.proofs.UnfinishedLaws.{device_in_any_order, more_ports, taken}
use Rattle.irig_simulated.specs.declared.second.LineSecond.{LineSecond}
use Rattle.irig_simulated.specs.declared.second.Second.{Second}
use Rattle.irig_simulated.specs.declared.simulated.Simulated.{Simulated}
use Rattle.irig_simulated.specs.Kinds.{Kind, count}
use Rattle.irig_simulated.specs.Courses.{Course, passed}
use Rattle.irig_simulated.specs.Quiet.{BringsAll, BringsNone, IsQuiet, Passes, risen_by, sent_at, wide_by, wires_then}
use Rattle.irig_simulated.specs.QuietLines.{BringsFrame, HearsLine, IsAboutRight, IsQuietOn, calls_on, is_on, rise_on}
use Rattle.irig_simulated.specs.Seconds.{IsSecondOf, sent_in, symbol_sent, true_in}
use Rattle.irig_simulated.specs.Simulations.{IsSimulationOf}
use Rattle.irig_simulated.proofs.FlightLaws.{few_ports}
use Rattle.irig_simulated.proofs.QuietCourses.{passes}
use Rattle.irig_simulated.proofs.QuietDevices.{brought, good, marker_is, silent}
use Rattle.irig_simulated.proofs.QuietPulses.{are_of_a_frame}
use Rattle.irig_simulated.proofs.QuietWidths.{all_ended, ended_by_line}
use Rattle.irig_simulated.proofs.StandsLaws.{keeping_is, later_ended, sent_line}

-- ---- calls that tell pulses of lines

both_hear : (ports : ℕ) (later calls : List Call) → AreHears ports later → AreHears ports calls → AreHears ports (later ++ calls)
both_hear ports [] calls h k = k
both_hear ports (Hear port rise width ∷ later) calls h k = (h.0, h.1, both_hear ports later calls h.2 k)
both_hear ports (Tick now ∷ later) calls h k = absurd h

both_on : (line : ℕ) (later calls : List Call) → pulses_on line (later ++ calls) ≡ pulses_on line later ++ pulses_on line calls
both_on line [] calls = refl
both_on line (Hear port rise width ∷ later) calls = elim (cases_Bool (line == port && is_pulse width)) [
  | inl own ↦ rw own (ap (λ (ps : List Pulse). pulse_at rise width ∷ ps) (both_on line later calls))
  | inr other ↦ rw other (both_on line later calls)
]
both_on line (Tick now ∷ later) calls = both_on line later calls

-- ---- what a line brings

width_some : (symbol : Symbol) → ¬ (symbol ≡ Bad) → 0 < width_of symbol
width_some Zero fine = omega arith
width_some One fine = omega arith
width_some Marker fine = omega arith
width_some Bad fine = absurd (fine refl)

none_sent : (s : Second) (line place other : ℕ) → sent_in s line place ≡ None → sent_in s line other ≡ None
none_sent s line place other none = go (slice_get s.lines.items line) none
  where
    frame_none : (o : Option (List Symbol)) → option_and_then (symbol_sent place) (Some (record { sent = o; truth = [] })) ≡ None → option_and_then (symbol_sent other) (Some (record { sent = o; truth = [] })) ≡ None
    frame_none None none_is = refl
    frame_none (Some frame) none_is = absurd cc

    go : (o : Option LineSecond) → option_and_then (symbol_sent place) o ≡ None → option_and_then (symbol_sent other) o ≡ None
    go None none_is = refl
    go (Some l) none_is = frame_none l.sent none_is

module _ {P : Type 0} {g : Ghosts P} (d : Simulated P g) (s : Second) (about : IsAboutRight (rate_of d.oscillator.gain_us)) (quiet : (line : ℕ) → line < 5 → IsQuietOn d s line)
    (is_send : d.send_us ≡ sent_at s.number 1) (is_now : d.now_us ≤ sent_at s.number 0 + 8000) (is_tick : IsNotBefore d.tick_us (suc (sent_at s.number most)))
    (ports : length s.lines.items ≤ ports_in d.device.clock.redundancy)
    (k : Kind) (signal : ℕ → ℕ → Option Symbol) (symbol : ℕ → ℕ → Symbol) (x : Course) (of : IsSecondOf s signal symbol) (is : IsSimulationOf d k symbol x) where
  abbrev pub n : ℕ
  n = s.number

  abbrev pub on : ℕ → Bool
  on line = nat_lt line 5 && is_on d.wires line

  abbrev pub symbols : ℕ → ℕ → Symbol
  symbols = true_in s

  abbrev pub many : ℕ
  many = ports_in k.made.clock.redundancy

  abbrev pub late : ℕ → ℕ
  late line = (wire_at d.wires line).late_us

  right : IsAboutRight k.rate
  right = subst IsAboutRight is.rate about

  few : many ≤ 5
  few = few_ports k.made.clock.redundancy

  fine : (line j : ℕ) → j < 100 → ¬ (symbols line j ≡ Bad)
  fine line j less = good s line signal symbol of j less

  -- a line that is on
  is_there : (o : Option Flight) → is_some o ≡ true → (flight : Flight) × (o ≡ Some flight)
  is_there None none_is = absurd cc
  is_there (Some flight) there_is = (flight, refl)

  is_none_of : (o : Option Flight) → is_some o ≡ false → o ≡ None
  is_none_of None none_is = refl
  is_none_of (Some flight) none_is = absurd cc

  on_is : (line : ℕ) → line < 5 → on line ≡ is_on d.wires line
  on_is line less = (let low = lt-ltb line 5 less in rw low refl)

  brings : (line : ℕ) → line < 5 → on line ≡ true → BringsFrame d s line
  brings line less there_is =
      let there = is_there (wire_at d.wires line).flight (sym (on_is line less) ∙ there_is) in
      brought d s line there.0 there.1 (quiet line less)

  in_ports : (line : ℕ) → on line ≡ true → line < many
  in_ports line there_is =
      let less : line < 5 = ltb-true line 5 (and_parts _ _ there_is).0 in
      let sends = sent_line s line 0 (symbols line 0) ((brings line less there_is).frame.sends 0 (omega arith)) in
      subst (λ (c : ClockRules). line < ports_in c.redundancy) is.device.clock (omega (arith, sends, ports))

  frame_on : (line : ℕ) → line < 5 → on line ≡ true → AreOfAFrame (risen_by k n (late line)) (wide_by k n (late line) (symbols line))
  frame_on line less there_is =
      let b = brings line less there_is in
      are_of_a_frame k n (late line) (symbols line) right b.late (fine line) b.frame.first b.frame.apart b.frame.last

  brings_all : (line : ℕ) → line < 5 → on line ≡ true → BringsAll n (signal line) (symbols line) (wire_at d.wires line)
  brings_all line less there_is =
      let b = brings line less there_is in
      let wide : width_of (symbols line 0) ≡ 8000 = ap width_of (marker_is (symbols line 0) b.frame.first) in
      record {
        plugged = b.plugged;
        late = omega (arith, b.late);
        first = ap (λ (o : Option Flight). record (wire_at d.wires line) { flight = o }) (b.flight ∙ ap (λ (w : ℕ). Some (flight_of (rise_on d s line) w)) (sym wide));
        sends = λ j small. of.sends line j small ∙ b.frame.sends j small;
        last = width_some (symbols line most) (fine line most (omega arith));
      }

  brings_none : (line : ℕ) → line < 5 → on line ≡ false → BringsNone n (signal line) (wire_at d.wires line)
  brings_none line less none_is =
      let none = is_none_of (wire_at d.wires line).flight (sym (on_is line less) ∙ none_is) in
      let b = silent d s line none (quiet line less) in
      record {
        none = none;
        silent = elim b.silent [ inl out ↦ inl out | inr sends ↦ inr (λ j small. of.sends line j small ∙ none_sent s line 0 j sends) ];
      }

  none_ends : NoneEndsBefore d.wires d.now_us
  none_ends line flight busy =
      let b = brought d s line flight busy.1 (quiet line busy.0) in
      let same : Some flight ≡ Some (flight_of (rise_on d s line) 8000) = sym busy.1 ∙ b.flight in
      let is_flight : flight ≡ flight_of (rise_on d s line) 8000 = cc in
      let ends : flight.end_us ≡ rise_on d s line + 8000 = ap (λ (f : Flight). f.end_us) is_flight in
      omega (arith, ends, is_now)

  goes_on : (calls : List Call) (line j : ℕ) → AreHears many calls → line < 5 → on line ≡ true → j < most
      → pulses_on line calls ≡ pulses_by (risen_by k n (late line)) (wide_by k n (late line) (symbols line)) j
      → place_told (keeping_after k.made (calls ++ x.calls)) line (risen_by k n (late line) j % 2 ^ 32) (wide_by k n (late line) (symbols line) j) < 100
  goes_on calls line j hear less there_is small so =
      let b = brings line less there_is in
      let kept = keeping_is d.device.keeper k.made x.calls is.device.lived in
      let may : ((line_at (keeping_after k.made x.calls).state.lines line).sync.was_marker == 0) ≡ false =
      ap (λ (c : ClockState). (line_at c.lines line).sync.was_marker == 0) (sym kept.state) ∙ (taken d.device line (risen_on d.device line (counter_at d.oscillator.first (rate_of d.oscillator.gain_us) (rise_on d s line))) (100 * s.number) b.takes).0 in
      let at = place_in_frame (keeping_after k.made x.calls) line j (risen_by k n (late line)) (wide_by k n (late line) (symbols line)) calls (more_ports many 5 calls few hear) less (frame_on line less there_is) may small so in
      let there = ap (λ (y : Keeping). place_told y line (risen_by k n (late line) j % 2 ^ 32) (wide_by k n (late line) (symbols line) j)) (after_both (keeping_after k.made []) calls x.calls) in
      omega (arith, there, at, small)

  is_quiet : IsQuiet k signal x many n on symbols
  is_quiet = record {
    slow = omega (arith, right.most);
    send = sym is.send ∙ is_send;
    now = subst (λ (w : Wires). NoneEndsBefore w x.now) is.wires (subst (NoneEndsBefore d.wires) is.now none_ends);
    early = omega (arith, is.now, is_now);
    tick = subst (λ (o : Option ℕ). IsNotBefore o (suc (sent_at n most))) is.tick is_tick;
    few = few;
    within = in_ports;
    brings = λ line less there_is. subst (λ (w : Wires). BringsAll n (signal line) (symbols line) (wire_at w line)) is.wires (brings_all line less there_is);
    silent = λ line less none_is. subst (λ (w : Wires). BringsNone n (signal line) (wire_at w line)) is.wires (brings_none line less none_is);
    goes_on = λ calls line j hear less there_is small so.
        (let same = ap (λ (w : Wires). (wire_at w line).late_us) is.wires in
        subst (λ (l : ℕ). place_told (keeping_after k.made (calls ++ x.calls)) line (risen_by k n l j % 2 ^ 32) (wide_by k n l (symbols line) j) < 100) same
        (goes_on calls line j hear less there_is small (so ∙ ap (λ (l : ℕ). pulses_by (risen_by k n l) (wide_by k n l (symbols line)) j) (sym same))));
  }

  pub passed_by : Passes k signal x many n on symbols
  passed_by = passes k signal x many n on symbols is_quiet

  -- ---- what was told, line after line

  -- the calls of a line
  abbrev calls_of : (line : ℕ) → List Call
  calls_of line = calls_on k n line (is_on d.wires line) (late line) (symbols line)

  hear_of : (line : ℕ) → line < 5 → AreHears many (calls_of line)
  hear_of line less = elim (cases_Bool (is_on d.wires line)) [
    | inl on_it ↦
        let there_is : on line ≡ true = on_is line less ∙ on_it in
        rw on_it (are_hears (risen_by k n (late line)) (wide_by k n (late line) (symbols line)) (frame_on line less there_is) line many most (in_ports line there_is) (omega arith))
    | inr off ↦ rw off tt
  ]

  -- those on the line
  own_of : (line : ℕ) → line < 5 → pulses_on line (calls_of line) ≡ (if on line then pulses_by (risen_by k n (late line)) (wide_by k n (late line) (symbols line)) most else [])
  own_of line less = elim (cases_Bool (is_on d.wires line)) [
    | inl on_it ↦
        let there_is : on line ≡ true = on_is line less ∙ on_it in
        rw (there_is, on_it) (own_hears (risen_by k n (late line)) (wide_by k n (late line) (symbols line)) (frame_on line less there_is) line most (omega arith))
    | inr off ↦ (let gone : on line ≡ false = on_is line less ∙ off in rw (gone, off) refl)
  ]

  -- and on others
  others_of : (line i : ℕ) → line < 5 → (i == line) ≡ false → pulses_on i (calls_of line) ≡ []
  others_of line i less other = elim (cases_Bool (is_on d.wires line)) [
    | inl on_it ↦
        let there_is : on line ≡ true = on_is line less ∙ on_it in
        rw on_it (others_hear (risen_by k n (late line)) (wide_by k n (late line) (symbols line)) (frame_on line less there_is) line most i other)
    | inr off ↦ rw off refl
  ]

  abbrev all_calls : List Call
  all_calls = calls_of 4 ++ (calls_of 3 ++ (calls_of 2 ++ (calls_of 1 ++ calls_of 0)))

  all_hear : AreHears many all_calls
  all_hear =
      both_hear many (calls_of 4) _ (hear_of 4 (omega arith)) (both_hear many (calls_of 3) _ (hear_of 3 (omega arith)) (both_hear many (calls_of 2) _ (hear_of 2 (omega arith))
      (both_hear many (calls_of 1) (calls_of 0) (hear_of 1 (omega arith)) (hear_of 0 (omega arith)))))

  each_on : (i : ℕ) → pulses_on i all_calls ≡ pulses_on i (calls_of 4) ++ (pulses_on i (calls_of 3) ++ (pulses_on i (calls_of 2) ++ (pulses_on i (calls_of 1) ++ pulses_on i (calls_of 0))))
  each_on i =
      both_on i (calls_of 4) _ ∙ ap (λ (ps : List Pulse). pulses_on i (calls_of 4) ++ ps) (both_on i (calls_of 3) _ ∙ ap (λ (ps : List Pulse). pulses_on i (calls_of 3) ++ ps) (both_on i (calls_of 2) _
      ∙ ap (λ (ps : List Pulse). pulses_on i (calls_of 2) ++ ps) (both_on i (calls_of 1) (calls_of 0))))

  told_on : (i : ℕ) → i < 5 → pulses_on i all_calls ≡ pulses_on i (calls_of i)
  told_on zero less = each_on 0 ∙ rw (others_of 4 0 (omega arith) refl, others_of 3 0 (omega arith) refl, others_of 2 0 (omega arith) refl, others_of 1 0 (omega arith) refl) refl
  told_on (suc zero) less = each_on 1 ∙ rw (others_of 4 1 (omega arith) refl, others_of 3 1 (omega arith) refl, others_of 2 1 (omega arith) refl, others_of 0 1 (omega arith) refl) (append-nil (pulses_on 1 (calls_of 1)))
  told_on (suc (suc zero)) less = each_on 2 ∙ rw (others_of 4 2 (omega arith) refl, others_of 3 2 (omega arith) refl, others_of 1 2 (omega arith) refl, others_of 0 2 (omega arith) refl) (append-nil (pulses_on 2 (calls_of 2)))
  told_on (suc (suc (suc zero))) less = each_on 3 ∙ rw (others_of 4 3 (omega arith) refl, others_of 2 3 (omega arith) refl, others_of 1 3 (omega arith) refl, others_of 0 3 (omega arith) refl) (append-nil (pulses_on 3 (calls_of 3)))
  told_on (suc (suc (suc (suc zero)))) less = each_on 4 ∙ rw (others_of 3 4 (omega arith) refl, others_of 2 4 (omega arith) refl, others_of 1 4 (omega arith) refl, others_of 0 4 (omega arith) refl) (append-nil (pulses_on 4 (calls_of 4)))
  told_on (suc (suc (suc (suc (suc i))))) less = absurd (omega (arith, less))

  same_calls : AreSameByLine all_calls passed_by.calls
  same_calls line less =
      told_on line less ∙ own_of line less
      ∙ ap (λ (w : Wires). if on line then pulses_by (risen_by k n (wire_at w line).late_us) (wide_by k n (wire_at w line).late_us (symbols line)) most else []) is.wires
      ∙ sym (passed_by.told line less)

  -- ---- all have ended

  abbrev end_us : ℕ
  end_us = suc (sent_at n most)

  pulse_ended : (line j : ℕ) → j < most → late line ≤ 1999 → risen_by k n (late line) j + wide_by k n (late line) (symbols line) j ≤ count k end_us
  pulse_ended line j less small =
      let rise = sent_at n j + late line in
      let end = rise + width_of (symbols line j) in
      let before = monotone k.first k.rate rise end (omega arith) in
      let upto = monotone k.first k.rate end end_us (omega (arith, less, small, wide_few (symbols line j))) in
      omega (arith, before, upto)
    where
      wide_few : (symbol : Symbol) → width_of symbol ≤ 8000
      wide_few Zero = omega arith
      wide_few One = omega arith
      wide_few Marker = omega arith
      wide_few Bad = omega arith

  ended_on : (line : ℕ) → line < 5 → All (λ (p : Pulse). p.rise + p.width ≤ count k end_us) (pulses_on line passed_by.calls)
  ended_on line less =
      subst (λ (ps : List Pulse). All (λ (p : Pulse). p.rise + p.width ≤ count k end_us) ps) (sym (own_of line less) ∙ sym (told_on line less) ∙ same_calls line less)
      (elim (cases_Bool (on line)) [
        | inl there_is ↦ rw there_is (all_ended (count k end_us) (risen_by k n (late line)) (wide_by k n (late line) (symbols line)) most (λ j small. pulse_ended line j small (let l = (brings line less there_is).late in omega (arith, l))))
        | inr gone ↦ rw gone (All-nil (λ (p : Pulse). p.rise + p.width ≤ count k end_us))
      ])

  pub have_ended : HaveEnded (count k end_us) (passed_by.calls ++ x.calls)
  have_ended =
      ended_by_line (count k end_us) passed_by.calls x.calls (more_ports many 5 passed_by.calls few passed_by.hears)
      (later_ended (count k x.now) (count k end_us) x.calls (monotone k.first k.rate x.now end_us (omega (arith, is.now, is_now))) is.ended) ended_on

  -- ---- a device that was told all of these

  module _ (s1 s2 s3 s4 s5 : Simulated P g) (h0 : HearsLine s d s1 0) (h1 : HearsLine s s1 s2 1) (h2 : HearsLine s s2 s3 2) (h3 : HearsLine s s3 s4 3) (h4 : HearsLine s s4 s5 4) where
    wires1 : s1.wires ≡ record d.wires { a = (wires_then n (is_on d.wires) symbols d.wires).a }
    wires1 = h0.wires

    wires2 : s2.wires ≡ record d.wires { a = (wires_then n (is_on d.wires) symbols d.wires).a; b = (wires_then n (is_on d.wires) symbols d.wires).b }
    wires2 = h1.wires ∙ rw wires1 refl

    wires3 : s3.wires ≡ record (wires_then n (is_on d.wires) symbols d.wires) { d = d.wires.d; e = d.wires.e }
    wires3 = h2.wires ∙ rw wires2 refl

    wires4 : s4.wires ≡ record (wires_then n (is_on d.wires) symbols d.wires) { e = d.wires.e }
    wires4 = h3.wires ∙ rw wires3 refl

    pub wires5 : s5.wires ≡ wires_then n on symbols d.wires
    wires5 = h4.wires ∙ rw wires4 refl

    told1 : IsDeviceOf s1.device k.made symbol x.start (calls_of 0 ++ x.calls)
    told1 = h0.device k signal symbol x.start x.calls of (sym is.first) (sym is.rate) is.device

    told2 : IsDeviceOf s2.device k.made symbol x.start (calls_of 1 ++ (calls_of 0 ++ x.calls))
    told2 =
        subst (λ (w : Wires). IsDeviceOf s2.device k.made symbol x.start (calls_on k n 1 (is_on w 1) (wire_at w 1).late_us (symbols 1) ++ (calls_of 0 ++ x.calls))) wires1
        (h1.device k signal symbol x.start (calls_of 0 ++ x.calls) of (sym is.first ∙ ap (λ (o : Oscillator). o.first) (sym h0.oscillator)) (sym is.rate ∙ ap (λ (o : Oscillator). rate_of o.gain_us) (sym h0.oscillator)) told1)

    osc2 : d.oscillator ≡ s2.oscillator
    osc2 = sym h0.oscillator ∙ sym h1.oscillator

    told3 : IsDeviceOf s3.device k.made symbol x.start (calls_of 2 ++ (calls_of 1 ++ (calls_of 0 ++ x.calls)))
    told3 =
        subst (λ (w : Wires). IsDeviceOf s3.device k.made symbol x.start (calls_on k n 2 (is_on w 2) (wire_at w 2).late_us (symbols 2) ++ (calls_of 1 ++ (calls_of 0 ++ x.calls)))) wires2
        (h2.device k signal symbol x.start (calls_of 1 ++ (calls_of 0 ++ x.calls)) of (sym is.first ∙ ap (λ (o : Oscillator). o.first) osc2) (sym is.rate ∙ ap (λ (o : Oscillator). rate_of o.gain_us) osc2) told2)

    osc3 : d.oscillator ≡ s3.oscillator
    osc3 = osc2 ∙ sym h2.oscillator

    told4 : IsDeviceOf s4.device k.made symbol x.start (calls_of 3 ++ (calls_of 2 ++ (calls_of 1 ++ (calls_of 0 ++ x.calls))))
    told4 =
        subst (λ (w : Wires). IsDeviceOf s4.device k.made symbol x.start (calls_on k n 3 (is_on w 3) (wire_at w 3).late_us (symbols 3) ++ (calls_of 2 ++ (calls_of 1 ++ (calls_of 0 ++ x.calls))))) wires3
        (h3.device k signal symbol x.start (calls_of 2 ++ (calls_of 1 ++ (calls_of 0 ++ x.calls))) of (sym is.first ∙ ap (λ (o : Oscillator). o.first) osc3) (sym is.rate ∙ ap (λ (o : Oscillator). rate_of o.gain_us) osc3) told3)

    osc4 : d.oscillator ≡ s4.oscillator
    osc4 = osc3 ∙ sym h3.oscillator

    told5 : IsDeviceOf s5.device k.made symbol x.start (calls_of 4 ++ (calls_of 3 ++ (calls_of 2 ++ (calls_of 1 ++ (calls_of 0 ++ x.calls)))))
    told5 =
        subst (λ (w : Wires). IsDeviceOf s5.device k.made symbol x.start (calls_on k n 4 (is_on w 4) (wire_at w 4).late_us (symbols 4) ++ (calls_of 3 ++ (calls_of 2 ++ (calls_of 1 ++ (calls_of 0 ++ x.calls)))))) wires4
        (h4.device k signal symbol x.start (calls_of 3 ++ (calls_of 2 ++ (calls_of 1 ++ (calls_of 0 ++ x.calls)))) of (sym is.first ∙ ap (λ (o : Oscillator). o.first) osc4) (sym is.rate ∙ ap (λ (o : Oscillator). rate_of o.gain_us) osc4) told4)

    pub osc5 : s5.oscillator ≡ d.oscillator
    osc5 = h4.oscillator ∙ sym osc4

    in_one : calls_of 4 ++ (calls_of 3 ++ (calls_of 2 ++ (calls_of 1 ++ (calls_of 0 ++ x.calls)))) ≡ all_calls ++ x.calls
    in_one =
        ap (λ (cs : List Call). calls_of 4 ++ (calls_of 3 ++ (calls_of 2 ++ cs))) (sym (append_assoc (calls_of 1) (calls_of 0) x.calls))
        ∙ ap (λ (cs : List Call). calls_of 4 ++ (calls_of 3 ++ cs)) (sym (append_assoc (calls_of 2) (calls_of 1 ++ calls_of 0) x.calls))
        ∙ ap (λ (cs : List Call). calls_of 4 ++ cs) (sym (append_assoc (calls_of 3) (calls_of 2 ++ (calls_of 1 ++ calls_of 0)) x.calls))
        ∙ sym (append_assoc (calls_of 4) (calls_of 3 ++ (calls_of 2 ++ (calls_of 1 ++ calls_of 0))) x.calls)

    device5 : IsDeviceOf s5.device k.made symbol x.start (passed_by.calls ++ x.calls)
    device5 =
        device_in_any_order s5.device k.made symbol x.start all_calls passed_by.calls x.calls all_hear passed_by.hears same_calls
        (subst (IsDeviceOf s5.device k.made symbol x.start) in_one told5)

    pub stands_there : (new : Simulated P g) → new.device ≡ s5.device → new.oscillator ≡ s5.oscillator → new.ticking ≡ s5.ticking → new.wires ≡ s5.wires → new.tick_us ≡ s5.tick_us → new.told ≡ s5.told → new.now_us ≡ end_us → new.send_us ≡ sent_at n 100
        → IsSimulationOf new k symbol (passed k signal end_us x)
    stands_there new device oscillator ticking wires tick told now send =
        subst (IsSimulationOf new k symbol) (sym passed_by.is) (record {
          device = subst (λ (v : Device P g). IsDeviceOf v k.made symbol x.start (passed_by.calls ++ x.calls)) (sym device) device5;
          ended = have_ended;
          first = ap (λ (o : Oscillator). o.first) (oscillator ∙ osc5) ∙ is.first;
          rate = ap (λ (o : Oscillator). rate_of o.gain_us) (oscillator ∙ osc5) ∙ is.rate;
          ticking = ticking ∙ h4.ticking ∙ h3.ticking ∙ h2.ticking ∙ h1.ticking ∙ h0.ticking ∙ is.ticking;
          now = now;
          wires = wires ∙ wires5 ∙ ap (wires_then n on symbols) is.wires;
          tick = tick ∙ h4.tick ∙ h3.tick ∙ h2.tick ∙ h1.tick ∙ h0.tick ∙ is.tick;
          send = send;
          told = rw (told, h4.told, h3.told, h2.told, h1.told, h0.told) is.told;
        })
