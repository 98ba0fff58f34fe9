-- A cable that is left in brings its device just what its generator sends, whatever other lines bring, and
-- however the device is ticked.
use Rattle.std.proofs.Common.{◌≡◌, ◌∙◌, ℕ, zero, suc, ◌+◌, ◌-◌, ◌*◌, ◌/◌, ◌<◌, ◌≤◌, ◌⊎◌, true, false, List, ◌∷◌, Option, Some, None, refl, sym, ap, arith, inl, inr, subst}
use Rattle.std.specs.Prelude.{◌==◌, nat_lt}
use Rattle.std.proofs.lemmas.Bool.{cases_Bool, cases_eq, eq-eqb, ltb-true, lt-ltb, ne_eqb}
use Rattle.std.proofs.lemmas.Nat.{mul-le}
use Rattle.irig_frame.specs.declared.symbol.Symbol.{Symbol}
use Rattle.irig_frame.specs.declared.symbol.Symbol.TheVariants.{Bad, Marker, One, Zero}
use Rattle.irig_frame.specs.Symbols.{width_of}
use Rattle.irig_sync.specs.Lines.{Pulse, pulse_at}
use Rattle.irig_lines.specs.Steps.{is_pulse}
use Rattle.irig_timekeeper.specs.Life.{Call, pulses_on}
use Rattle.irig_timekeeper.specs.Life.Call.{Hear}
use Rattle.irig_wires.specs.declared.wire.Flight.{Flight}
use Rattle.irig_wires.specs.declared.wire.Wire.{Wire}
use Rattle.irig_wires.specs.declared.wires.Wires.{Wires}
use Rattle.irig_wires.specs.declared.wires.Ending.{Ending}
use Rattle.irig_wires.specs.declared.wires.Happening.{Happening}
use Rattle.irig_wires.specs.declared.wires.Happening.TheVariants as happens
use Rattle.irig_wires.specs.Calls.Call.{Take}
use Rattle.irig_wires.specs.Happenings.{coming_of}
use Rattle.irig_wires.specs.Order.{AllEndBehind, NoneEndsBefore, behind_end}
use Rattle.irig_wires.specs.Wires.{flight_of, late_at, taken, wire_at, wire_of, wires_of}
use Rattle.irig_wires.proofs.OrderLaws.{comes_first, kept, other_wire, own_wire}
use Rattle.irig_wires.proofs.OscillatorLaws.{over_a_time}
use Rattle.irig_wires.proofs.WireLaws.{sent_flight, taken_busy}
use Rattle.irig_witness.specs.Elements.{begins_at}
use Rattle.irig_simulated.specs.Kinds.{Kind, MovesOn, count}
use Rattle.irig_simulated.specs.Courses.{Course, begun_with, coming, happened, has_sent, heard, hearing, most_in, passed, played, sent_if, sent_on_all, stepped, told_taken, width_by}
use Rattle.irig_simulated.specs.QuietLines.{latest_us}
use Rattle.irig_simulated.proofs.StretchLaws.{to_its_end}
use Rattle.irig_station.proofs.WholeLaws.{brought, rise_over, width_over, with_sent}

-- ---- pulses and lines

width_few : (symbol : Symbol) → width_of symbol ≤ 8000
width_few Zero = omega arith
width_few One = omega arith
width_few Marker = omega arith
width_few Bad = omega arith

-- none is as wide as no pulse is
narrow : (k : Kind) (rise width : ℕ) → k.rate ≤ 1001000 → width ≤ 8000 → is_pulse (width_by k rise (rise + width)) ≡ true
narrow k rise width slow few =
    let most = (over_a_time k.first k.rate rise width).1 in
    let product = mul-le width k.rate 8000 1001000 few slow in
    let counted : width * k.rate / 1000000 ≤ 8008 = omega (arith, product) in
    lt-ltb (width_by k rise (rise + width)) 500000 (omega (arith, most, counted))

sent_at_line : (symbols : ℕ → Option Symbol) (time : ℕ) (w : Wires) (line : ℕ) → line < 5 → wire_at (sent_on_all symbols time w) line ≡ sent_if (symbols line) time (wire_at w line)
sent_at_line symbols time w zero low = refl
sent_at_line symbols time w (suc zero) low = refl
sent_at_line symbols time w (suc (suc zero)) low = refl
sent_at_line symbols time w (suc (suc (suc zero))) low = refl
sent_at_line symbols time w (suc (suc (suc (suc zero)))) low = refl
sent_at_line symbols time w (suc (suc (suc (suc (suc i))))) low = absurd (omega (arith, low))

-- what is on its way when generators have sent was before, or ends later
old_or_new : (symbol : Option Symbol) (time : ℕ) (wire : Wire) (flight : Flight) → (sent_if symbol time wire).flight ≡ Some flight → (wire.flight ≡ Some flight) ⊎ (time ≤ flight.end_us)
old_or_new None time wire flight on = inl on
old_or_new (Some symbol) time wire flight on = elim (sent_flight time (width_of symbol) wire flight on) [ inl was ↦ inl was | inr new ↦ inr new.1 ]

sent_ahead : (symbols : ℕ → Option Symbol) (time : ℕ) (w : Wires) → NoneEndsBefore w time → NoneEndsBefore (sent_on_all symbols time w) time
sent_ahead symbols time w ahead line flight on =
    let at : (sent_if (symbols line) time (wire_at w line)).flight ≡ Some flight = ap (λ (v : Wire). v.flight) (sym (sent_at_line symbols time w line on.0)) ∙ on.1 in
    elim (old_or_new (symbols line) time (wire_at w line) flight at) [
      | inl was ↦ ahead line flight (on.0, was)
      | inr new ↦ new
    ]

-- ---- one cable

module _ (k : Kind) (slow : k.rate ≤ 1001000) (line : ℕ) (low : line < 5) (late : ℕ) (few : late ≤ latest_us) (was_sent : ℕ → Option Symbol) where
  abbrev element : ℕ → Symbol → Flight
  element i symbol = flight_of (begins_at i + late) (width_of symbol)

  -- all that was sent was told; or all but the last one was, and that is on its way
  abbrev IsBrought : (n : ℕ) → Wire → List Pulse → Type 0
  IsBrought n wire ps = (wire ≡ wire_of late) × (ps ≡ brought k late was_sent n)

  pub record IsOnItsWay (n : ℕ) (wire : Wire) (ps : List Pulse) : Type 0 where
    pub i : ℕ
    pub symbol : Symbol
    pub next : n ≡ suc i
    pub sends : was_sent i ≡ Some symbol
    pub wire_is : wire ≡ record (wire_of late) { flight = Some (element i symbol) }
    pub told : ps ≡ brought k late was_sent i

  -- a course that was never restarted stands where its line has brought so many elements. Nothing is left
  -- undone before now
  pub record Brings (x : Course) : Type 0 where
    pub sent_count : ℕ
    pub start : x.start ≡ count k 0
    pub send : x.send ≡ begins_at sent_count
    pub early : x.now ≤ x.send
    pub ahead : NoneEndsBefore x.wires x.now
    pub line_is : IsBrought sent_count (wire_at x.wires line) (pulses_on line x.calls) ⊎ IsOnItsWay sent_count (wire_at x.wires line) (pulses_on line x.calls)

  -- it brought so many at least
  abbrev GoesTo : (n : ℕ) → Course → Type 0
  GoesTo n x = (y : Brings x) × (n ≤ y.sent_count)

  -- ---- a pulse has ended

  module _ (x : Course) (e : Ending) (t : ℕ) (h : Brings x) (small : e.line < 5) (on_way : (wire_at x.wires e.line).flight ≡ Some e.flight) (ends : t ≡ e.flight.end_us) (early : t ≤ x.send) (still : NoneEndsBefore x.wires t) where
    abbrev wires_after : Wires
    wires_after = behind_end x.wires e

    abbrev calls : List Call
    calls = hearing k t e ∷ x.calls

    abbrev Then : Type 0
    Then = IsBrought h.sent_count (wire_at wires_after line) (pulses_on line calls) ⊎ IsOnItsWay h.sent_count (wire_at wires_after line) (pulses_on line calls)

    other_ended : ¬ (line ≡ e.line) → Then
    other_ended apart =
        let wire = other_wire x.wires e.line (taken e.flight.end_us (wire_at x.wires e.line)) line small low apart in
        let other : (line == e.line) ≡ false = ne_eqb line e.line apart in
        let ps : pulses_on line calls ≡ pulses_on line x.calls = rw other refl in
        elim h.line_is [
          | inl all ↦ inl (wire ∙ all.0, ps ∙ all.1)
          | inr way ↦ inr (record { i = way.i; symbol = way.symbol; next = way.next; sends = way.sends; wire_is = wire ∙ way.wire_is; told = ps ∙ way.told })
        ]

    own_ended : line ≡ e.line → Then
    own_ended same =
        let busy : (wire_at x.wires line).flight ≡ Some e.flight = subst (λ (i : ℕ). (wire_at x.wires i).flight ≡ Some e.flight) (sym same) on_way in
        elim h.line_is [
          | inl all ↦ absurd (let at = ap (λ (v : Wire). v.flight) all.0 in cc)
          | inr way ↦
              let i = way.i in
              let symbol = way.symbol in
              let at = ap (λ (v : Wire). v.flight) way.wire_is in
              let flight : e.flight ≡ element i symbol = cc in
              let freed : wire_at wires_after line ≡ wire_of late =
              subst (λ (j : ℕ). wire_at wires_after j ≡ wire_of late) (sym same)
              (own_wire x.wires e.line (taken e.flight.end_us (wire_at x.wires e.line)) small ∙ elim (taken_busy e.flight.end_us (wire_at x.wires e.line) e.flight on_way) [
                | inl free ↦ free.0 ∙ ap (λ (v : Wire). let free : Wire = record v { flight = None } in free) (subst (λ (j : ℕ). wire_at x.wires j ≡ record (wire_of late) { flight = Some (element i symbol) }) same way.wire_is)
                | inr not_yet ↦ absurd (let later = not_yet.2 in omega (arith, later))
              ]) in
              let rise : e.flight.rise_us ≡ begins_at i + late = ap (λ (f : Flight). f.rise_us) flight in
              let end : t ≡ begins_at i + late + width_of symbol = ends ∙ ap (λ (f : Flight). f.end_us) flight in
              let call : hearing k t e ≡ Hear line (rise_over k late i) (width_over k late i symbol) =
              ap (λ (j : ℕ). hearing k t (let it : Ending = record { line = j; flight = e.flight } in it)) (sym same)
              ∙ ap (λ (r : ℕ). hearing k t (let it : Ending = record { line = line; flight = record { rise_us = r; end_us = e.flight.end_us } } in it)) rise
              ∙ ap (λ (u : ℕ). Hear line (rise_over k late i) (width_by k (begins_at i + late) u)) end in
              let own : (line == line) ≡ true = eq-eqb line line refl in
              let pulse : is_pulse (width_over k late i symbol) ≡ true = narrow k (begins_at i + late) (width_of symbol) slow (width_few symbol) in
              let told : pulses_on line (Hear line (rise_over k late i) (width_over k late i symbol) ∷ x.calls) ≡ brought k late was_sent (suc i) =
              rw (own, pulse) (ap (λ (ps : List Pulse). pulse_at (rise_over k late i) (width_over k late i symbol) ∷ ps) way.told ∙ ap (λ (o : Option Symbol). with_sent k late i o (brought k late was_sent i)) (sym way.sends)) in
              inl (freed, ap (λ (c : Call). pulses_on line (c ∷ x.calls)) call ∙ told ∙ ap (brought k late was_sent) (sym way.next))
        ]

    end_brings : GoesTo h.sent_count (heard k (record x { now = t }) e)
    end_brings = (
      record {
        sent_count = h.sent_count;
        start = h.start;
        send = h.send;
        early = early;
        ahead = kept x.wires (record { line = e.line; call = Take e.flight.end_us }) t small (omega (arith, ends)) still;
        line_is = elim (cases_eq line e.line) [ inl same ↦ own_ended same | inr apart ↦ other_ended apart ];
      },
      omega arith,
    )

  -- ---- generators send

  module _ (signal : (line element : ℕ) → Option Symbol) (x : Course) (h : Brings x) (sends : signal line h.sent_count ≡ was_sent h.sent_count) (all_later : AllEndBehind x.wires x.send) where
    abbrev wires : Wires
    wires = sent_on_all (λ l. signal l (x.send / 10000)) x.send x.wires

    -- the line is free
    free : IsBrought h.sent_count (wire_at x.wires line) (pulses_on line x.calls)
    free = elim h.line_is [
      | inl all ↦ all
      | inr way ↦ absurd (
          let later = all_later line (element way.i way.symbol) (low, ap (λ (v : Wire). v.flight) way.wire_is) in
          let wide = width_few way.symbol in
          let at = h.send in
          let next = way.next in
          omega (arith, later, wide, at, next, few)
          )
    ]

    wire_then : wire_at wires line ≡ sent_if (was_sent h.sent_count) (begins_at h.sent_count) (wire_of late)
    wire_then =
        let at = h.send in
        let place : x.send / 10000 ≡ h.sent_count = omega (arith, at) in
        sent_at_line (λ l. signal l (x.send / 10000)) x.send x.wires line low
        ∙ ap (λ (n : ℕ). sent_if (signal line n) x.send (wire_at x.wires line)) place
        ∙ ap (λ (s : Option Symbol). sent_if s x.send (wire_at x.wires line)) sends
        ∙ ap (sent_if (was_sent h.sent_count) x.send) free.0
        ∙ ap (λ (n : ℕ). sent_if (was_sent h.sent_count) n (wire_of late)) at

    line_then : (o : Option Symbol) → was_sent h.sent_count ≡ o → IsBrought (suc h.sent_count) (wire_at wires line) (pulses_on line x.calls) ⊎ IsOnItsWay (suc h.sent_count) (wire_at wires line) (pulses_on line x.calls)
    line_then None none =
        inl (wire_then ∙ ap (λ (s : Option Symbol). sent_if s (begins_at h.sent_count) (wire_of late)) none, free.1 ∙ ap (λ (s : Option Symbol). with_sent k late h.sent_count s (brought k late was_sent h.sent_count)) (sym none))
    line_then (Some symbol) some = inr (record {
      i = h.sent_count;
      symbol = symbol;
      next = refl;
      sends = some;
      wire_is = wire_then ∙ ap (λ (s : Option Symbol). sent_if s (begins_at h.sent_count) (wire_of late)) some;
      told = free.1;
    })

    send_brings : GoesTo h.sent_count (has_sent signal (record x { now = x.send }))
    send_brings = (
      record {
        sent_count = suc h.sent_count;
        start = h.start;
        send = (let at = h.send in omega (arith, at));
        early = omega arith;
        ahead = sent_ahead (λ l. signal l (x.send / 10000)) x.send x.wires (λ l flight on. (let later = all_later l flight on in omega (arith, later)));
        line_is = line_then (was_sent h.sent_count) refl;
      },
      omega arith,
    )

  -- ---- what comes next

  module _ (signal : (line element : ℕ) → Option Symbol) where
    goes_on : (x : Course) (h : Brings x) (t : ℕ) (what : Happening) → t ≡ (coming x).time_us → (coming_of x.wires x.tick x.send).what ≡ what → (what ≡ happens.Send → signal line h.sent_count ≡ was_sent h.sent_count) → GoesTo h.sent_count (happened k signal what (record x { now = t }))
    goes_on x h t (happens.End e) at is sends =
        let first = comes_first x.wires x.tick x.send in
        let end = first.is_end e is in
        let come = h.ahead e.line e.flight end.0.own in
        let time : t ≡ e.flight.end_us = (let own = end.1 in omega (arith, at, own, come)) in
        let early : t ≤ x.send = (let own = first.sends in let now = h.early in omega (arith, at, own, now)) in
        end_brings x e t h end.0.own.0 end.0.own.1 time early (λ l flight on. (let later = end.0.first l flight on in omega (arith, time, later)))
    goes_on x h t happens.Tick at is sends =
        let first = comes_first x.wires x.tick x.send in (
          record {
            sent_count = h.sent_count;
            start = h.start;
            send = h.send;
            early = (let own = first.sends in let now = h.early in omega (arith, at, own, now));
            ahead = λ l flight on. (let old = h.ahead l flight on in let own = first.ends l flight on in omega (arith, at, old, own));
            line_is = h.line_is;
          },
          omega arith,
        )
    goes_on x h t happens.Send at is sends =
        let first = comes_first x.wires x.tick x.send in
        let send = first.is_send is in
        let now = h.early in
        let own = send.0 in
        let time : x.send ≡ t = omega (arith, at, own, now) in
        let all_later : AllEndBehind x.wires x.send = subst (AllEndBehind x.wires) own send.1 in
        subst (λ (n : ℕ). GoesTo h.sent_count (has_sent signal (record x { now = n }))) time (send_brings signal x h (sends refl) all_later)

    stepped_brings : (x : Course) (h : Brings x) → ((coming_of x.wires x.tick x.send).what ≡ happens.Send → signal line h.sent_count ≡ was_sent h.sent_count) → GoesTo h.sent_count (stepped k signal x)
    stepped_brings x h sends = goes_on x h (coming x).time_us (coming x).what refl refl sends

    now_same : (what : Happening) (x : Course) → (happened k signal what x).now ≡ x.now
    now_same (happens.End e) x = refl
    now_same happens.Tick x = refl
    now_same happens.Send x = refl

    -- from an element on the generator sends this
    played_brings : (stop most from : ℕ) (x : Course) (h : Brings x) → x.now ≤ stop → from ≤ h.sent_count → ((e : ℕ) → from ≤ e → begins_at e < stop → signal line e ≡ was_sent e)
        → Brings (played k signal stop most x) × ((played k signal stop most x).now ≤ stop)
    played_brings stop zero from x h early some sends = (h, early)
    played_brings stop (suc most) from x h early some sends = elim (cases_Bool (nat_lt (coming x).time_us stop)) [
      | inr done ↦ rw done (h, early)
      | inl less ↦
          let soon = ltb-true (coming x).time_us stop less in
          let first = comes_first x.wires x.tick x.send in
          let next = stepped_brings x h (λ is. sends h.sent_count some (let own = (first.is_send is).0 in let at = h.send in omega (arith, own, at, soon))) in
          let at = now_same (coming x).what (record x { now = (coming x).time_us }) in
          rw less (played_brings stop most from (stepped k signal x) next.0 (omega (arith, at, soon)) (omega (arith, some, next.1)) sends)
    ]

    module _ (moves : MovesOn k) where
      -- so when time has passed up to another; what began before that was sent
      pub passed_brings : (stop from : ℕ) (x : Course) (h : Brings x) → x.now ≤ stop → from ≤ h.sent_count → ((e : ℕ) → from ≤ e → begins_at e < stop → signal line e ≡ was_sent e)
          → (y : Brings (passed k signal stop x)) × (stop ≤ begins_at y.sent_count)
      passed_brings stop from x h early some sends =
          let y = played k signal stop (most_in (stop - x.now)) x in
          let done = played_brings stop (most_in (stop - x.now)) from x h early some sends in
          let over = to_its_end k moves signal stop x in
          let first = comes_first y.wires y.tick y.send in
          let now = done.1 in
          let late_send : stop ≤ y.send = (let own = first.sends in let was = done.0.early in omega (arith, over, own, was, now)) in
          let at = done.0.send in (
            record {
              sent_count = done.0.sent_count;
              start = done.0.start;
              send = at;
              early = late_send;
              ahead = λ l flight on. (let own = first.ends l flight on in let was = done.0.ahead l flight on in omega (arith, over, own, was, now));
              line_is = done.0.line_is;
            },
            omega (arith, at, late_send),
          )

  -- what was told so far, if a time has come
  pub told_all : (x : Course) (h : Brings x) (time : ℕ) → time ≤ x.now → (n : ℕ) × (pulses_on line x.calls ≡ brought k late was_sent n) × (time ≤ begins_at (suc n))
  told_all x h time past = elim h.line_is [
    | inl all ↦ (h.sent_count, all.1, (let at = h.send in let early = h.early in omega (arith, at, early, past)))
    | inr way ↦ (way.i, way.told, (let at = h.send in let early = h.early in let next = way.next in omega (arith, at, early, past, next)))
  ]

  -- what it told is no part of that
  pub taken_brings : (x : Course) → Brings x → Brings (told_taken x)
  taken_brings x h = record { sent_count = h.sent_count; start = h.start; send = h.send; early = h.early; ahead = h.ahead; line_is = h.line_is }

-- as a device is made, nothing has been sent
pub begun_brings : (k : Kind) (slow : k.rate ≤ 1001000) (line : ℕ) (low : line < 5) (lates : List ℕ) (few : late_at lates line ≤ latest_us) (was_sent : ℕ → Option Symbol) → Brings k slow line low (late_at lates line) few was_sent (begun_with k lates)
begun_brings k slow line low lates few was_sent = record {
  sent_count = 0;
  start = refl;
  send = refl;
  early = omega arith;
  ahead = λ l flight on. omega arith;
  line_is = inl (wire_there line low, refl);
}
  where
    wire_there : (i : ℕ) → i < 5 → wire_at (wires_of lates) i ≡ wire_of (late_at lates i)
    wire_there zero small = refl
    wire_there (suc zero) small = refl
    wire_there (suc (suc zero)) small = refl
    wire_there (suc (suc (suc zero))) small = refl
    wire_there (suc (suc (suc (suc zero)))) small = refl
    wire_there (suc (suc (suc (suc (suc i))))) small = absurd (omega (arith, small))
