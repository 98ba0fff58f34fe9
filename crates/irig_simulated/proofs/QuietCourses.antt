-- What becomes of a course in a second in which nothing happens to a device but that its lines bring what
-- generators send.
use Rattle.std.proofs.Common.{◌≡◌, ◌∙◌, ℕ, zero, suc, ◌+◌, ◌-◌, ◌*◌, ◌/◌, ◌<◌, ◌≤◌, ◌⊎◌, Bool, true, false, cond, List, [], ◌∷◌, ◌++◌, Option, Some, None, refl, sym, ap, arith, inl, inr, subst}
use Rattle.std.specs.Prelude.{◌==◌, if◌then◌else◌}
use Rattle.std.proofs.lemmas.Bool.{cases_eq, cases_lt, eq-eqb, ne_eqb, lt-ltb}
use Rattle.std.proofs.lemmas.Nat.{mul-le}
use Rattle.irig_frame.specs.declared.symbol.Symbol.{Symbol}
use Rattle.irig_frame.specs.declared.symbol.Symbol.TheVariants.{Zero, One, Marker, Bad}
use Rattle.irig_frame.specs.Symbols.{width_of}
use Rattle.irig_sync.specs.Lines.{Pulse, pulse_at}
use Rattle.irig_lines.specs.Steps.{is_pulse}
use Rattle.irig_timekeeper.specs.Life.{Call, pulses_on}
use Rattle.irig_timekeeper.specs.Life.Call.{Hear}
use Rattle.irig_timekeeper.specs.Unfinished.{AreHears, most, pulses_by}
use Rattle.irig_wires.specs.declared.wire.Flight.{Flight}
use Rattle.irig_wires.specs.declared.wire.Wire.{Wire}
use Rattle.irig_wires.specs.declared.wires.Wires.{Wires}
use Rattle.irig_wires.specs.declared.wires.Ending.{Ending}
use Rattle.irig_wires.specs.declared.wires.Coming.{Coming}
use Rattle.irig_wires.specs.declared.wires.Happening.{Happening}
use Rattle.irig_wires.specs.declared.wires.Happening.TheVariants as happens
use Rattle.irig_wires.specs.Calls.Call.{Take}
use Rattle.irig_wires.specs.Happenings.{coming_of}
use Rattle.irig_wires.specs.Order.{AllEndBehind, ComesFirst, EndsFirst, IsNotBefore, NoneEndsBefore, behind_end}
use Rattle.irig_wires.specs.Wires.{flight_of, sent, taken, wire_at}
use Rattle.irig_wires.proofs.OrderLaws.{comes_first, kept, not_back, other_wire, own_wire}
use Rattle.irig_wires.proofs.OscillatorLaws.{over_a_time}
use Rattle.irig_wires.proofs.WireLaws.{sent_free, taken_busy}
use Rattle.irig_simulated.specs.Kinds.{Kind, count}
use Rattle.irig_simulated.specs.Courses.{Course, coming, happened, heard, most_in, place_heard, played, sent_if, sent_on_all, stepped, width_by}
use Rattle.irig_simulated.specs.Quiet.{IsQuiet, Passes, risen_by, sent_at, wide_by, wire_then, wires_then, with_element}
use Rattle.irig_simulated.proofs.StandsLaws.{played_done, played_on}
use Rattle.irig_simulated.proofs.StretchLaws.{ended_less, flights, flights_few}

-- ---- pulses

width_few : (symbol : Symbol) → width_of symbol ≤ 8000
width_few Zero = omega arith
width_few One = omega arith
width_few Marker = omega arith
width_few Bad = omega arith

-- none is as wide as no pulse is
narrow : (k : Kind) (rise width : ℕ) → k.rate ≤ 1001000 → width ≤ 8000 → is_pulse (width_by k rise (rise + width)) ≡ true
narrow k rise width slow few =
    let most = (over_a_time k.first k.rate rise width).1 in
    let product = mul-le width k.rate 8000 1001000 few slow in
    let counted : width * k.rate / 1000000 ≤ 8008 = omega (arith, product) in
    lt-ltb (width_by k rise (rise + width)) 500000 (omega (arith, most, counted))

under_100 : (place : ℕ) → place < 100 → (place == 100) ≡ false
under_100 place under = ne_eqb place 100 (λ same. omega (arith, same, under))

-- ---- lines

wires_same : (v w : Wires) → ((line : ℕ) → line < 5 → wire_at v line ≡ wire_at w line) → v ≡ w
wires_same v w same =
    ap (λ (x : Wire). let z : Wires = record { a = x; b = v.b; c = v.c; d = v.d; e = v.e } in z) (same 0 (omega arith))
    ∙ ap (λ (x : Wire). let z : Wires = record { a = w.a; b = x; c = v.c; d = v.d; e = v.e } in z) (same 1 (omega arith))
    ∙ ap (λ (x : Wire). let z : Wires = record { a = w.a; b = w.b; c = x; d = v.d; e = v.e } in z) (same 2 (omega arith))
    ∙ ap (λ (x : Wire). let z : Wires = record { a = w.a; b = w.b; c = w.c; d = x; e = v.e } in z) (same 3 (omega arith))
    ∙ ap (λ (x : Wire). let z : Wires = record { a = w.a; b = w.b; c = w.c; d = w.d; e = x } in z) (same 4 (omega arith))

sent_at_line : (symbols : ℕ → Option Symbol) (time : ℕ) (w : Wires) (line : ℕ) → line < 5 → wire_at (sent_on_all symbols time w) line ≡ sent_if (symbols line) time (wire_at w line)
sent_at_line symbols time w zero low = refl
sent_at_line symbols time w (suc zero) low = refl
sent_at_line symbols time w (suc (suc zero)) low = refl
sent_at_line symbols time w (suc (suc (suc zero))) low = refl
sent_at_line symbols time w (suc (suc (suc (suc zero)))) low = refl
sent_at_line symbols time w (suc (suc (suc (suc (suc i))))) low = absurd (omega (arith, low))

then_at_line : (n : ℕ) (on : ℕ → Bool) (symbols : (line element : ℕ) → Symbol) (w : Wires) (line : ℕ) → line < 5 → wire_at (wires_then n on symbols w) line ≡ wire_then n (on line) (symbols line) (wire_at w line)
then_at_line n on symbols w zero low = refl
then_at_line n on symbols w (suc zero) low = refl
then_at_line n on symbols w (suc (suc zero)) low = refl
then_at_line n on symbols w (suc (suc (suc zero))) low = refl
then_at_line n on symbols w (suc (suc (suc (suc zero)))) low = refl
then_at_line n on symbols w (suc (suc (suc (suc (suc i))))) low = absurd (omega (arith, low))

-- a cable that is out brings nothing
sent_out : (symbol : Option Symbol) (time : ℕ) (wire : Wire) → wire.is_plugged ≡ false → sent_if symbol time wire ≡ wire
sent_out None time wire out = refl
sent_out (Some symbol) time wire out = rw out refl

-- ---- time goes on

stepped_as : (k : Kind) (signal : (line element : ℕ) → Option Symbol) (y : Course) (what : Happening) (time : ℕ) → (coming y).what ≡ what → (coming y).time_us ≡ time → stepped k signal y ≡ happened k signal what (record y { now = time })
stepped_as k signal y what time is at =
    ap (λ (h : Happening). happened k signal h (record y { now = (coming y).time_us })) is
    ∙ ap (λ (t : ℕ). happened k signal what (record y { now = t })) at

module _ (k : Kind) (signal : (line element : ℕ) → Option Symbol) (x : Course) (ports n : ℕ) (on : ℕ → Bool) (symbols : (line element : ℕ) → Symbol) (q : IsQuiet k signal x ports n on symbols) where
  abbrev was : (line : ℕ) → Wire
  was line = wire_at x.wires line

  abbrev pulses : (line count : ℕ) → List Pulse
  pulses line count = pulses_by (risen_by k n (was line).late_us) (wide_by k n (was line).late_us (symbols line)) count

  abbrev element : (line j : ℕ) → Flight
  element line j = flight_of (sent_at n j + (was line).late_us) (width_of (symbols line j))

  abbrev ending : (line j : ℕ) → Ending
  ending line j = record { line = line; flight = element line j }

  abbrev call_of : (line j : ℕ) → Call
  call_of line j = Hear line (risen_by k n (was line).late_us j) (wide_by k n (was line).late_us (symbols line) j)

  -- a line that is on has element j on its way, or has told it
  abbrev LineIs : (on told : Bool) → (line j : ℕ) → Wire → List Pulse → Type 0
  LineIs false told line j wire ps = (wire ≡ was line) × (ps ≡ [])
  LineIs true false line j wire ps = (wire ≡ with_element n (symbols line) j (was line)) × (ps ≡ pulses line j)
  LineIs true true line j wire ps = (wire ≡ record (was line) { flight = None }) × (ps ≡ pulses line (suc j))

  -- the course when element j has been sent, and these calls were made since
  abbrev course : (now : ℕ) → List Call → Wires → (j : ℕ) → Course
  course now calls w j = record x { now = now; calls = calls ++ x.calls; wires = w; send = sent_at n (suc j) }

  record Stands (j : ℕ) (told : ℕ → Bool) (now : ℕ) (calls : List Call) (w : Wires) : Type 0 where
    hears : AreHears ports calls
    lines : (line : ℕ) → line < 5 → LineIs (on line) (told line) line j (wire_at w line) (pulses_on line calls)
    ahead : NoneEndsBefore w now
    early : now ≤ sent_at n (suc j)

  as_line : (o p t u : Bool) (line j : ℕ) (wire new : Wire) (ps qs : List Pulse) → o ≡ p → t ≡ u → wire ≡ new → ps ≡ qs → LineIs p u line j new qs → LineIs o t line j wire ps
  as_line o p t u line j wire new ps qs is_on is_told is_wire are h = rw (is_on, is_told, is_wire, are) h

  -- what is on its way on a line is element j, so its line is on and has not told it
  own_element : (o t : Bool) (line j : ℕ) (wire : Wire) (ps : List Pulse) (flight : Flight) → line < 5 → on line ≡ o → LineIs o t line j wire ps → wire.flight ≡ Some flight → (o ≡ true) × (t ≡ false) × (flight ≡ element line j)
  own_element false t line j wire ps flight low off is busy =
      absurd (let at = ap (λ (w : Wire). w.flight) is.0 in let none = (q.silent line low off).none in cc)
  own_element true false line j wire ps flight low is_on is busy =
      (refl, refl, let at = ap (λ (w : Wire). w.flight) is.0 in cc)
  own_element true true line j wire ps flight low is_on is busy =
      absurd (let at = ap (λ (w : Wire). w.flight) is.0 in cc)

  -- it ends before the next one is sent
  ends_soon : (line j : ℕ) → line < 5 → on line ≡ true → (element line j).end_us < sent_at n (suc j)
  ends_soon line j low is_on =
      let few = width_few (symbols line j) in
      let late = (q.brings line low is_on).late in
      omega (arith, few, late)

  -- ---- where it stands, and what comes next

  module _ (j : ℕ) (told : ℕ → Bool) (now : ℕ) (calls : List Call) (w : Wires) (h : Stands j told now calls w) (unfinished : j < most) where
    abbrev next : Coming
    next = coming_of w x.tick (sent_at n (suc j))

    first : ComesFirst w x.tick (sent_at n (suc j)) next
    first = comes_first w x.tick (sent_at n (suc j))

    element_on : (line : ℕ) (flight : Flight) → line < 5 → (wire_at w line).flight ≡ Some flight → (on line ≡ true) × (told line ≡ false) × (flight ≡ element line j)
    element_on line flight low busy = own_element (on line) (told line) line j (wire_at w line) (pulses_on line calls) flight low refl (h.lines line low) busy

    soon : (coming (course now calls w j)).time_us < suc (sent_at n most)
    soon = (let sends = first.sends in let early = h.early in omega (arith, sends, early, unfinished))

    no_tick : next.what ≡ happens.Tick → ⊥
    no_tick is =
        let later : suc (sent_at n most) ≤ next.time_us = subst (λ (o : Option ℕ). IsNotBefore o (suc (sent_at n most))) (first.is_tick is).0 q.tick in
        let sends = first.sends in
        omega (arith, later, sends, unfinished)

    -- a pulse ends, and is heard
    module _ (line : ℕ) (low : line < 5) (is_on : on line ≡ true) (to_come : told line ≡ false) where
      abbrev end : ℕ
      end = (element line j).end_us

      abbrev behind : Wires
      behind = behind_end w (ending line j)

      abbrev told_too : ℕ → Bool
      told_too other = cond (other == line) true (told other)

      on_its_way : LineIs true false line j (wire_at w line) (pulses_on line calls)
      on_its_way =
          as_line true (on line) false (told line) line j (wire_at w line) (wire_at w line) (pulses_on line calls) (pulses_on line calls) (sym is_on) (sym to_come) refl refl (h.lines line low)

      busy : (wire_at w line).flight ≡ Some (element line j)
      busy = ap (λ (v : Wire). v.flight) on_its_way.0

      not_last : (place_heard k (calls ++ x.calls) end (ending line j) == 100) ≡ false
      not_last = under_100 _ (q.goes_on calls line j h.hears low is_on unfinished on_its_way.1)

      heard_is : heard k (course end calls w j) (ending line j) ≡ course end (call_of line j ∷ calls) behind j
      heard_is = rw not_last refl

      freed : wire_at behind line ≡ record (was line) { flight = None }
      freed = own_wire w line (taken end (wire_at w line)) low ∙ elim (taken_busy end (wire_at w line) (element line j) busy) [
        | inl t ↦ t.0 ∙ ap (λ (v : Wire). let free : Wire = record v { flight = None } in free) on_its_way.0
        | inr t ↦ absurd (let late = t.2 in omega (arith, late))
      ]

      pulse_is : is_pulse (wide_by k n (was line).late_us (symbols line) j) ≡ true
      pulse_is = narrow k (sent_at n j + (was line).late_us) (width_of (symbols line j)) q.slow (width_few (symbols line j))

      told_own : pulses_on line (call_of line j ∷ calls) ≡ pulses line (suc j)
      told_own = rw (eq-eqb line line refl, pulse_is) (ap (λ (ps : List Pulse). pulse_at (risen_by k n (was line).late_us j) (wide_by k n (was line).late_us (symbols line) j) ∷ ps) on_its_way.1)

      told_other : (other : ℕ) → ¬ (other ≡ line) → pulses_on other (call_of line j ∷ calls) ≡ pulses_on other calls
      told_other other apart = rw (ne_eqb other line apart) refl

      abbrev LineThen : (other : ℕ) → Type 0
      LineThen other = LineIs (on other) (told_too other) other j (wire_at behind other) (pulses_on other (call_of line j ∷ calls))

      own_then : LineThen line
      own_then =
          let too : told_too line ≡ true = rw (eq-eqb line line refl) refl in
          as_line (on line) true (told_too line) true line j (wire_at behind line) (record (was line) { flight = None }) (pulses_on line (call_of line j ∷ calls)) (pulses line (suc j)) is_on too freed told_own (refl, refl)

      other_then : (other : ℕ) → other < 5 → ¬ (other ≡ line) → LineThen other
      other_then other small apart =
          let too : told_too other ≡ told other = rw (ne_eqb other line apart) refl in
          as_line (on other) (on other) (told_too other) (told other) other j (wire_at behind other) (wire_at w other) (pulses_on other (call_of line j ∷ calls)) (pulses_on other calls) refl too
          (other_wire w line (taken end (wire_at w line)) other low small apart) (told_other other apart) (h.lines other small)

      ended_stands : EndsFirst w (ending line j) → Stands j told_too end (call_of line j ∷ calls) behind
      ended_stands ends = record {
        hears = (q.within line is_on, pulse_is, h.hears);
        lines = λ other small. elim (cases_eq other line) [
          | inl same ↦ subst (λ (i : ℕ). LineThen i) (sym same) own_then
          | inr apart ↦ other_then other small apart
        ];
        ahead = kept w (record { line = line; call = Take end }) end low (omega arith) ends.first;
        early = (let soon = ends_soon line j low is_on in omega (arith, soon));
      }

      ends_next : next.what ≡ happens.End (ending line j) → stepped k signal (course now calls w j) ≡ course end (call_of line j ∷ calls) behind j
      ends_next is =
          let at = (first.is_end (ending line j) is).1 in
          let later = h.ahead line (element line j) (low, busy) in
          stepped_as k signal (course now calls w j) (happens.End (ending line j)) end is (omega (arith, at, later)) ∙ heard_is

    -- generators send
    abbrev next_at : ℕ
    next_at = sent_at n (suc j)

    abbrev all_sent : Wires
    all_sent = sent_on_all (λ line. signal line (100 * n + suc j)) next_at w

    sends_next : next.what ≡ happens.Send → stepped k signal (course now calls w j) ≡ course next_at calls all_sent (suc j)
    sends_next is =
        let at = (first.is_send is).0 in
        let early = h.early in
        let place : next_at / 10000 ≡ 100 * n + suc j = omega arith in
        let later : next_at + 10000 ≡ sent_at n (suc (suc j)) = omega arith in
        stepped_as k signal (course now calls w j) happens.Send next_at is (omega (arith, at, early))
        ∙ ap (λ (i : ℕ). let c : Course = record (course next_at calls (sent_on_all (λ line. signal line i) next_at w) j) { send = next_at + 10000 } in c) place
        ∙ ap (λ (s : ℕ). let c : Course = record (course next_at calls all_sent j) { send = s } in c) later

    sent_on_line : (o t : Bool) (line : ℕ) (wire : Wire) (ps : List Pulse) → line < 5 → on line ≡ o → ((flight : Flight) → wire.flight ≡ Some flight → ⊥) → LineIs o t line j wire ps
        → LineIs o false line (suc j) (sent_if (signal line (100 * n + suc j)) next_at wire) ps
    sent_on_line false t line wire ps low off free is = elim (q.silent line low off).silent [
      | inl out ↦ (let own : wire.is_plugged ≡ false = ap (λ (v : Wire). v.is_plugged) is.0 ∙ out in sent_out (signal line (100 * n + suc j)) next_at wire own ∙ is.0, is.1)
      | inr none ↦ (ap (λ (s : Option Symbol). sent_if s next_at wire) (none (suc j) (omega (arith, unfinished))) ∙ is.0, is.1)
    ]
    sent_on_line true false line wire ps low is_on free is = absurd (free (element line j) (ap (λ (v : Wire). v.flight) is.0))
    sent_on_line true true line wire ps low is_on free is =
        let brings = q.brings line low is_on in (
          ap (λ (s : Option Symbol). sent_if s next_at wire) (brings.sends (suc j) (omega (arith, unfinished)))
              ∙ ap (sent next_at (width_of (symbols line (suc j)))) is.0
              ∙ sent_free next_at (width_of (symbols line (suc j))) (record (was line) { flight = None }) brings.plugged refl,
          is.1,
        )

    line_sent : AllEndBehind w next_at → (line : ℕ) → line < 5 → LineIs (on line) false line (suc j) (wire_at all_sent line) (pulses_on line calls)
    line_sent ends line low =
        let free : (flight : Flight) → (wire_at w line).flight ≡ Some flight → ⊥ = λ flight busy.
        (let own = element_on line flight low busy in
        let sooner = ends_soon line j low own.0 in
        let later : next_at < (element line j).end_us = subst (λ (f : Flight). next_at < f.end_us) own.2 (ends line flight (low, busy)) in
        omega (arith, sooner, later)) in
        as_line (on line) (on line) false false line (suc j) (wire_at all_sent line) (sent_if (signal line (100 * n + suc j)) next_at (wire_at w line)) (pulses_on line calls) (pulses_on line calls) refl refl
        (sent_at_line (λ line. signal line (100 * n + suc j)) next_at w line low) refl (sent_on_line (on line) (told line) line (wire_at w line) (pulses_on line calls) low refl free (h.lines line low))

    sent_stands : AllEndBehind w next_at → Stands (suc j) (λ line. false) next_at calls all_sent
    sent_stands ends = record {
      hears = h.hears;
      lines = line_sent ends;
      ahead = λ line flight on_way.
          (let own = (own_element (on line) false line (suc j) (wire_at all_sent line) (pulses_on line calls) flight on_way.0 refl (line_sent ends line on_way.0) on_way.1).2 in
          subst (λ (f : Flight). next_at ≤ f.end_us) (sym own) (omega arith));
      early = omega arith;
    }

  -- ---- one thing after another

  -- a pulse has ended
  record HasEnded (j : ℕ) (y : Course) (w : Wires) : Type 0 where
    told : ℕ → Bool
    now : ℕ
    calls : List Call
    wires : Wires
    stands : Stands j told now calls wires
    is : stepped k signal y ≡ course now calls wires j
    less : flights wires + 1 ≡ flights w

  -- the next element has been sent
  record HasSent (j : ℕ) (y : Course) : Type 0 where
    calls : List Call
    wires : Wires
    stands : Stands (suc j) (λ line. false) (sent_at n (suc j)) calls wires
    is : stepped k signal y ≡ course (sent_at n (suc j)) calls wires (suc j)

  goes_on : (j : ℕ) (told : ℕ → Bool) (now : ℕ) (calls : List Call) (w : Wires) → Stands j told now calls w → j < most → HasEnded j (course now calls w j) w ⊎ HasSent j (course now calls w j)
  goes_on j told now calls w h unfinished = go (coming_of w x.tick (sent_at n (suc j))).what refl
    where
      first : ComesFirst w x.tick (sent_at n (suc j)) (coming_of w x.tick (sent_at n (suc j)))
      first = comes_first w x.tick (sent_at n (suc j))

      go : (what : Happening) → (coming_of w x.tick (sent_at n (suc j))).what ≡ what → HasEnded j (course now calls w j) w ⊎ HasSent j (course now calls w j)
      go happens.Tick is = absurd (no_tick j told now calls w h unfinished is)
      go happens.Send is = inr (record {
        calls = calls;
        wires = all_sent j told now calls w h unfinished;
        stands = sent_stands j told now calls w h unfinished (subst (λ (t : ℕ). AllEndBehind w t) (first.is_send is).0 (first.is_send is).1);
        is = sends_next j told now calls w h unfinished is;
      })
      go (happens.End e) is =
          let on_way = (first.is_end e is).0.own in
          let own = element_on j told now calls w h unfinished e.line e.flight on_way.0 on_way.1 in
          let same : e ≡ ending e.line j = ap (λ (f : Flight). let it : Ending = record { line = e.line; flight = f } in it) own.2 in
          let as_own = is ∙ ap happens.End same in
          let ends = (first.is_end (ending e.line j) as_own).0 in
          inl (record {
            told = told_too j told now calls w h unfinished e.line on_way.0 own.0 own.1;
            now = (element e.line j).end_us;
            calls = call_of e.line j ∷ calls;
            wires = behind_end w (ending e.line j);
            stands = ended_stands j told now calls w h unfinished e.line on_way.0 own.0 own.1 ends;
            is = ends_next j told now calls w h unfinished e.line on_way.0 own.0 own.1 as_own;
            less = ended_less w (ending e.line j) ends.own;
          })

  -- the last element has been sent
  record Comes (m : ℕ) (y : Course) : Type 0 where
    calls : List Call
    wires : Wires
    stands : Stands most (λ line. false) (sent_at n most) calls wires
    is : played k signal (suc (sent_at n most)) m y ≡ course (sent_at n most) calls wires most

  then_comes : (m : ℕ) (y z : Course) → (coming y).time_us < suc (sent_at n most) → stepped k signal y ≡ z → Comes m z → Comes (suc m) y
  then_comes m y z less is c = record {
    calls = c.calls;
    wires = c.wires;
    stands = c.stands;
    is = played_on k signal (suc (sent_at n most)) m y less ∙ ap (played k signal (suc (sent_at n most)) m) is ∙ c.is;
  }

  -- its pulses end later
  last_comes : (m : ℕ) (calls : List Call) (w : Wires) → Stands most (λ line. false) (sent_at n most) calls w → Comes m (course (sent_at n most) calls w most)
  last_comes m calls w h =
      let ends : NoneEndsBefore w (suc (sent_at n most)) = λ line flight on_way.
      (let own = own_element (on line) false line most (wire_at w line) (pulses_on line calls) flight on_way.0 refl (h.lines line on_way.0) on_way.1 in
      let some = (q.brings line on_way.0 own.0).last in
      subst (λ (f : Flight). suc (sent_at n most) ≤ f.end_us) (sym own.2) (omega (arith, some))) in
      let later = not_back w x.tick (sent_at n (suc most)) (suc (sent_at n most)) ends q.tick (omega arith) in
      record { calls = calls; wires = w; stands = h; is = played_done k signal (suc (sent_at n most)) m (course (sent_at n most) calls w most) (omega (arith, later)) }

  last_as : (m j : ℕ) (calls : List Call) (w : Wires) → most ≡ j → Stands j (λ line. false) (sent_at n j) calls w → Comes m (course (sent_at n j) calls w j)
  last_as m j calls w last = subst (λ (i : ℕ). Stands i (λ line. false) (sent_at n i) calls w → Comes m (course (sent_at n i) calls w i)) last (last_comes m calls w)

  comes : (m j : ℕ) (told : ℕ → Bool) (now : ℕ) (calls : List Call) (w : Wires) → Stands j told now calls w → j < most → 6 * (most - j) + flights w ≤ m → Comes m (course now calls w j)
  comes zero j told now calls w h unfinished enough = absurd (omega (arith, unfinished, enough))
  comes (suc m) j told now calls w h unfinished enough = elim (goes_on j told now calls w h unfinished) [
    | inl e ↦
        let less = e.less in
        then_comes m (course now calls w j) (course e.now e.calls e.wires j) (soon j told now calls w h unfinished) e.is
        (comes m j e.told e.now e.calls e.wires e.stands unfinished (omega (arith, less, enough)))
    | inr s ↦
        let few = flights_few s.wires in
        then_comes m (course now calls w j) (course (sent_at n (suc j)) s.calls s.wires (suc j)) (soon j told now calls w h unfinished) s.is (elim (cases_lt (suc j) most) [
          | inl more ↦ comes m (suc j) (λ line. false) (sent_at n (suc j)) s.calls s.wires s.stands more (omega (arith, few, enough, unfinished))
          | inr done ↦ last_as m (suc j) s.calls s.wires (omega (arith, done, unfinished)) s.stands
        ])
  ]

  -- ---- the whole second

  line_first : (o : Bool) (line : ℕ) → line < 5 → on line ≡ o → LineIs o false line 0 (was line) []
  line_first false line low off = (refl, refl)
  line_first true line low is_on = ((q.brings line low is_on).first, refl)

  begins : Stands 0 (λ line. false) x.now [] x.wires
  begins = record {
    hears = tt;
    lines = λ line low. line_first (on line) line low refl;
    ahead = q.now;
    early = q.early;
  }

  all_comes : (m : ℕ) → 599 ≤ m → Comes m x
  all_comes m enough =
      let same : course x.now [] x.wires 0 ≡ x = ap (λ (s : ℕ). let c : Course = record x { send = s } in c) (sym q.send) in
      let few = flights_few x.wires in
      subst (λ (y : Course). Comes m y) same (comes m 0 (λ line. false) x.now [] x.wires begins (omega arith) (omega (arith, few, enough)))

  wire_last : (o : Bool) (line : ℕ) (wire : Wire) (ps : List Pulse) → LineIs o false line most wire ps → (wire ≡ wire_then n o (symbols line) (was line)) × (ps ≡ (if o then pulses line most else []))
  wire_last false line wire ps is = (is.0, is.1)
  wire_last true line wire ps is = (is.0, is.1)

  passes_by : (m : ℕ) → m ≡ most_in (suc (sent_at n most) - x.now) → Comes m x → Passes k signal x ports n on symbols
  passes_by m enough c =
      let line_last = λ (line : ℕ) (low : line < 5). wire_last (on line) line (wire_at c.wires line) (pulses_on line c.calls) (c.stands.lines line low) in
      let wires : c.wires ≡ wires_then n on symbols x.wires = wires_same c.wires (wires_then n on symbols x.wires) (λ line low. (line_last line low).0 ∙ sym (then_at_line n on symbols x.wires line low)) in
      record {
        calls = c.calls;
        hears = c.stands.hears;
        told = λ line low. (line_last line low).1;
        is = ap (λ (i : ℕ). let z : Course = record (played k signal (suc (sent_at n most)) i x) { now = suc (sent_at n most) } in z) (sym enough)
            ∙ ap (λ (y : Course). let z : Course = record y { now = suc (sent_at n most) } in z) c.is
            ∙ ap (λ (w : Wires). course (suc (sent_at n most)) c.calls w most) wires;
      }

  pub passes : Passes k signal x ports n on symbols
  passes =
      let enough : 599 ≤ most_in (suc (sent_at n most) - x.now) = (let early = q.early in omega (arith, early)) in
      passes_by (most_in (suc (sent_at n most) - x.now)) refl (all_comes (most_in (suc (sent_at n most) - x.now)) enough)
