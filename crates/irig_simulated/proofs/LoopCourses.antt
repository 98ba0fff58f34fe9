-- A course calls its device as the loops do that announce.
use Rattle.std.proofs.Common.{◌≡◌, ◌∙◌, ℕ, zero, suc, ◌+◌, ◌-◌, ◌*◌, ◌/◌, ◌%◌, ◌^◌, ◌<◌, ◌≤◌, true, List, [], ◌∷◌, ◌++◌, Option, Some, None, refl, sym, ap, arith, inl, inr, subst}
use Rattle.std.specs.Prelude.{◌==◌, ◌&&◌, is_none, is_some, max, nat_lt, ⊤}
use Rattle.std.proofs.lemmas.Nat.{mul-le}
use Rattle.std.proofs.lemmas.Bool.{cases_Bool, cases_lt, eqb-true, eqb-false, ltb-true}
use Rattle.irig_frame.specs.declared.symbol.Symbol.{Symbol}
use Rattle.irig_frame.specs.Symbols.{width_of}
use Rattle.irig_lines.specs.Steps.{is_pulse}
use Rattle.irig_timekeeper.specs.Keeping.{Keeping, place_told, wait_at}
use Rattle.irig_timekeeper.specs.Life.{Call, after_calls, last_tick}
use Rattle.irig_timekeeper.specs.Life.Call.{Hear, Tick}
use Rattle.irig_timekeeper.specs.Lived.{keeping_after}
use Rattle.irig_timekeeper.specs.Loops.{AreMadeInTurn, GoesByLastWait, IsSoonBehind, TicksEach, latest, made_at, named, served_by}
use Rattle.irig_timekeeper.proofs.WaitLoops.{latest_by}
use Rattle.irig_wires.specs.declared.wire.Flight.{Flight}
use Rattle.irig_wires.specs.declared.wire.Wire.{Wire}
use Rattle.irig_wires.specs.declared.wires.Wires.{Wires}
use Rattle.irig_wires.specs.declared.wires.Ending.{Ending}
use Rattle.irig_wires.specs.declared.wires.Happening.{Happening}
use Rattle.irig_wires.specs.declared.wires.Happening.TheVariants as happens
use Rattle.irig_wires.specs.Oscillator.{counter_at, time_of}
use Rattle.irig_wires.specs.Wires.{added, ended, made_late, plugged, pulled, sent, taken, wire_at, with_wire}
use Rattle.irig_wires.specs.Happenings.{coming_of}
use Rattle.irig_wires.specs.Order.{IsNotBefore, NoneEndsBefore}
use Rattle.irig_wires.proofs.OscillatorLaws.{first_time, monotone, over_a_time}
use Rattle.irig_wires.proofs.OrderLaws.{comes_first, not_back}
use Rattle.irig_simulated.specs.declared.setup.Ticking.{Ticking}
use Rattle.irig_simulated.specs.declared.setup.Ticking.TheVariants.{ByWait, Each, ByHand}
use Rattle.irig_simulated.specs.Kinds.{Kind, MovesOn, count}
use Rattle.irig_simulated.specs.Courses.{Course, begun_anew, begun_with, coming, counted_on, happened, has_sent, heard, hearing, most_in, next_tick, on_line, passed, place_heard, played, sent_if, sent_on, stepped, tick_after_frame, tick_at_first, ticked, told_taken, wait_after, width_by}
use Rattle.irig_simulated.specs.Doings.{AreCounted, Doing, behind, course_behind}
use Rattle.irig_simulated.specs.Doings.Doing.{BeLate, Pass, Plug, Pull, Pulse, Restart, TakeTold, TickByHand}
use Rattle.irig_simulated.proofs.StretchLaws.{to_its_end}

-- ---- the premises of loops, of all calls at once

-- each call is made no earlier than those before it, if its pulse is counted
abbrev pub IsCounted : Call → Type 0
IsCounted (Hear port rise width) = width < 2 ^ 32 - 1
IsCounted (Tick now) = ⊤

abbrev pub InTurn : (start : ℕ) → List Call → Type 0
InTurn start [] = ⊤
InTurn start (call ∷ calls) = (IsCounted call → latest start calls ≤ made_at call) × InTurn start calls

pub turn_of : (start : ℕ) (calls before : List Call) → InTurn start (calls ++ before) → AreCounted calls → AreMadeInTurn start calls before
turn_of start [] before turn counted = tt
turn_of start (Hear port rise width ∷ calls) before turn counted = (let low = turn.0 counted.0 in omega (arith, low), turn_of start calls before turn.1 counted.1)
turn_of start (Tick now ∷ calls) before turn counted = (let low = turn.0 tt in omega (arith, low), turn_of start calls before turn.1 counted)

-- a time comes soon behind the one that was named last, and so each tick
abbrev pub SoonBehind : (late : ℕ) → Keeping → (time : ℕ) → List Call → Type 0
SoonBehind late new time [] = ⊤
SoonBehind late new time (Tick now ∷ calls) = time ≤ named new calls (Tick now) + late
SoonBehind late new time (Hear port rise width ∷ calls) =
    (place_told (after_calls new calls) port (rise % 2 ^ 32) width ≡ 100 → time ≤ named new calls (Hear port rise width) + late)
    × SoonBehind late new (served_by new calls port rise width time) calls

abbrev pub GoesSoon : (late : ℕ) → Keeping → List Call → Type 0
GoesSoon late new [] = ⊤
GoesSoon late new (Hear port rise width ∷ calls) = GoesSoon late new calls
GoesSoon late new (Tick now ∷ calls) = SoonBehind late new now calls × GoesSoon late new calls

soon_of : (late : ℕ) (new : Keeping) (time : ℕ) (calls before : List Call) → SoonBehind late new time (calls ++ before) → IsSoonBehind late new time calls before
soon_of late new time [] before soon = tt
soon_of late new time (Tick now ∷ calls) before soon = soon
soon_of late new time (Hear port rise width ∷ calls) before soon = (soon.0, soon_of late new (served_by new (calls ++ before) port rise width time) calls before soon.1)

pub goes_of : (late : ℕ) (new : Keeping) (calls before : List Call) → GoesSoon late new (calls ++ before) → GoesByLastWait late new calls before
goes_of late new [] before goes = tt
goes_of late new (Hear port rise width ∷ calls) before goes = goes_of late new calls before goes
goes_of late new (Tick now ∷ calls) before goes = (soon_of late new now calls before goes.0, goes_of late new calls before goes.1)

served_less : (new : Keeping) (calls : List Call) (port rise width time then : ℕ) → time ≤ then → served_by new calls port rise width time ≤ served_by new calls port rise width then
served_less new calls port rise width time then less = elim (cases_Bool (place_told (after_calls new calls) port (rise % 2 ^ 32) width == 100)) [
  | inr other ↦ rw other less
  | inl asks ↦ elim (cases_Bool (wait_at (after_calls new (Hear port rise width ∷ calls)) ((rise + width) % 2 ^ 32) == 0)) [
    | inl over ↦ rw (asks, over) less
    | inr ahead ↦ rw (asks, ahead) (omega (arith, less))
  ]
]

-- so does an earlier time
sooner : (late : ℕ) (new : Keeping) (time then : ℕ) (calls : List Call) → time ≤ then → SoonBehind late new then calls → SoonBehind late new time calls
sooner late new time then [] less soon = tt
sooner late new time then (Tick now ∷ calls) less soon = omega (arith, less, soon)
sooner late new time then (Hear port rise width ∷ calls) less soon = (
  λ asks. (let by = soon.0 asks in omega (arith, less, by)),
  sooner late new (served_by new calls port rise width time) (served_by new calls port rise width then) calls (served_less new calls port rise width time then less) soon.1,
)

-- each tick so long at most behind the one before
abbrev pub TicksSo : (most start : ℕ) → List Call → Type 0
TicksSo most start [] = ⊤
TicksSo most start (Hear port rise width ∷ calls) = TicksSo most start calls
TicksSo most start (Tick now ∷ calls) = (now ≤ last_tick start calls + most) × TicksSo most start calls

pub each_of : (most start : ℕ) (calls before : List Call) → TicksSo most start (calls ++ before) → TicksEach most start calls before
each_of most start [] before each = tt
each_of most start (Hear port rise width ∷ calls) before each = each_of most start calls before each
each_of most start (Tick now ∷ calls) before each = (each.0, each_of most start calls before each.1)

-- ---- what is on its way ends now or later, and not before it rises

abbrev IsAhead : (now : ℕ) → Option Flight → Type 0
IsAhead now None = ⊤
IsAhead now (Some flight) = (now ≤ flight.end_us) × (flight.rise_us ≤ flight.end_us)

record AreAhead (now : ℕ) (w : Wires) : Type 0 where
  a : IsAhead now w.a.flight
  b : IsAhead now w.b.flight
  c : IsAhead now w.c.flight
  d : IsAhead now w.d.flight
  e : IsAhead now w.e.flight

ahead_at : (now : ℕ) (w : Wires) (line : ℕ) → AreAhead now w → IsAhead now (wire_at w line).flight
ahead_at now w line are = elim (cases_Bool (line == 0)) [
  | inl a ↦ rw a are.a
  | inr not_a ↦ elim (cases_Bool (line == 1)) [
    | inl b ↦ rw (not_a, b) are.b
    | inr not_b ↦ elim (cases_Bool (line == 2)) [
      | inl c ↦ rw (not_a, not_b, c) are.c
      | inr not_c ↦ elim (cases_Bool (line == 3)) [
        | inl d ↦ rw (not_a, not_b, not_c, d) are.d
        | inr not_d ↦ rw (not_a, not_b, not_c, not_d) are.e
      ]
    ]
  ]
]

ahead_with : (now : ℕ) (w : Wires) (line : ℕ) (wire : Wire) → AreAhead now w → IsAhead now wire.flight → AreAhead now (with_wire w line wire)
ahead_with now w line wire are is = elim (cases_Bool (line == 0)) [
  | inl a ↦ rw a (record { a = is; b = are.b; c = are.c; d = are.d; e = are.e })
  | inr not_a ↦ elim (cases_Bool (line == 1)) [
    | inl b ↦ rw (not_a, b) (record { a = are.a; b = is; c = are.c; d = are.d; e = are.e })
    | inr not_b ↦ elim (cases_Bool (line == 2)) [
      | inl c ↦ rw (not_a, not_b, c) (record { a = are.a; b = are.b; c = is; d = are.d; e = are.e })
      | inr not_c ↦ elim (cases_Bool (line == 3)) [
        | inl d ↦ rw (not_a, not_b, not_c, d) (record { a = are.a; b = are.b; c = are.c; d = is; e = are.e })
        | inr not_d ↦ rw (not_a, not_b, not_c, not_d) (record { a = are.a; b = are.b; c = are.c; d = are.d; e = is })
      ]
    ]
  ]
]

ahead_of : (now : ℕ) (o : Option Flight) (flight : Flight) → o ≡ Some flight → IsAhead now o → (now ≤ flight.end_us) × (flight.rise_us ≤ flight.end_us)
ahead_of now o flight is ahead = subst (IsAhead now) is ahead

none_ends : (now : ℕ) (w : Wires) → AreAhead now w → NoneEndsBefore w now
none_ends now w are line flight on = (ahead_of now (wire_at w line).flight flight on.1 (ahead_at now w line are)).0

-- so at a later time before which none ends
still_ahead : (now time : ℕ) (w : Wires) → AreAhead now w → NoneEndsBefore w time → AreAhead time w
still_ahead now time w are none = record { a = go 0 (omega arith) w.a.flight refl are.a; b = go 1 (omega arith) w.b.flight refl are.b; c = go 2 (omega arith) w.c.flight refl are.c; d = go 3 (omega arith) w.d.flight refl are.d; e = go 4 (omega arith) w.e.flight refl are.e }
  where
    go : (line : ℕ) → line < 5 → (o : Option Flight) → (wire_at w line).flight ≡ o → IsAhead now o → IsAhead time o
    go line low None free ahead = tt
    go line low (Some flight) busy ahead = (none line flight (low, busy), ahead.1)

ahead_sent : (now width : ℕ) (wire : Wire) → IsAhead now wire.flight → IsAhead now (sent now width wire).flight
ahead_sent now width wire is = elim (cases_Bool (wire.is_plugged && is_none wire.flight)) [
  | inl new ↦ rw new (omega arith, omega arith)
  | inr old ↦ rw old is
]

ahead_added : (now width : ℕ) (wire : Wire) → IsAhead now wire.flight → IsAhead now (added now width wire).flight
ahead_added now width wire is = elim (cases_Bool (is_none wire.flight)) [
  | inl new ↦ rw new (omega arith, omega arith)
  | inr old ↦ rw old is
]

ahead_taken : (now time : ℕ) (wire : Wire) → IsAhead now wire.flight → IsAhead now (taken time wire).flight
ahead_taken now time wire is = elim (cases_Bool (is_some (ended time wire.flight))) [
  | inl over ↦ rw over tt
  | inr on ↦ rw on is
]

ahead_if : (now : ℕ) (symbol : Option Symbol) (wire : Wire) → IsAhead now wire.flight → IsAhead now (sent_if symbol now wire).flight
ahead_if now None wire is = is
ahead_if now (Some symbol) wire is = ahead_sent now (width_of symbol) wire is

ahead_on : (symbols : ℕ → Option Symbol) (now line : ℕ) (w : Wires) → AreAhead now w → AreAhead now (sent_on symbols now line w)
ahead_on symbols now line w are = ahead_with now w line (sent_if (symbols line) now (wire_at w line)) are (ahead_if now (symbols line) (wire_at w line) (ahead_at now w line are))

-- ---- when a counter shows so much more

counted_most : (first rate time more : ℕ) → 0 < rate → rate ≤ 1001000 → counter_at first rate (counted_on first rate time more) ≤ counter_at first rate time + more + 1
counted_most first rate time more counts slow = elim (cases_lt time (time_of first rate (counter_at first rate time + more))) [
  | inr over ↦
      let at : counted_on first rate time more ≡ time = omega (arith, over) in
      subst (λ (t : ℕ). counter_at first rate t ≤ counter_at first rate time + more + 1) (sym at) (omega arith)
  | inl ahead ↦
      let wanted = counter_at first rate time + more in
      let s = time_of first rate wanted - 1 in
      let at : counted_on first rate time more ≡ s + 1 = omega (arith, ahead) in
      let less : counter_at first rate s < wanted = elim (cases_lt (counter_at first rate s) wanted) [
        | inl less ↦ less
        | inr enough ↦ absurd (let soon = (first_time first rate wanted s counts).0 enough in omega (arith, soon, ahead))
      ] in
      let one = (over_a_time first rate s 1).1 in
      subst (λ (t : ℕ). counter_at first rate t ≤ counter_at first rate time + more + 1) (sym at) (omega (arith, less, one, slow))
]

counted_now : (first rate time : ℕ) → 0 < rate → counted_on first rate time 0 ≡ time
counted_now first rate time counts =
    let soon = (first_time first rate (counter_at first rate time + 0) time counts).0 (omega arith) in
    omega (arith, soon)

each_most : (first rate time us : ℕ) → rate ≤ 1001000 → us ≤ 94900 → counter_at first rate (time + us) ≤ counter_at first rate time + 95000
each_most first rate time us slow few =
    let most = (over_a_time first rate time us).1 in
    let product = mul-le us rate 94900 1001000 few slow in
    let counted : us * rate / 1000000 ≤ 94999 = omega (arith, product) in
    omega (arith, most, counted)

-- ---- a course

not_before : (tick : Option ℕ) (time then : ℕ) → IsNotBefore tick then → time ≤ then → IsNotBefore tick time
not_before None time then is less = tt
not_before (Some tick) time then is less = omega (arith, is, less)

tick_to_come : (ticking : Ticking) (first rate time wait : ℕ) → IsNotBefore (next_tick ticking first rate time wait) time
tick_to_come ByWait first rate time wait = omega arith
tick_to_come (Each us) first rate time wait = omega arith
tick_to_come ByHand first rate time wait = tt

frame_to_come : (ticking : Ticking) (first rate time wait : ℕ) (tick : Option ℕ) → IsNotBefore tick time → IsNotBefore (tick_after_frame ticking first rate time wait tick) time
frame_to_come ByWait first rate time wait tick is = omega arith
frame_to_come (Each us) first rate time wait tick is = is
frame_to_come ByHand first rate time wait tick is = is

module _ (k : Kind) (moves : MovesOn k) (slow : k.rate ≤ 1001000) where
  abbrev new : Keeping
  new = keeping_after k.made []

  -- the tick that is to come will come soon behind the time that was named last
  record IsReady (x : Course) : Type 0 where
    time : ℕ
    tick : x.tick ≡ Some time
    soon : SoonBehind 2 new (count k time) x.calls

  -- or so long at most behind the tick before
  record IsDue (x : Course) : Type 0 where
    time : ℕ
    tick : x.tick ≡ Some time
    soon : count k time ≤ last_tick x.start x.calls + 95000

  -- nothing is left undone before now, and all calls were made so
  pub record IsOnLoop (x : Course) : Type 0 where
    wires : AreAhead x.now x.wires
    tick : IsNotBefore x.tick x.now
    send : x.now ≤ x.send
    pub by : latest x.start x.calls ≤ count k x.now
    pub turn : InTurn x.start x.calls
    ready : k.ticking ≡ ByWait → IsReady x
    pub goes : k.ticking ≡ ByWait → GoesSoon 2 new x.calls
    due : (us : ℕ) → k.ticking ≡ Each us → us ≤ 94900 → IsDue x
    pub each : (us : ℕ) → k.ticking ≡ Each us → us ≤ 94900 → TicksSo 95000 x.start x.calls

  counted_by : (s t : ℕ) → s ≤ t → count k s ≤ count k t
  counted_by s t less = monotone k.first k.rate s t less

  tick_at : (x : Course) (time : ℕ) → IsNotBefore x.tick x.now → x.tick ≡ Some time → x.now ≤ time
  tick_at x time is at = subst (λ (o : Option ℕ). IsNotBefore o x.now) at is

  -- ---- time goes on to what comes next

  comes_later : (x : Course) → IsOnLoop x → x.now ≤ (coming_of x.wires x.tick x.send).time_us
  comes_later x h = not_back x.wires x.tick x.send x.now (none_ends x.now x.wires h.wires) h.tick h.send

  moved : (x : Course) (time : ℕ) → IsOnLoop x → x.now ≤ time → time ≤ (coming_of x.wires x.tick x.send).time_us → IsOnLoop (record x { now = time })
  moved x time h past early =
      let first = comes_first x.wires x.tick x.send in
      record {
        wires = still_ahead x.now time x.wires h.wires (λ line flight on. (let ends = first.ends line flight on in omega (arith, ends, early)));
        tick = not_before x.tick time (coming_of x.wires x.tick x.send).time_us first.ticks early;
        send = (let sends = first.sends in omega (arith, sends, early));
        by = (let later = counted_by x.now time past in omega (arith, later, h.by));
        turn = h.turn;
        ready = λ is. (let r = h.ready is in record { time = r.time; tick = r.tick; soon = r.soon });
        goes = h.goes;
        due = λ us is few. (let r = h.due us is few in record { time = r.time; tick = r.tick; soon = r.soon });
        each = h.each;
      }

  -- ---- a pulse has ended

  module _ (x : Course) (e : Ending) (h : IsOnLoop x) (risen : e.flight.rise_us ≤ x.now) where
    rise : ℕ
    rise = count k e.flight.rise_us

    abbrev call : Call
    call = hearing k x.now e

    before : count k e.flight.rise_us ≤ count k x.now
    before = counted_by e.flight.rise_us x.now risen

    made_upto : made_at call ≤ count k x.now
    made_upto = omega (arith, before)

    made_now : width_by k e.flight.rise_us x.now < 2 ^ 32 - 1 → made_at call ≡ count k x.now
    made_now narrow = omega (arith, before, narrow)

    -- the last pulse of a frame is counted
    made_last : place_heard k x.calls x.now e ≡ 100 → made_at call ≡ count k x.now
    made_last last = elim (cases_Bool (is_pulse (width_by k e.flight.rise_us x.now))) [
      | inl narrow ↦ made_now (let less = ltb-true (width_by k e.flight.rise_us x.now) 500000 narrow in omega (arith, less))
      | inr wide ↦ absurd (let none : 0 ≡ 100 = rw wide at last in omega (arith, none))
    ]

    -- what it asks for then, but for how long it may be without a tick
    asked_is : place_heard k x.calls x.now e ≡ 100 → wait_at (after_calls new (call ∷ x.calls)) (made_at call % 2 ^ 32) ≡ wait_at (keeping_after k.made (call ∷ x.calls)) (count k x.now % 2 ^ 32)
    asked_is last = ap (λ (n : ℕ). wait_at (after_calls new (call ∷ x.calls)) (n % 2 ^ 32)) (made_last last)

    -- it waits no longer than to the time that it names then
    named_is : place_heard k x.calls x.now e ≡ 100 → count k x.now + wait_after k x.start (call ∷ x.calls) x.now ≤ named new x.calls call
    named_is last = (let asked = asked_is last in let made = made_last last in omega (arith, asked, made))

    -- what was named before serves no later than the tick that was to come
    still_served : (time : ℕ) → place_heard k x.calls x.now e ≡ 100 → (place_heard k x.calls x.now e == 100) ≡ true → count k x.now ≤ time
        → served_by new x.calls e.line (count k e.flight.rise_us) (width_by k e.flight.rise_us x.now) (count k (counted_on k.first k.rate x.now (wait_after k x.start (call ∷ x.calls) x.now))) ≤ time
    still_served time last asks later =
        let wait = wait_at (after_calls new (call ∷ x.calls)) (made_at call % 2 ^ 32) in
        let same = asked_is last in
        elim (cases_Bool (wait == 0)) [
          | inl over ↦
              let zero = eqb-true wait 0 over in
              let none : wait_after k x.start (call ∷ x.calls) x.now ≡ 0 = omega (arith, same, zero) in
              let at : counted_on k.first k.rate x.now (wait_after k x.start (call ∷ x.calls) x.now) ≡ x.now = ap (counted_on k.first k.rate x.now) none ∙ counted_now k.first k.rate x.now moves.counts in
              rw (asks, over) (subst (λ (n : ℕ). count k n ≤ time) (sym at) later)
          | inr ahead ↦ rw (asks, ahead) (let made = made_last last in omega (arith, made, later))
        ]

    ready_heard : k.ticking ≡ ByWait → IsReady (heard k x e)
    ready_heard is = elim (cases_Bool (place_heard k x.calls x.now e == 100)) [
      | inr other ↦
          let r = h.ready is in
          record {
            time = r.time;
            tick = rw other r.tick;
            soon = (λ last. absurd (eqb-false _ 100 other last), rw other r.soon);
          }
      | inl asks ↦
          let r = h.ready is in
          let wait = wait_after k x.start (call ∷ x.calls) x.now in
          let most = counted_most k.first k.rate x.now wait moves.counts slow in
          let later = counted_by x.now r.time (tick_at x r.time h.tick r.tick) in
          record {
            time = counted_on k.first k.rate x.now wait;
            tick = rw asks (ap (λ (t : Ticking). tick_after_frame t k.first k.rate x.now wait x.tick) is);
            soon = (
              λ last. (let at = named_is last in omega (arith, at, most)),
              sooner 2 new (served_by new x.calls e.line (count k e.flight.rise_us) (width_by k e.flight.rise_us x.now) (count k (counted_on k.first k.rate x.now wait))) (count k r.time) x.calls (still_served (count k r.time) (eqb-true _ 100 asks) asks later) r.soon,
            );
          }
    ]

    -- without `wait` it does not ask
    tick_heard : (us : ℕ) → k.ticking ≡ Each us → (heard k x e).tick ≡ x.tick
    tick_heard us is = elim (cases_Bool (place_heard k x.calls x.now e == 100)) [
      | inr other ↦ rw other refl
      | inl asks ↦ rw asks (ap (λ (t : Ticking). tick_after_frame t k.first k.rate x.now (wait_after k x.start (call ∷ x.calls) x.now) x.tick) is)
    ]

    not_before_heard : IsNotBefore (heard k x e).tick x.now
    not_before_heard = elim (cases_Bool (place_heard k x.calls x.now e == 100)) [
      | inr other ↦ rw other h.tick
      | inl asks ↦ rw asks (frame_to_come k.ticking k.first k.rate x.now (wait_after k x.start (call ∷ x.calls) x.now) x.tick h.tick)
    ]

    heard_on : IsOnLoop (heard k x e)
    heard_on = record {
      wires = ahead_with x.now x.wires e.line (taken e.flight.end_us (wire_at x.wires e.line)) h.wires (ahead_taken x.now e.flight.end_us (wire_at x.wires e.line) (ahead_at x.now x.wires e.line h.wires));
      tick = not_before_heard;
      send = h.send;
      by = latest_by x.start (count k x.now) call x.calls h.by made_upto;
      turn = (λ narrow. (let at = made_now narrow in omega (arith, at, h.by)), h.turn);
      ready = ready_heard;
      goes = λ is. h.goes is;
      due = λ us is few. (let r = h.due us is few in record { time = r.time; tick = tick_heard us is ∙ r.tick; soon = r.soon });
      each = λ us is few. h.each us is few;
    }

  -- ---- a tick

  module _ (x : Course) (h : IsOnLoop x) where
    abbrev wait : ℕ
    wait = max 1 (wait_after k x.start (Tick (count k x.now) ∷ x.calls) x.now)

    pub ticked_on : IsOnLoop (ticked k x)
    ticked_on = record {
      wires = h.wires;
      tick = tick_to_come k.ticking k.first k.rate x.now wait;
      send = h.send;
      by = latest_by x.start (count k x.now) (Tick (count k x.now)) x.calls h.by (omega arith);
      turn = (λ counted. h.by, h.turn);
      ready = λ is.
          (let most = counted_most k.first k.rate x.now wait moves.counts slow in
          record {
            time = counted_on k.first k.rate x.now wait;
            tick = ap (λ (t : Ticking). next_tick t k.first k.rate x.now wait) is;
            soon = omega (arith, most);
          });
      goes = λ is.
          (let r = h.ready is in
          (sooner 2 new (count k x.now) (count k r.time) x.calls (counted_by x.now r.time (tick_at x r.time h.tick r.tick)) r.soon, h.goes is));
      due = λ us is few.
          record {
            time = x.now + us;
            tick = ap (λ (t : Ticking). next_tick t k.first k.rate x.now wait) is;
            soon = each_most k.first k.rate x.now us slow few;
          };
      each = λ us is few.
          (let r = h.due us is few in
          let now = counted_by x.now r.time (tick_at x r.time h.tick r.tick) in
          (omega (arith, now, r.soon), h.each us is few));
    }

  -- ---- what happens next

  module _ (signal : (line element : ℕ) → Option Symbol) where
    sent_on_loop : (x : Course) → IsOnLoop x → IsOnLoop (has_sent signal x)
    sent_on_loop x h =
        let symbols : ℕ → Option Symbol = λ line. signal line (x.now / 10000) in
        record {
          wires =
              ahead_on symbols x.now 4 _ (ahead_on symbols x.now 3 _ (ahead_on symbols x.now 2 _ (ahead_on symbols x.now 1 _ (ahead_on symbols x.now 0 x.wires h.wires))));
          tick = h.tick;
          send = omega arith;
          by = h.by;
          turn = h.turn;
          ready = λ is. (let r = h.ready is in record { time = r.time; tick = r.tick; soon = r.soon });
          goes = h.goes;
          due = λ us is few. (let r = h.due us is few in record { time = r.time; tick = r.tick; soon = r.soon });
          each = h.each;
        }

    happened_on : (x : Course) (what : Happening) → IsOnLoop x → (coming_of x.wires x.tick x.send).what ≡ what → (time : ℕ) → IsOnLoop (record x { now = time }) → (coming_of x.wires x.tick x.send).time_us ≤ time → IsOnLoop (happened k signal what (record x { now = time }))
    happened_on x (happens.End e) h is time then past =
        let ends = (comes_first x.wires x.tick x.send).is_end e is in
        let rises = (ahead_of x.now (wire_at x.wires e.line).flight e.flight ends.0.own.1 (ahead_at x.now x.wires e.line h.wires)).1 in
        heard_on (record x { now = time }) e then (omega (arith, rises, ends.1, past))
    happened_on x happens.Tick h is time then past = ticked_on (record x { now = time }) then
    happened_on x happens.Send h is time then past = sent_on_loop (record x { now = time }) then

    stepped_on : (x : Course) → IsOnLoop x → IsOnLoop (stepped k signal x)
    stepped_on x h =
        let later = comes_later x h in
        let time = (coming x).time_us in
        happened_on x (coming x).what h refl time (moved x time h (omega arith) (omega (arith, later))) (omega arith)

    now_same : (what : Happening) (x : Course) → (happened k signal what x).now ≡ x.now
    now_same (happens.End e) x = refl
    now_same happens.Tick x = refl
    now_same happens.Send x = refl

    played_on_loop : (stop most : ℕ) (x : Course) → IsOnLoop x → x.now ≤ stop → IsOnLoop (played k signal stop most x) × ((played k signal stop most x).now ≤ stop)
    played_on_loop stop zero x h early = (h, early)
    played_on_loop stop (suc most) x h early = elim (cases_Bool (nat_lt (coming x).time_us stop)) [
      | inl less ↦
          let at = now_same (coming x).what (record x { now = (coming x).time_us }) in
          let low = ltb-true (coming x).time_us stop less in
          rw less (played_on_loop stop most (stepped k signal x) (stepped_on x h) (omega (arith, at, low)))
      | inr done ↦ rw done (h, early)
    ]

    pub passed_on : (stop : ℕ) (x : Course) → IsOnLoop x → x.now ≤ stop → IsOnLoop (passed k signal stop x)
    passed_on stop x h early =
        let y = played k signal stop (most_in (stop - x.now)) x in
        let done = played_on_loop stop (most_in (stop - x.now)) x h early in
        let later = comes_later y done.0 in
        let over = to_its_end k moves signal stop x in
        moved y stop done.0 done.1 (omega (arith, later, over, done.1))

  -- ---- it begins, and a line is another

  begins_on : (x : Course) → x.calls ≡ [] → x.start ≡ count k x.now → x.tick ≡ tick_at_first k x.now → AreAhead x.now x.wires → x.now ≤ x.send → IsOnLoop x
  begins_on x none start tick wires send = record {
    wires = wires;
    tick = subst (λ (o : Option ℕ). IsNotBefore o x.now) (sym tick) (tick_to_come k.ticking k.first k.rate x.now (wait_after k (count k x.now) [] x.now));
    send = send;
    by = subst (λ (c : List Call). latest x.start c ≤ count k x.now) (sym none) (omega (arith, start));
    turn = subst (InTurn x.start) (sym none) tt;
    ready = λ is.
        record {
          time = counted_on k.first k.rate x.now (wait_after k (count k x.now) [] x.now);
          tick = tick ∙ ap (λ (t : Ticking). next_tick t k.first k.rate x.now (wait_after k (count k x.now) [] x.now)) is;
          soon = subst (SoonBehind 2 new (count k (counted_on k.first k.rate x.now (wait_after k (count k x.now) [] x.now)))) (sym none) tt;
        };
    goes = λ is. subst (GoesSoon 2 new) (sym none) tt;
    due = λ us is few.
        (let most = each_most k.first k.rate x.now us slow few in
        record {
          time = x.now + us;
          tick = tick ∙ ap (λ (t : Ticking). next_tick t k.first k.rate x.now (wait_after k (count k x.now) [] x.now)) is;
          soon = subst (λ (c : List Call). count k (x.now + us) ≤ last_tick x.start c + 95000) (sym none) (omega (arith, start, most));
        });
    each = λ us is few. subst (TicksSo 95000 x.start) (sym none) tt;
  }

  pub begun_on : (late : List ℕ) → IsOnLoop (begun_with k late)
  begun_on late = begins_on (begun_with k late) refl refl refl (record { a = tt; b = tt; c = tt; d = tt; e = tt }) (omega arith)

  pub anew_on : (x : Course) → IsOnLoop x → IsOnLoop (begun_anew k x)
  anew_on x h = begins_on (begun_anew k x) refl refl refl h.wires h.send

  pub line_on : (x : Course) (line : ℕ) (change : Wire → Wire) → IsOnLoop x → ((wire : Wire) → IsAhead x.now wire.flight → IsAhead x.now (change wire).flight) → IsOnLoop (on_line line change x)
  line_on x line change h still = record {
    wires = ahead_with x.now x.wires line (change (wire_at x.wires line)) h.wires (still (wire_at x.wires line) (ahead_at x.now x.wires line h.wires));
    tick = h.tick;
    send = h.send;
    by = h.by;
    turn = h.turn;
    ready = λ is. (let r = h.ready is in record { time = r.time; tick = r.tick; soon = r.soon });
    goes = h.goes;
    due = λ us is few. (let r = h.due us is few in record { time = r.time; tick = r.tick; soon = r.soon });
    each = h.each;
  }

  taken_on : (x : Course) → IsOnLoop x → IsOnLoop (told_taken x)
  taken_on x h = record {
    wires = h.wires;
    tick = h.tick;
    send = h.send;
    by = h.by;
    turn = h.turn;
    ready = λ is. (let r = h.ready is in record { time = r.time; tick = r.tick; soon = r.soon });
    goes = h.goes;
    due = λ us is few. (let r = h.due us is few in record { time = r.time; tick = r.tick; soon = r.soon });
    each = h.each;
  }

  -- whatever is done with it
  behind_on : (d : Doing) (x : Course) → IsOnLoop x → IsOnLoop (behind k d x)
  behind_on (Pass signal us) x h = passed_on signal (x.now + us) x h (omega arith)
  behind_on TickByHand x h = ticked_on x h
  behind_on Restart x h = anew_on x h
  behind_on TakeTold x h = taken_on x h
  behind_on (Pull line) x h = line_on x line pulled h (λ wire is. is)
  behind_on (Plug line) x h = line_on x line plugged h (λ wire is. is)
  behind_on (BeLate line late) x h = line_on x line (made_late late) h (λ wire is. is)
  behind_on (Pulse line width) x h = line_on x line (added x.now width) h (λ wire is. ahead_added x.now width wire is)

  pub on_loop : (late : List ℕ) (doings : List Doing) → IsOnLoop (course_behind k late doings)
  on_loop late [] = begun_on late
  on_loop late (d ∷ doings) = behind_on d (course_behind k late doings) (on_loop late doings)
