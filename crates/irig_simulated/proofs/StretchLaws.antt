-- Time passes to its end: fewer things happen in a stretch than its bound says.
use Rattle.std.proofs.Common.{◌≡◌, ◌∙◌, ℕ, zero, suc, ◌+◌, ◌-◌, ◌*◌, ◌<◌, ◌≤◌, ◌⊎◌, Bool, true, false, cond, Option, Some, None, refl, sym, ap, arith, inl, inr, subst}
use Rattle.std.specs.Prelude.{is_some, max, nat_le, nat_lt}
use Rattle.std.proofs.lemmas.Bool.{cases_Bool, le-leb, leb-true, leb-false, lt-ltb, ltb-true, ltb-false}
use Rattle.irig_frame.specs.declared.symbol.Symbol.{Symbol}
use Rattle.irig_wires.specs.declared.wire.Flight.{Flight}
use Rattle.irig_wires.specs.declared.wire.Wire.{Wire}
use Rattle.irig_wires.specs.declared.wires.Wires.{Wires}
use Rattle.irig_wires.specs.declared.wires.Ending.{Ending}
use Rattle.irig_wires.specs.declared.wires.Coming.{Coming}
use Rattle.irig_wires.specs.declared.wires.Happening.{Happening}
use Rattle.irig_wires.specs.declared.wires.Happening.TheVariants.{End, Send, Tick}
use Rattle.irig_wires.specs.Oscillator.{counter_at, time_of}
use Rattle.irig_wires.specs.Wires.{taken, wire_at, with_wire}
use Rattle.irig_wires.specs.Happenings.{coming_of}
use Rattle.irig_wires.specs.Order.{IsOnItsWay, behind_end}
use Rattle.irig_wires.proofs.OscillatorLaws.{first_time}
use Rattle.irig_wires.proofs.OrderLaws.{comes_first}
use Rattle.irig_wires.proofs.WireLaws.{taken_busy}
use Rattle.irig_simulated.specs.declared.setup.Ticking.{Ticking}
use Rattle.irig_simulated.specs.declared.setup.Ticking.TheVariants.{ByWait, Each, ByHand}
use Rattle.irig_simulated.specs.Kinds.{Kind, MovesOn}
use Rattle.irig_simulated.specs.Courses.{Course, coming, counted_on, happened, has_sent, heard, most_in, next_tick, played, stepped, ticked, wait_after}

-- ---- what is due

-- a count of one
abbrev pub one : Bool → ℕ
one b = cond b 1 0

abbrev pub flights : Wires → ℕ
flights w = one (is_some w.a.flight) + one (is_some w.b.flight) + one (is_some w.c.flight) + one (is_some w.d.flight) + one (is_some w.e.flight)

abbrev pub tick_due : Option ℕ → (now : ℕ) → ℕ
tick_due None now = 0
tick_due (Some t) now = one (nat_le t now)

abbrev pub send_due : (send now : ℕ) → ℕ
send_due send now = cond (nat_le send now) 11 0

-- twice the pulses that are on their way, one if a tick is due, and eleven if generators are
abbrev pub due : Course → ℕ
due x = 2 * flights x.wires + tick_due x.tick x.now + send_due x.send x.now

one_few : (b : Bool) → one b ≤ 1
one_few true = omega arith
one_few false = omega arith

pub flights_few : (w : Wires) → flights w ≤ 5
flights_few w = omega (arith, one_few (is_some w.a.flight), one_few (is_some w.b.flight), one_few (is_some w.c.flight), one_few (is_some w.d.flight), one_few (is_some w.e.flight))

tick_few : (tick : Option ℕ) (now : ℕ) → tick_due tick now ≤ 1
tick_few None now = omega arith
tick_few (Some t) now = one_few (nat_le t now)

send_few : (send now : ℕ) → send_due send now ≤ 11
send_few send now = elim (cases_Bool (nat_le send now)) [
  | inl is_due ↦ rw is_due (omega arith)
  | inr not_due ↦ rw not_due (omega arith)
]

pub due_few : (x : Course) → due x ≤ 22
due_few x = omega (arith, flights_few x.wires, tick_few x.tick x.now, send_few x.send x.now)

-- ---- a pulse less

one_less : (w v : Wire) (x : Flight) → w.flight ≡ Some x → v.flight ≡ None → one (is_some v.flight) + 1 ≡ one (is_some w.flight)
one_less w v x busy free = rw (busy, free) refl

pub flight_less : (w : Wires) (line : ℕ) (v : Wire) (x : Flight) → line < 5 → (wire_at w line).flight ≡ Some x → v.flight ≡ None → flights (with_wire w line v) + 1 ≡ flights w
flight_less w zero v x few busy free = (let l = one_less w.a v x busy free in omega (arith, l))
flight_less w (suc zero) v x few busy free = (let l = one_less w.b v x busy free in omega (arith, l))
flight_less w (suc (suc zero)) v x few busy free = (let l = one_less w.c v x busy free in omega (arith, l))
flight_less w (suc (suc (suc zero))) v x few busy free = (let l = one_less w.d v x busy free in omega (arith, l))
flight_less w (suc (suc (suc (suc zero)))) v x few busy free = (let l = one_less w.e v x busy free in omega (arith, l))
flight_less w (suc (suc (suc (suc (suc n))))) v x few busy free = absurd (omega (arith, few))

pub ended_less : (w : Wires) (e : Ending) → IsOnItsWay w e.line e.flight → flights (behind_end w e) + 1 ≡ flights w
ended_less w e on =
    let free : (taken e.flight.end_us (wire_at w e.line)).flight ≡ None = elim (taken_busy e.flight.end_us (wire_at w e.line) e.flight on.1) [
      | inl h ↦ ap (λ (v : Wire). v.flight) h.0
      | inr h ↦ absurd (let late = h.2 in omega (arith, late))
    ] in
    flight_less w e.line (taken e.flight.end_us (wire_at w e.line)) e.flight on.0 on.1 free

-- ---- the tick that comes next is to come

le-false : (a b : ℕ) → b < a → nat_le a b ≡ false
le-false a b less = elim (cases_Bool (nat_le a b)) [ inl h ↦ absurd (let least = leb-true a b h in omega (arith, least, less)) | inr h ↦ h ]

no_tick : (tick : Option ℕ) (now : ℕ) → ((t : ℕ) → tick ≡ Some t → now < t) → tick_due tick now ≡ 0
no_tick None now later = refl
no_tick (Some t) now later = (let past = later t refl in let ahead : nat_le t now ≡ false = le-false t now past in rw ahead refl)

later_tick : (ticking : Ticking) (first rate now wait : ℕ) → 0 < rate → ((us : ℕ) → ticking ≡ Each us → 0 < us) → tick_due (next_tick ticking first rate now (max 1 wait)) now ≡ 0
later_tick ByWait first rate now wait counts each =
    no_tick (Some (counted_on first rate now (max 1 wait))) now (λ t is.
    let past : now < time_of first rate (counter_at first rate now + max 1 wait) = elim (cases_Bool (nat_lt now (time_of first rate (counter_at first rate now + max 1 wait)))) [
      | inl h ↦ ltb-true _ _ h
      | inr h ↦ absurd (
          let late : time_of first rate (counter_at first rate now + max 1 wait) ≤ now = ltb-false _ _ h in
          let shown : counter_at first rate now + max 1 wait ≤ counter_at first rate now = (first_time first rate (counter_at first rate now + max 1 wait) now counts).1 late in
          omega (arith, shown)
          )
    ] in
    let same : counted_on first rate now (max 1 wait) ≡ t = cc in
    omega (arith, past, same))
later_tick (Each us) first rate now wait counts each =
    no_tick (Some (now + us)) now (λ t is.
    let some = each us refl in
    let same : now + us ≡ t = cc in
    omega (arith, some, same))
later_tick ByHand first rate now wait counts each = refl

-- ---- each thing that happens makes what is left less

module _ (k : Kind) (moves : MovesOn k) (signal : (line element : ℕ) → Option Symbol) where
  -- what is next, and when
  abbrev pub next : Course → Coming
  next x = coming_of x.wires x.tick x.send

  abbrev pub then_at : Course → (now : ℕ) → Course
  then_at x now = record x { now = now }

  -- an end, a tick, and what generators send, each when it is due
  end_less : (x : Course) (e : Ending) → (next x).what ≡ End e → due (heard k x e) < due x
  end_less x e is =
      let less = ended_less x.wires e ((comes_first x.wires x.tick x.send).is_end e is).0.own in
      omega (arith, less, tick_few (heard k x e).tick x.now)

  tick_less : (x : Course) (now : ℕ) → (next x).what ≡ Tick → (next x).time_us ≤ now → due (ticked k (then_at x now)) < due (then_at x now)
  tick_less x now is past =
      let none : tick_due (ticked k (then_at x now)).tick now ≡ 0 = later_tick k.ticking k.first k.rate now (wait_after k x.start (ticked k (then_at x now)).calls now) moves.counts moves.later in
      let at : x.tick ≡ Some (next x).time_us = ((comes_first x.wires x.tick x.send).is_tick is).0 in
      let was : tick_due x.tick now ≡ 1 = (let come : nat_le (next x).time_us now ≡ true = le-leb _ _ past in rw (at, come) refl) in
      omega (arith, none, was)

  send_less : (x : Course) (now : ℕ) → (next x).what ≡ Send → (next x).time_us ≤ now → due (has_sent signal (then_at x now)) < due (then_at x now)
  send_less x now is past =
      let none : send_due (now + 10000) now ≡ 0 = (let ahead : nat_le (now + 10000) now ≡ false = le-false (now + 10000) now (omega arith) in rw ahead refl) in
      let at = ((comes_first x.wires x.tick x.send).is_send is).0 in
      let was : send_due x.send now ≡ 11 = (let come : nat_le x.send now ≡ true = le-leb _ _ (omega (arith, at, past)) in rw come refl) in
      omega (arith, none, was, flights_few (has_sent signal (then_at x now)).wires)

  happened_less : (x : Course) (now : ℕ) (what : Happening) → (next x).what ≡ what → (next x).time_us ≤ now → due (happened k signal what (then_at x now)) < due (then_at x now)
  happened_less x now (End e) is past = end_less (then_at x now) e is
  happened_less x now Tick is past = tick_less x now is past
  happened_less x now Send is past = send_less x now is past

  pub happened_now : (what : Happening) (x : Course) → (happened k signal what x).now ≡ x.now
  happened_now (End e) x = refl
  happened_now Tick x = refl
  happened_now Send x = refl

  -- what is left before a time
  abbrev pub left : (stop : ℕ) → Course → ℕ
  left stop x = 23 * (stop - x.now) + due x

  pub stepped_less : (stop : ℕ) (x : Course) → (coming x).time_us < stop → left stop (stepped k signal x) < left stop x
  stepped_less stop x early =
      let now = (coming x).time_us in
      let less = happened_less x now (next x).what refl (omega arith) in
      let at = happened_now (next x).what (then_at x now) in
      elim (cases_Bool (nat_lt x.now now)) [
        | inl later ↦ (let past = ltb-true _ _ later in omega (arith, past, early, at, due_few (stepped k signal x)))
        | inr same ↦
            let here : now ≡ x.now = (let most = ltb-false _ _ same in omega (arith, most)) in
            let was : due (then_at x now) ≡ due x = ap (λ (n : ℕ). due (then_at x n)) here in
            omega (arith, here, at, less, was)
      ]

  ends : (stop most : ℕ) (x : Course) → left stop x < most → stop ≤ (coming (played k signal stop most x)).time_us
  ends stop zero x less = absurd (omega (arith, less))
  ends stop (suc most) x less = elim (cases_Bool (nat_lt (coming x).time_us stop)) [
    | inl early ↦ rw early (ends stop most (stepped k signal x) (let fewer = stepped_less stop x (ltb-true _ _ early) in omega (arith, less, fewer)))
    | inr late ↦ rw late (ltb-false _ _ late)
  ]

  pub to_its_end : (stop : ℕ) (x : Course) → stop ≤ (coming (played k signal stop (most_in (stop - x.now)) x)).time_us
  to_its_end stop x = ends stop (most_in (stop - x.now)) x (omega (arith, due_few x))
