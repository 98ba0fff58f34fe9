-- In which order things happen to a device.
use Rattle.std.specs.Prelude.{nat_le, nat_lt}
use Rattle.std.proofs.Common.{◌≡◌, ◌∙◌, ℕ, zero, suc, ◌+◌, ◌<◌, ◌≤◌, ◌⊎◌, true, false, List, [], ◌∷◌, Option, Some, None, refl, sym, ap, subst, arith, inl, inr}
use Rattle.std.proofs.lemmas.Bool.{cases_Bool, cases_eq, cases_lt, cases_order, le-leb, leb-true, leb-false, lt-leb, ltb-true, ltb-false, eq-eqb, ne_eqb}
use Rattle.irig_wires.specs.declared.wire.Flight.{Flight}
use Rattle.irig_wires.specs.declared.wire.Wire.{Wire}
use Rattle.irig_wires.specs.declared.wires.Wires.{Wires}
use Rattle.irig_wires.specs.declared.wires.Ending.{Ending}
use Rattle.irig_wires.specs.declared.wires.Coming.{Coming}
use Rattle.irig_wires.specs.declared.wires.Happening.{Happening}
use Rattle.irig_wires.specs.declared.wires.Happening.TheVariants.{End, Tick, Send}
use Rattle.irig_wires.specs.Wires.{ended, late_at, taken, wire_at, wire_of, wires_of, with_wire}
use Rattle.irig_wires.specs.Happenings.{earlier_end, end_or, ending_on, next_end, coming_of, tick_or_send}
use Rattle.irig_wires.specs.Order.{AllEndBehind, ComesFirst, EndsFirst, IsBehind, IsNotBefore, IsOnItsWay, NoneEndsBefore, behind_end}
use Rattle.irig_wires.specs.Calls.{Call, LineCall, called, called_on, wire_after, wires_after, calls_on, AreOnLines, IsNotBack}
use Rattle.irig_wires.specs.Calls.Call.{Pull, Plug, BeLate, Add, Take}
use Rattle.irig_wires.specs.Calls.Call.{Send as Sending}
use Rattle.irig_wires.proofs.WireLaws.{added_flight, sent_flight, taken_busy, taken_flight, taken_free}

-- ---- each line is a wire of its own

pub own_wire : (wires : Wires) (line : ℕ) (wire : Wire) → line < 5 → wire_at (with_wire wires line wire) line ≡ wire
own_wire wires zero wire low = refl
own_wire wires (suc zero) wire low = refl
own_wire wires (suc (suc zero)) wire low = refl
own_wire wires (suc (suc (suc zero))) wire low = refl
own_wire wires (suc (suc (suc (suc zero)))) wire low = refl
own_wire wires (suc (suc (suc (suc (suc i))))) wire low = absurd (omega (arith, low))

pub other_wire : (wires : Wires) (line : ℕ) (wire : Wire) (other : ℕ) → line < 5 → other < 5 → ¬ (other ≡ line) → wire_at (with_wire wires line wire) other ≡ wire_at wires other
other_wire wires zero wire i low small other = rw (ne_eqb i 0 other) refl
other_wire wires (suc zero) wire i low small other = rw (ne_eqb i 1 other) refl
other_wire wires (suc (suc zero)) wire i low small other = rw (ne_eqb i 2 other) refl
other_wire wires (suc (suc (suc zero))) wire i low small other = rw (ne_eqb i 3 other) refl
other_wire wires (suc (suc (suc (suc zero)))) wire zero low small other = refl
other_wire wires (suc (suc (suc (suc zero)))) wire (suc zero) low small other = refl
other_wire wires (suc (suc (suc (suc zero)))) wire (suc (suc zero)) low small other = refl
other_wire wires (suc (suc (suc (suc zero)))) wire (suc (suc (suc zero))) low small other = refl
other_wire wires (suc (suc (suc (suc zero)))) wire (suc (suc (suc (suc zero)))) low small other = absurd (other refl)
other_wire wires (suc (suc (suc (suc zero)))) wire (suc (suc (suc (suc (suc i))))) low small other = absurd (omega (arith, small))
other_wire wires (suc (suc (suc (suc (suc p))))) wire i low small other = absurd (omega (arith, low))

at_first : (late : List ℕ) (line : ℕ) → line < 5 → wire_at (wires_of late) line ≡ wire_of (late_at late line)
at_first late zero low = refl
at_first late (suc zero) low = refl
at_first late (suc (suc zero)) low = refl
at_first late (suc (suc (suc zero))) low = refl
at_first late (suc (suc (suc (suc zero)))) low = refl
at_first late (suc (suc (suc (suc (suc i))))) low = absurd (omega (arith, low))

-- each line of a device is what its own calls make of it
pub each_alone : (late : List ℕ) (calls : List LineCall) (line : ℕ) → line < 5 → AreOnLines calls → wire_at (wires_after late calls) line ≡ wire_after (late_at late line) (calls_on line calls)
each_alone late [] line small there = at_first late line small
each_alone late (on ∷ calls) line small there =
    let wires = wires_after late calls in
    let before = each_alone late calls line small there.1 in
    elim (cases_eq line on.line) [
      | inl same ↦
          rw (eq-eqb line on.line same)
          (ap (wire_at (called_on on wires)) same ∙ own_wire wires on.line (called on.call (wire_at wires on.line)) there.0 ∙ ap (called on.call) (ap (wire_at wires) (sym same) ∙ before))
      | inr apart ↦ rw (ne_eqb line on.line apart) (other_wire wires on.line (called on.call (wire_at wires on.line)) line there.0 small apart ∙ before)
    ]

-- ---- the earliest end

-- of the lines from the k-th on this is the one that ends first
record IsFirstFrom (flights : ℕ → Option Flight) (k : ℕ) (ending : Ending) : Type 0 where
  from : k ≤ ending.line
  to : ending.line < 5
  on : flights ending.line ≡ Some ending.flight
  none_before : (line : ℕ) (flight : Flight) → k ≤ line → line < 5 → flights line ≡ Some flight → ending.flight.end_us ≤ flight.end_us
  lower_later : (line : ℕ) (flight : Flight) → k ≤ line → line < ending.line → flights line ≡ Some flight → ending.flight.end_us < flight.end_us

-- if none does, nothing is on its way on these
abbrev FirstFrom : (ℕ → Option Flight) → ℕ → Option Ending → Type 0
FirstFrom flights k None = (line : ℕ) → k ≤ line → line < 5 → flights line ≡ None
FirstFrom flights k (Some ending) = IsFirstFrom flights k ending

here_or_over : (k line : ℕ) → k ≤ line → (line ≡ k) ⊎ (k + 1 ≤ line)
here_or_over k line low = elim (cases_lt k line) [ inl over ↦ inr (omega arith) | inr under ↦ inl (omega arith) ]

-- on a line on which nothing is on its way no end is one
none_here : (flights : ℕ → Option Flight) (k line : ℕ) (flight : Flight) → flights k ≡ None → line ≡ k → flights line ≡ Some flight → ⊥
none_here flights k line flight free here on = let same = ap flights here in cc

one_here : (flights : ℕ → Option Flight) (k line : ℕ) (flight other : Flight) → flights k ≡ Some flight → line ≡ k → flights line ≡ Some other → other ≡ flight
one_here flights k line flight other busy here on = let same = ap flights here in cc

-- one line more
step_none : (flights : ℕ → Option Flight) (k : ℕ) (o : Option Flight) → flights k ≡ o → k < 5 → FirstFrom flights (k + 1) None → FirstFrom flights k (earlier_end (ending_on k o) None)
step_none flights k None free small rest = λ line low high. elim (here_or_over k line low) [
  | inl here ↦ ap flights here ∙ free
  | inr over ↦ rest line over high
]
step_none flights k (Some flight) busy small rest = record {
  from = omega arith;
  to = small;
  on = busy;
  none_before = λ line other low high on. elim (here_or_over k line low) [
    | inl here ↦ rw (one_here flights k line flight other busy here on) (omega arith)
    | inr over ↦ absurd (let none = rest line over high in cc)
  ];
  lower_later = λ line other low high on. absurd (omega arith);
}

step_some : (flights : ℕ → Option Flight) (k : ℕ) (o : Option Flight) (next : Ending) → flights k ≡ o → k < 5 → IsFirstFrom flights (k + 1) next → FirstFrom flights k (earlier_end (ending_on k o) (Some next))
step_some flights k None next free small rest = record {
  from = (let from = rest.from in omega arith);
  to = rest.to;
  on = rest.on;
  none_before = λ line other low high on. elim (here_or_over k line low) [
    | inl here ↦ absurd (none_here flights k line other free here on)
    | inr over ↦ rest.none_before line other over high on
  ];
  lower_later = λ line other low high on. elim (here_or_over k line low) [
    | inl here ↦ absurd (none_here flights k line other free here on)
    | inr over ↦ rest.lower_later line other over high on
  ];
}
step_some flights k (Some flight) next busy small rest = elim (cases_Bool (nat_lt next.flight.end_us flight.end_us)) [
  | inl less ↦ let sooner = ltb-true next.flight.end_us flight.end_us less in rw less (record {
    from = (let from = rest.from in omega arith);
    to = rest.to;
    on = rest.on;
    none_before = λ line other low high on. elim (here_or_over k line low) [
      | inl here ↦ rw (one_here flights k line flight other busy here on) (omega arith)
      | inr over ↦ rest.none_before line other over high on
    ];
    lower_later = λ line other low high on. elim (here_or_over k line low) [
      | inl here ↦ rw (one_here flights k line flight other busy here on) sooner
      | inr over ↦ rest.lower_later line other over high on
    ];
  })
  | inr not_less ↦ let first = ltb-false next.flight.end_us flight.end_us not_less in rw not_less (record {
    from = omega arith;
    to = small;
    on = busy;
    none_before = λ line other low high on. elim (here_or_over k line low) [
      | inl here ↦ rw (one_here flights k line flight other busy here on) (omega arith)
      | inr over ↦ let behind = rest.none_before line other over high on in omega arith
    ];
    lower_later = λ line other low high on. absurd (omega arith);
  })
]

step : (flights : ℕ → Option Flight) (k : ℕ) (rest : Option Ending) → k < 5 → FirstFrom flights (k + 1) rest → FirstFrom flights k (earlier_end (ending_on k (flights k)) rest)
step flights k None small first = step_none flights k (flights k) refl small first
step flights k (Some next) small first = step_some flights k (flights k) next refl small first

end_alone : (o : Option Ending) → earlier_end o None ≡ o
end_alone None = refl
end_alone (Some ending) = refl

abbrev flight_on : Wires → ℕ → Option Flight
flight_on wires line = (wire_at wires line).flight

first_from : (wires : Wires) → FirstFrom (flight_on wires) 0 (next_end wires)
first_from wires =
    let on = flight_on wires in
    let four : FirstFrom on 4 (ending_on 4 wires.e.flight) = rw end_alone at (step on 4 None (omega arith) (λ line low high. absurd (omega arith))) in
    step on 0 _ (omega arith) (step on 1 _ (omega arith) (step on 2 _ (omega arith) (step on 3 _ (omega arith) four)))

-- the next end is the first, if anything is on its way
abbrev IsNextEnd : Wires → Option Ending → Type 0
IsNextEnd wires None = (line : ℕ) (flight : Flight) → ¬ IsOnItsWay wires line flight
IsNextEnd wires (Some ending) = EndsFirst wires ending

next_end_of : (wires : Wires) (o : Option Ending) → FirstFrom (flight_on wires) 0 o → IsNextEnd wires o
next_end_of wires None none = λ line flight on. let free = none line (omega arith) on.0 in let busy = on.1 in cc
next_end_of wires (Some ending) first = record {
  own = (first.to, first.on);
  first = λ line flight on. first.none_before line flight (omega arith) on.0 on.1;
  lowest = λ line flight on lower. first.lower_later line flight (omega arith) lower on.1;
}

pub is_next_end : (wires : Wires) → IsNextEnd wires (next_end wires)
is_next_end wires = next_end_of wires (next_end wires) (first_from wires)

-- ---- the tick, and what generators send

not_before_by : (tick : Option ℕ) (s t : ℕ) → s ≤ t → IsNotBefore tick t → IsNotBefore tick s
not_before_by None s t by ticks = ticks
not_before_by (Some tick) s t by ticks = omega (arith, ticks)

-- of the two this comes first
record IsOther (tick : Option ℕ) (send : ℕ) (coming : Coming) : Type 0 where
  ticks : IsNotBefore tick coming.time_us
  sends : coming.time_us ≤ send
  no_end : (ending : Ending) → ¬ (coming.what ≡ End ending)
  is_tick : coming.what ≡ Tick → tick ≡ Some coming.time_us
  is_send : coming.what ≡ Send → (coming.time_us ≡ send) × IsBehind tick coming.time_us

is_other : (tick : Option ℕ) (send : ℕ) → IsOther tick send (tick_or_send tick send)
is_other None send = record {
  ticks = tt;
  sends = omega arith;
  no_end = λ ending what. cc;
  is_tick = λ what. cc;
  is_send = λ what. (refl, tt);
}
is_other (Some tick) send = elim (cases_Bool (nat_le tick send)) [
  | inl by ↦ let low = leb-true tick send by in rw by (record {
    ticks = omega arith;
    sends = low;
    no_end = λ ending what. cc;
    is_tick = λ what. refl;
    is_send = λ what. cc;
  })
  | inr behind ↦ let high = leb-false tick send behind in rw behind (record {
    ticks = omega arith;
    sends = omega arith;
    no_end = λ ending what. cc;
    is_tick = λ what. cc;
    is_send = λ what. (refl, high);
  })
]

-- ---- all together

first_of : (wires : Wires) (tick : Option ℕ) (send : ℕ) (o : Option Ending) (other : Coming) → IsNextEnd wires o → IsOther tick send other → ComesFirst wires tick send (end_or o other)
first_of wires tick send None other none is = record {
  ends = λ line flight on. absurd (none line flight on);
  ticks = is.ticks;
  sends = is.sends;
  is_end = λ ending what. absurd (is.no_end ending what);
  is_tick = λ what. (is.is_tick what, λ line flight on. absurd (none line flight on));
  is_send = λ what. ((is.is_send what).0, λ line flight on. absurd (none line flight on), (is.is_send what).1);
}
first_of wires tick send (Some ending) other first is = elim (cases_Bool (nat_le ending.flight.end_us other.time_us)) [
  | inl by ↦ let low = leb-true ending.flight.end_us other.time_us by in rw by (record {
    ends = first.first;
    ticks = not_before_by tick ending.flight.end_us other.time_us low is.ticks;
    sends = (let sends = is.sends in omega arith);
    is_end = λ it what. let same : ending ≡ it = cc in subst (λ (x : Ending). EndsFirst wires x × (ending.flight.end_us ≡ x.flight.end_us)) same (first, refl);
    is_tick = λ what. absurd (cc);
    is_send = λ what. absurd (cc);
  })
  | inr behind ↦
      let high = leb-false ending.flight.end_us other.time_us behind in
      let all_behind : AllEndBehind wires other.time_us = λ line flight on. let later = first.first line flight on in omega arith in
      rw behind (record {
        ends = λ line flight on. let later = all_behind line flight on in omega arith;
        ticks = is.ticks;
        sends = is.sends;
        is_end = λ it what. absurd (is.no_end it what);
        is_tick = λ what. (is.is_tick what, all_behind);
        is_send = λ what. ((is.is_send what).0, all_behind, (is.is_send what).1);
      })
]

-- ---- laws

pub comes_first : (wires : Wires) (tick : Option ℕ) (send : ℕ) → ComesFirst wires tick send (coming_of wires tick send)
comes_first wires tick send = first_of wires tick send (next_end wires) (tick_or_send tick send) (is_next_end wires) (is_other tick send)

-- when generators send next, what has ended was taken
pub all_taken : (wires : Wires) (tick : Option ℕ) (send line : ℕ) → line < 5 → (coming_of wires tick send).what ≡ Send → ended send (wire_at wires line).flight ≡ None
all_taken wires tick send line small what = go (wire_at wires line).flight refl
  where
    go : (o : Option Flight) → (wire_at wires line).flight ≡ o → ended send (wire_at wires line).flight ≡ None
    go None free = (taken_free send (wire_at wires line) free).1
    go (Some flight) busy =
        let first = comes_first wires tick send in
        let at = (first.is_send what).0 in
        let later = (first.is_send what).1 line flight (small, busy) in
        elim (taken_busy send (wire_at wires line) flight busy) [
          | inl h ↦ absurd (let past = h.2 in omega arith)
          | inr h ↦ h.1
        ]

-- the next end is the first
pub ends_first : (wires : Wires) (ending : Ending) → next_end wires ≡ Some ending → EndsFirst wires ending
ends_first wires ending is = go (next_end wires) is (is_next_end wires)
  where
    go : (o : Option Ending) → o ≡ Some ending → IsNextEnd wires o → EndsFirst wires ending
    go None none first = absurd (cc)
    go (Some other) one first = let same : other ≡ ending = cc in subst (λ (x : Ending). EndsFirst wires x) same first

pub ends_none : (wires : Wires) → next_end wires ≡ None → (line : ℕ) (flight : Flight) → ¬ IsOnItsWay wires line flight
ends_none wires is = go (next_end wires) is (is_next_end wires)
  where
    go : (o : Option Ending) → o ≡ None → IsNextEnd wires o → (line : ℕ) (flight : Flight) → ¬ IsOnItsWay wires line flight
    go None none first = first
    go (Some other) one first = absurd (cc)

-- ---- there is one that comes first

same_end : (wires : Wires) (x y : Ending) → EndsFirst wires x → EndsFirst wires y → x ≡ y
same_end wires x y one two = elim (cases_order x.line y.line) [
  | inl same ↦
      let at = ap (flight_on wires) same in
      let first = one.own.1 in
      let second = two.own.1 in
      let flights : x.flight ≡ y.flight = cc in
      ap (λ (n : ℕ). let ending : Ending = record { line = n; flight = x.flight } in ending) same ∙ ap (λ (f : Flight). let ending : Ending = record { line = y.line; flight = f } in ending) flights
  | inr (inl less) ↦ absurd (let later = two.lowest x.line x.flight one.own less in let not_later = one.first y.line y.flight two.own in omega arith)
  | inr (inr more) ↦ absurd (let later = one.lowest y.line y.flight two.own more in let not_later = two.first x.line x.flight one.own in omega arith)
]

not_later : (wires : Wires) (tick : Option ℕ) (send : ℕ) (x y : Coming) → ComesFirst wires tick send x → ComesFirst wires tick send y → x.time_us ≤ y.time_us
not_later wires tick send x y one two = go y.what refl
  where
    go : (what : Happening) → y.what ≡ what → x.time_us ≤ y.time_us
    go (End ending) is =
        let at = (two.is_end ending is).1 in
        let low = one.ends ending.line ending.flight (two.is_end ending is).0.own in
        omega arith
    go Tick is = subst (λ (o : Option ℕ). IsNotBefore o x.time_us) (two.is_tick is).0 one.ticks
    go Send is =
        let at = (two.is_send is).0 in
        let low = one.sends in
        omega arith

-- where a pulse ends, not all end behind
no_other : (wires : Wires) (tick : Option ℕ) (send : ℕ) (x y : Coming) (ending : Ending) → ComesFirst wires tick send x → x.what ≡ End ending → x.time_us ≡ y.time_us → ¬ AllEndBehind wires y.time_us
no_other wires tick send x y ending first is same behind =
    let at = (first.is_end ending is).1 in
    let later = behind ending.line ending.flight (first.is_end ending is).0.own in
    absurd (omega arith)

not_both : (wires : Wires) (tick : Option ℕ) (send : ℕ) (x y : Coming) → ComesFirst wires tick send x → ComesFirst wires tick send y → x.what ≡ Tick → y.what ≡ Send → x.time_us ≡ y.time_us → ⊥
not_both wires tick send x y one two ticks sends same =
    let behind : y.time_us < x.time_us = subst (λ (o : Option ℕ). IsBehind o y.time_us) (one.is_tick ticks).0 (two.is_send sends).2 in
    absurd (omega arith)

pub same_coming : (wires : Wires) (tick : Option ℕ) (send : ℕ) (x y : Coming) → ComesFirst wires tick send x → ComesFirst wires tick send y → x ≡ y
same_coming wires tick send x y one two =
    let low = not_later wires tick send x y one two in
    let high = not_later wires tick send y x two one in
    let times : x.time_us ≡ y.time_us = omega arith in
    let times_back : y.time_us ≡ x.time_us = sym times in
    ap (λ (n : ℕ). let coming : Coming = record { time_us = n; what = x.what } in coming) times ∙ ap (λ (w : Happening). let coming : Coming = record { time_us = y.time_us; what = w } in coming) (go x.what refl y.what refl times times_back)
  where
    go : (a : Happening) → x.what ≡ a → (b : Happening) → y.what ≡ b → x.time_us ≡ y.time_us → y.time_us ≡ x.time_us → x.what ≡ y.what
    go (End a) is (End b) also times back = is ∙ ap End (same_end wires a b (one.is_end a is).0 (two.is_end b also).0) ∙ sym also
    go (End a) is Tick also times back = absurd (no_other wires tick send x y a one is times (two.is_tick also).1)
    go (End a) is Send also times back = absurd (no_other wires tick send x y a one is times (two.is_send also).1)
    go Tick is (End b) also times back = absurd (no_other wires tick send y x b two also back (one.is_tick is).1)
    go Tick is Tick also times back = is ∙ sym also
    go Tick is Send also times back = absurd (not_both wires tick send x y one two is also times)
    go Send is (End b) also times back = absurd (no_other wires tick send y x b two also back (one.is_send is).1)
    go Send is Tick also times back = absurd (not_both wires tick send y x two one also is back)
    go Send is Send also times back = is ∙ sym also

-- what comes first is what `next` answers
pub only_first : (wires : Wires) (tick : Option ℕ) (send : ℕ) (coming : Coming) → ComesFirst wires tick send coming → coming ≡ coming_of wires tick send
only_first wires tick send coming first = same_coming wires tick send coming (coming_of wires tick send) first (comes_first wires tick send)

-- the end that comes first is the next
pub only_end : (wires : Wires) (ending : Ending) → EndsFirst wires ending → next_end wires ≡ Some ending
only_end wires ending first = go (next_end wires) refl (is_next_end wires)
  where
    go : (o : Option Ending) → next_end wires ≡ o → IsNextEnd wires o → next_end wires ≡ Some ending
    go None is none = absurd (none ending.line ending.flight first.own)
    go (Some other) is next = is ∙ ap Some (same_end wires other ending next first)

tick_not_back : (tick : Option ℕ) (send now : ℕ) → IsNotBefore tick now → now ≤ send → now ≤ (tick_or_send tick send).time_us
tick_not_back None send now ticks sends = sends
tick_not_back (Some tick) send now ticks sends = elim (cases_Bool (nat_le tick send)) [
  | inl by ↦ rw by ticks
  | inr behind ↦ rw behind sends
]

end_not_back : (o : Option Ending) (other : Coming) (now : ℕ) → ((ending : Ending) → o ≡ Some ending → now ≤ ending.flight.end_us) → now ≤ other.time_us → now ≤ (end_or o other).time_us
end_not_back None other now ends rest = rest
end_not_back (Some ending) other now ends rest = elim (cases_Bool (nat_le ending.flight.end_us other.time_us)) [
  | inl by ↦ rw by (ends ending refl)
  | inr behind ↦ rw behind rest
]

-- what happens next does not come before now, if nothing of all that is to come does
pub not_back : (wires : Wires) (tick : Option ℕ) (send now : ℕ) → NoneEndsBefore wires now → IsNotBefore tick now → now ≤ send → now ≤ (coming_of wires tick send).time_us
not_back wires tick send now ends ticks sends =
    end_not_back (next_end wires) (tick_or_send tick send) now (λ ending is. let own = (ends_first wires ending is).own in ends ending.line ending.flight own) (tick_not_back tick send now ticks sends)

-- a line is changed so that what is on its way there was before, or ends at that time or later
changed : (wires : Wires) (line : ℕ) (wire : Wire) (time : ℕ) → line < 5
    → ((flight : Flight) → wire.flight ≡ Some flight → ((wire_at wires line).flight ≡ Some flight) ⊎ (time ≤ flight.end_us))
    → NoneEndsBefore wires time → NoneEndsBefore (with_wire wires line wire) time
changed wires line wire time small from ends other flight on = elim (cases_eq other line) [
  | inl same ↦
      let at = ap (λ (i : ℕ). (wire_at (with_wire wires line wire) i).flight) same in
      let own = ap (λ (w : Wire). w.flight) (own_wire wires line wire small) in
      let busy : wire.flight ≡ Some flight = sym (at ∙ own) ∙ on.1 in
      elim (from flight busy) [ inl was ↦ ends line flight (small, was) | inr late ↦ late ]
  | inr apart ↦
      let at = ap (λ (w : Wire). w.flight) (other_wire wires line wire other small on.0 apart) in
      ends other flight (on.0, sym at ∙ on.1)
]

-- a call that is made at a time or later leaves it so that none ended before
kept_on : (wires : Wires) (line time : ℕ) (call : Call) → line < 5 → IsNotBack time call → NoneEndsBefore wires time → NoneEndsBefore (with_wire wires line (called call (wire_at wires line))) time
kept_on wires line time Pull small back = changed wires line _ time small (λ flight on. inl on)
kept_on wires line time Plug small back = changed wires line _ time small (λ flight on. inl on)
kept_on wires line time (BeLate late) small back = changed wires line _ time small (λ flight on. inl on)
kept_on wires line time (Sending now width) small back = changed wires line _ time small (λ flight on. elim (sent_flight now width (wire_at wires line) flight on) [ inl was ↦ inl was | inr h ↦ inr (let later = h.1 in omega arith) ])
kept_on wires line time (Add now width) small back = changed wires line _ time small (λ flight on. elim (added_flight now width (wire_at wires line) flight on) [ inl was ↦ inl was | inr h ↦ inr (let later = h.1 in omega arith) ])
kept_on wires line time (Take now) small back = changed wires line _ time small (λ flight on. inl (taken_flight now (wire_at wires line) flight on))

pub kept : (wires : Wires) (on : LineCall) (time : ℕ) → on.line < 5 → IsNotBack time on.call → NoneEndsBefore wires time → NoneEndsBefore (called_on on wires) time
kept wires on time small back ends = kept_on wires on.line time on.call small back ends

-- what is taken ends now, if none ended before
pub taken_at_end : (wires : Wires) (line now : ℕ) (flight : Flight) → line < 5 → NoneEndsBefore wires now → ended now (wire_at wires line).flight ≡ Some flight → flight.end_us ≡ now
taken_at_end wires line now flight small ends is = go (wire_at wires line).flight refl
  where
    go : (o : Option Flight) → (wire_at wires line).flight ≡ o → flight.end_us ≡ now
    go None free = absurd (let none = (taken_free now (wire_at wires line) free).1 in cc)
    go (Some other) busy = elim (taken_busy now (wire_at wires line) other busy) [
      | inl h ↦
          let one = h.1 in
          let same : other ≡ flight = cc in
          let past = h.2 in
          let not_before = ends line other (small, busy) in
          let now_is : other.end_us ≡ now = omega arith in
          ap (λ (f : Flight). f.end_us) (sym same) ∙ now_is
      | inr h ↦ absurd (let none = h.1 in cc)
    ]

-- what has ended and is taken is on its way no more
is_taken : (wires : Wires) (ending : Ending) (flight : Flight) → EndsFirst wires ending → (wire_at (behind_end wires ending) ending.line).flight ≡ Some flight → ⊥
is_taken wires ending flight first on =
    let wire = wire_at wires ending.line in
    let own = ap (λ (w : Wire). w.flight) (own_wire wires ending.line (taken ending.flight.end_us wire) first.own.0) in
    elim (taken_busy ending.flight.end_us wire ending.flight first.own.1) [
      | inl h ↦ let none = ap (λ (w : Wire). w.flight) h.0 in cc
      | inr h ↦ absurd (let ahead = h.2 in omega arith)
    ]

-- of two ends in a row the second does not come before the first, and if both come at one time it is that
-- of a higher line
pub in_a_row : (wires : Wires) (first next : Ending) → next_end wires ≡ Some first → next_end (behind_end wires first) ≡ Some next → (first.flight.end_us ≤ next.flight.end_us) × (first.flight.end_us ≡ next.flight.end_us → first.line < next.line)
in_a_row wires first next one two =
    let ends = ends_first wires first one in
    let then = ends_first (behind_end wires first) next two in
    elim (cases_eq next.line first.line) [
      | inl same ↦ absurd (let at = ap (λ (i : ℕ). (wire_at (behind_end wires first) i).flight) same in is_taken wires first next.flight ends (sym at ∙ then.own.1))
      | inr apart ↦
          let at = ap (λ (w : Wire). w.flight) (other_wire wires first.line _ next.line ends.own.0 then.own.0 apart) in
          let on : IsOnItsWay wires next.line next.flight = (then.own.0, sym at ∙ then.own.1) in (
            ends.first next.line next.flight on,
            λ together. elim (cases_lt first.line next.line) [
              | inl lower ↦ lower
              | inr not_lower ↦
                  let less : next.line < first.line = elim (cases_lt next.line first.line) [ inl less ↦ less | inr more ↦ absurd (apart (omega arith)) ] in
                  absurd (let later = ends.lowest next.line next.flight on less in omega arith)
            ],
          )
    ]

-- ---- line by line

-- the earlier of two ends, unless something else comes before, is the first, unless the second or
-- that does
pub ends_join : (first next : Option Ending) (other : Coming) → end_or (earlier_end first next) other ≡ end_or first (end_or next other)
ends_join None next other = refl
ends_join (Some f) None other = refl
ends_join (Some f) (Some g) other = elim (cases_Bool (nat_lt g.flight.end_us f.flight.end_us)) [
  | inl under ↦ elim (cases_Bool (nat_le g.flight.end_us other.time_us)) [
    | inl soon ↦
        let later : nat_le f.flight.end_us g.flight.end_us ≡ false = lt-leb f.flight.end_us g.flight.end_us (ltb-true g.flight.end_us f.flight.end_us under) in
        rw (under, soon, later) refl
    | inr late ↦
        let later : nat_le f.flight.end_us other.time_us ≡ false = lt-leb f.flight.end_us other.time_us (omega (arith, leb-false g.flight.end_us other.time_us late, ltb-true g.flight.end_us f.flight.end_us under)) in
        rw (under, late, later) refl
  ]
  | inr over ↦ elim (cases_Bool (nat_le f.flight.end_us other.time_us)) [
    | inl soon ↦ elim (cases_Bool (nat_le g.flight.end_us other.time_us)) [
      | inl both ↦
          let first : nat_le f.flight.end_us g.flight.end_us ≡ true = le-leb f.flight.end_us g.flight.end_us (ltb-false g.flight.end_us f.flight.end_us over) in
          rw (over, both, first, soon) refl
      | inr one ↦ rw (over, one, soon) refl
    ]
    | inr late ↦
        let none : nat_le g.flight.end_us other.time_us ≡ false = lt-leb g.flight.end_us other.time_us (omega (arith, leb-false f.flight.end_us other.time_us late, ltb-false g.flight.end_us f.flight.end_us over)) in
        rw (over, none, late) refl
  ]
]

-- so what happens next is found line by line
pub line_by_line : (wires : Wires) (tick : Option ℕ) (send : ℕ)
    → coming_of wires tick send
    ≡ end_or (ending_on 0 wires.a.flight) (end_or (ending_on 1 wires.b.flight) (end_or (ending_on 2 wires.c.flight) (end_or (ending_on 3 wires.d.flight) (end_or (ending_on 4 wires.e.flight) (tick_or_send tick send)))))
line_by_line wires tick send =
    let a = ending_on 0 wires.a.flight in
    let b = ending_on 1 wires.b.flight in
    let c = ending_on 2 wires.c.flight in
    let d = ending_on 3 wires.d.flight in
    let e = ending_on 4 wires.e.flight in
    let other = tick_or_send tick send in
    ends_join a (earlier_end b (earlier_end c (earlier_end d e))) other
    ∙ ap (end_or a) (ends_join b (earlier_end c (earlier_end d e)) other ∙ ap (end_or b) (ends_join c (earlier_end d e) other ∙ ap (end_or c) (ends_join d e other)))
