-- What becomes of a line by one call, by whether it is free or busy.
use Rattle.std.specs.Prelude.{◌&&◌, nat_le, is_none}
use Rattle.std.proofs.Common.{◌≡◌, ◌∙◌, ℕ, ◌+◌, ◌<◌, ◌≤◌, ◌⊎◌, true, false, Option, Some, None, refl, sym, ap, arith, inl, inr}
use Rattle.std.proofs.lemmas.Bool.{and_right, cases_Bool, leb-true, leb-false}
use Rattle.irig_wires.specs.declared.wire.Flight.{Flight}
use Rattle.irig_wires.specs.declared.wire.Wire.{Wire}
use Rattle.irig_wires.specs.Wires.{added, ended, flight_of, sent, taken}

-- a pulse has ended, or has not
pub ended_or_not : (now : ℕ) (flight : Flight) → ((ended now (Some flight) ≡ Some flight) × (flight.end_us ≤ now)) ⊎ ((ended now (Some flight) ≡ None) × (now < flight.end_us))
ended_or_not now flight = elim (cases_Bool (nat_le flight.end_us now)) [
  | inl past ↦ inl (rw past refl, leb-true _ _ past)
  | inr ahead ↦ inr (rw ahead refl, leb-false _ _ ahead)
]

-- ---- a free line

pub taken_free : (now : ℕ) (wire : Wire) → wire.flight ≡ None → (taken now wire ≡ wire) × (ended now wire.flight ≡ None)
taken_free now wire free = (rw free refl, rw free refl)

pub sent_free : (now width : ℕ) (wire : Wire) → wire.is_plugged ≡ true → wire.flight ≡ None → sent now width wire ≡ record wire { flight = Some (flight_of (now + wire.late_us) width) }
sent_free now width wire in_now free = rw (in_now, free) refl

-- ---- a busy one

pub sent_busy : (now width : ℕ) (wire : Wire) (flight : Flight) → wire.flight ≡ Some flight → sent now width wire ≡ wire
sent_busy now width wire flight on =
    let busy : is_none wire.flight ≡ false = rw on refl in
    let lost : (wire.is_plugged && is_none wire.flight) ≡ false = and_right wire.is_plugged _ busy in rw lost refl

pub added_busy : (now width : ℕ) (wire : Wire) (flight : Flight) → wire.flight ≡ Some flight → added now width wire ≡ wire
added_busy now width wire flight on = rw on refl

-- its pulse is taken, or has not ended
pub taken_busy : (now : ℕ) (wire : Wire) (flight : Flight) → wire.flight ≡ Some flight
    → ((taken now wire ≡ record wire { flight = None }) × (ended now wire.flight ≡ Some flight) × (flight.end_us ≤ now))
    ⊎ ((taken now wire ≡ wire) × (ended now wire.flight ≡ None) × (now < flight.end_us))
taken_busy now wire flight on = elim (ended_or_not now flight) [
  | inl h ↦ inl (rw (on, h.0) refl, rw on h.0, h.1)
  | inr h ↦ inr (rw (on, h.0) refl, rw on h.0, h.1)
]

-- ---- what is on its way behind a call was before, or rises now or later

pub sent_flight : (now width : ℕ) (wire : Wire) (flight : Flight) → (sent now width wire).flight ≡ Some flight → (wire.flight ≡ Some flight) ⊎ ((now ≤ flight.rise_us) × (now ≤ flight.end_us))
sent_flight now width wire flight on = elim (cases_Bool (wire.is_plugged && is_none wire.flight)) [
  | inl new ↦ let then = rw new at on in let is : flight_of (now + wire.late_us) width ≡ flight = cc in inr (rw (← is) (omega arith), rw (← is) (omega arith))
  | inr old ↦ inl (rw old at on)
]

pub added_flight : (now width : ℕ) (wire : Wire) (flight : Flight) → (added now width wire).flight ≡ Some flight → (wire.flight ≡ Some flight) ⊎ ((now ≤ flight.rise_us) × (now ≤ flight.end_us))
added_flight now width wire flight on = elim (cases_Bool (is_none wire.flight)) [
  | inl new ↦ let then = rw new at on in let is : flight_of now width ≡ flight = cc in inr (rw (← is) (omega arith), rw (← is) (omega arith))
  | inr old ↦ inl (rw old at on)
]

pub taken_flight : (now : ℕ) (wire : Wire) (flight : Flight) → (taken now wire).flight ≡ Some flight → wire.flight ≡ Some flight
taken_flight now wire flight on = go wire.flight refl
  where
    go : (o : Option Flight) → wire.flight ≡ o → wire.flight ≡ Some flight
    go None free = sym (ap (λ (w : Wire). w.flight) (taken_free now wire free).0) ∙ on
    go (Some other) busy = elim (taken_busy now wire other busy) [
      | inl h ↦ absurd (let none = sym (ap (λ (w : Wire). w.flight) h.0) ∙ on in cc)
      | inr h ↦ sym (ap (λ (w : Wire). w.flight) h.0) ∙ on
    ]
