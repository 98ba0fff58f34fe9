-- What is on its way to a device.
use Rattle.std.proofs.Common.{◌≡◌, ◌∙◌, ℕ, zero, suc, ◌+◌, ◌<◌, ◌≤◌, ◌⊎◌, Bool, true, false, Option, Some, None, refl, sym, ap, arith, inl, inr, subst}
use Rattle.std.specs.Prelude.{nat_lt, nat_le, ◌&&◌, is_none}
use Rattle.std.proofs.lemmas.Bool.{and_from, cases_Bool, le-leb, leb-true, lt-ltb, ltb-true}
use Rattle.irig_wires.specs.declared.wire.Flight.{Flight}
use Rattle.irig_wires.specs.declared.wire.Wire.{Wire}
use Rattle.irig_wires.specs.declared.wires.Wires.{Wires}
use Rattle.irig_wires.specs.Wires.{added, flight_of, sent, taken, wire_at, with_wire}
use Rattle.irig_frame.specs.declared.symbol.Symbol.{Symbol}
use Rattle.irig_frame.specs.Symbols.{width_of}
use Rattle.irig_vote.specs.declared.redundancy.Redundancy.{Redundancy}
use Rattle.irig_vote.specs.declared.redundancy.Redundancy.TheVariants as of
use Rattle.irig_vote.specs.Vote.{ports_in}
use Rattle.irig_simulated.specs.Courses.{sent_if}
use Rattle.irig_wires.proofs.WireLaws.{taken_flight}
use Rattle.irig_simulated.specs.Flights.{are_flights, is_flight_on}

both : (a b : Bool) → (a && b) ≡ true → (a ≡ true) × (b ≡ true)
both true b e = (refl, e)
both false b e = absurd cc

-- each line of the five
record AreEach (ports : ℕ) (w : Wires) : Type 0 where
  a : is_flight_on ports 0 w.a.flight ≡ true
  b : is_flight_on ports 1 w.b.flight ≡ true
  c : is_flight_on ports 2 w.c.flight ≡ true
  d : is_flight_on ports 3 w.d.flight ≡ true
  e : is_flight_on ports 4 w.e.flight ≡ true

each : (ports : ℕ) (w : Wires) → are_flights ports w ≡ true → AreEach ports w
each ports w are =
    let a = both (is_flight_on ports 0 w.a.flight) (is_flight_on ports 1 w.b.flight && (is_flight_on ports 2 w.c.flight && (is_flight_on ports 3 w.d.flight && is_flight_on ports 4 w.e.flight))) are in
    let b = both (is_flight_on ports 1 w.b.flight) (is_flight_on ports 2 w.c.flight && (is_flight_on ports 3 w.d.flight && is_flight_on ports 4 w.e.flight)) a.1 in
    let c = both (is_flight_on ports 2 w.c.flight) (is_flight_on ports 3 w.d.flight && is_flight_on ports 4 w.e.flight) b.1 in
    let d = both (is_flight_on ports 3 w.d.flight) (is_flight_on ports 4 w.e.flight) c.1 in
    record { a = a.0; b = b.0; c = c.0; d = d.0; e = d.1 }

all : (ports : ℕ) (w : Wires) → AreEach ports w → are_flights ports w ≡ true
all ports w is = and_from _ _ is.a (and_from _ _ is.b (and_from _ _ is.c (and_from _ _ is.d is.e)))

pub flight_at : (ports : ℕ) (w : Wires) (line : ℕ) → line < 5 → are_flights ports w ≡ true → is_flight_on ports line (wire_at w line).flight ≡ true
flight_at ports w zero less are = (each ports w are).a
flight_at ports w (suc zero) less are = (each ports w are).b
flight_at ports w (suc (suc zero)) less are = (each ports w are).c
flight_at ports w (suc (suc (suc zero))) less are = (each ports w are).d
flight_at ports w (suc (suc (suc (suc zero)))) less are = (each ports w are).e
flight_at ports w (suc (suc (suc (suc (suc n))))) less are = absurd (omega (arith, less))

-- and back: another line in its place leaves the others
pub flights_with : (ports : ℕ) (w : Wires) (line : ℕ) (wire : Wire) → line < 5 → are_flights ports w ≡ true → is_flight_on ports line wire.flight ≡ true → are_flights ports (with_wire w line wire) ≡ true
flights_with ports w zero wire less are is = (let x = each ports w are in all ports (with_wire w 0 wire) (record { a = is; b = x.b; c = x.c; d = x.d; e = x.e }))
flights_with ports w (suc zero) wire less are is = (let x = each ports w are in all ports (with_wire w 1 wire) (record { a = x.a; b = is; c = x.c; d = x.d; e = x.e }))
flights_with ports w (suc (suc zero)) wire less are is = (let x = each ports w are in all ports (with_wire w 2 wire) (record { a = x.a; b = x.b; c = is; d = x.d; e = x.e }))
flights_with ports w (suc (suc (suc zero))) wire less are is = (let x = each ports w are in all ports (with_wire w 3 wire) (record { a = x.a; b = x.b; c = x.c; d = is; e = x.e }))
flights_with ports w (suc (suc (suc (suc zero)))) wire less are is = (let x = each ports w are in all ports (with_wire w 4 wire) (record { a = x.a; b = x.b; c = x.c; d = x.d; e = is }))
flights_with ports w (suc (suc (suc (suc (suc n))))) wire less are is = absurd (omega (arith, less))

-- a pulse that is as it was, or is sent on a line that there is, is one
flight_is : (ports line : ℕ) (old new : Option Flight) → is_flight_on ports line old ≡ true → ((x : Flight) → new ≡ Some x → (old ≡ Some x) ⊎ ((line < ports) × (x.rise_us ≤ x.end_us))) → is_flight_on ports line new ≡ true
flight_is ports line old None is from = refl
flight_is ports line old (Some x) is from = elim (from x refl) [
  | inl was ↦ subst (λ (o : Option Flight). is_flight_on ports line o ≡ true) was is
  | inr h ↦ and_from _ _ (lt-ltb line ports h.0) (le-leb x.rise_us x.end_us h.1)
]

pub sent_is : (ports line now width : ℕ) (wire : Wire) → line < ports → is_flight_on ports line wire.flight ≡ true → is_flight_on ports line (sent now width wire).flight ≡ true
sent_is ports line now width wire less is = flight_is ports line wire.flight (sent now width wire).flight is (λ x on. go x on)
  where
    go : (x : Flight) → (sent now width wire).flight ≡ Some x → (wire.flight ≡ Some x) ⊎ ((line < ports) × (x.rise_us ≤ x.end_us))
    go x on = elim (cases_Bool (wire.is_plugged && is_none wire.flight)) [
      | inl new ↦ let then = rw new at on in let same : flight_of (now + wire.late_us) width ≡ x = cc in inr (less, rw (← same) (omega arith))
      | inr old ↦ inl (rw old at on)
    ]

pub added_is : (ports line now width : ℕ) (wire : Wire) → line < ports → is_flight_on ports line wire.flight ≡ true → is_flight_on ports line (added now width wire).flight ≡ true
added_is ports line now width wire less is = flight_is ports line wire.flight (added now width wire).flight is (λ x on. go x on)
  where
    go : (x : Flight) → (added now width wire).flight ≡ Some x → (wire.flight ≡ Some x) ⊎ ((line < ports) × (x.rise_us ≤ x.end_us))
    go x on = elim (cases_Bool (is_none wire.flight)) [
      | inl new ↦ let then = rw new at on in let same : flight_of now width ≡ x = cc in inr (less, rw (← same) (omega arith))
      | inr old ↦ inl (rw old at on)
    ]

pub taken_is : (ports line now : ℕ) (wire : Wire) → is_flight_on ports line wire.flight ≡ true → is_flight_on ports line (taken now wire).flight ≡ true
taken_is ports line now wire is = flight_is ports line wire.flight (taken now wire).flight is (λ x on. inl (taken_flight now wire x on))

-- what it says of a pulse
pub flight_says : (ports line : ℕ) (x : Flight) → is_flight_on ports line (Some x) ≡ true → (line < ports) × (x.rise_us ≤ x.end_us)
flight_says ports line x is = (let e = both _ _ is in (ltb-true line ports e.0, leb-true x.rise_us x.end_us e.1))

-- ---- the lines of a device

pub few_ports : (r : Redundancy) → ports_in r ≤ 5
few_ports of.One = omega arith
few_ports of.Three = omega arith
few_ports of.Five = omega arith

module _ (r : Redundancy) (w : Wires) (are : are_flights (ports_in r) w ≡ true) where
  pub flights_added : (line now width : ℕ) → line < ports_in r → are_flights (ports_in r) (with_wire w line (added now width (wire_at w line))) ≡ true
  flights_added line now width less =
      let few : line < 5 = omega (arith, less, few_ports r) in
      flights_with (ports_in r) w line (added now width (wire_at w line)) few are (added_is (ports_in r) line now width (wire_at w line) less (flight_at (ports_in r) w line few are))

  pub flights_taken : (line now : ℕ) → line < 5 → are_flights (ports_in r) (with_wire w line (taken now (wire_at w line))) ≡ true
  flights_taken line now few =
      flights_with (ports_in r) w line (taken now (wire_at w line)) few are (taken_is (ports_in r) line now (wire_at w line) (flight_at (ports_in r) w line few are))

  pub flights_sent : (line now : ℕ) (symbol : Option Symbol) → line < 5 → ((s : Symbol) → symbol ≡ Some s → line < ports_in r) → are_flights (ports_in r) (with_wire w line (sent_if symbol now (wire_at w line))) ≡ true
  flights_sent line now None few from = flights_with (ports_in r) w line (wire_at w line) few are (flight_at (ports_in r) w line few are)
  flights_sent line now (Some s) few from = flights_with (ports_in r) w line (sent now (width_of s) (wire_at w line)) few are (sent_is (ports_in r) line now (width_of s) (wire_at w line) (from s refl) (flight_at (ports_in r) w line few are))
