-- What is on its way to a simulated device.
-- Source: this project's profile.
use Rattle.std.specs.Prelude.{ℕ, Bool, true, ◌&&◌, nat_lt, nat_le, Option, Some, None}
use Rattle.irig_wires.specs.declared.wire.Flight.{Flight}
use Rattle.irig_wires.specs.declared.wires.Wires.{Wires}

-- a pulse on its way, if there is one, is on one of so many lines, and does not end before it rises
abbrev pub is_flight_on : (ports line : ℕ) → Option Flight → Bool
is_flight_on ports line None = true
is_flight_on ports line (Some flight) =
    nat_lt line ports && nat_le flight.rise_us flight.end_us

-- so is each
abbrev pub are_flights : (ports : ℕ) → Wires → Bool
are_flights ports w =
    is_flight_on ports 0 w.a.flight
    && (is_flight_on ports 1 w.b.flight
    && (is_flight_on ports 2 w.c.flight
    && (is_flight_on ports 3 w.d.flight && is_flight_on ports 4 w.e.flight)))
