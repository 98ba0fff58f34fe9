-- What a cable brings from a generator to a device: one pulse at a time. Times are true microseconds.
-- Source: this project's profile.
use Rattle.std.specs.Prelude.{ℕ, ◌+◌, ◌==◌, ◌&&◌, nat_le, if◌then◌else◌, true, false, List, Option, Some, None, is_some, is_none, slice_index}
use Rattle.irig_wires.specs.declared.wire.Flight.{Flight}
use Rattle.irig_wires.specs.declared.wire.Wire.{Wire}
use Rattle.irig_wires.specs.declared.wires.Wires.{Wires}

-- a cable is at most so late
abbrev pub most_late_us : ℕ
most_late_us = 1999

-- a pulse that rises then, and is so wide
abbrev pub flight_of : (rise width : ℕ) → Flight
flight_of rise width = record { rise_us = rise; end_us = rise + width }

-- a cable that is so late, plugged in, with nothing on its way
abbrev pub wire_of : ℕ → Wire
wire_of late = record { is_plugged = true; late_us = late; flight = None }

-- the cable is out: what is on its way still comes
abbrev pub pulled : Wire → Wire
pulled wire = record wire { is_plugged = false }

-- it is in again
abbrev pub plugged : Wire → Wire
plugged wire = record wire { is_plugged = true }

-- it is so late for what is sent from now on
abbrev pub made_late : ℕ → Wire → Wire
made_late late wire = record wire { late_us = late }

-- a generator sends a pulse now: it rises as many microseconds later as the line is late. If the
-- cable is out, or the line is busy, it is lost
abbrev pub sent : (now width : ℕ) → Wire → Wire
sent now width wire =
    if wire.is_plugged && is_none wire.flight
    then record wire { flight = Some (flight_of (now + wire.late_us) width) }
    else wire

-- a pulse that is added by hand rises now, whether the cable is in or out; if the line is busy,
-- nothing comes of it
abbrev pub added : (now width : ℕ) → Wire → Wire
added now width wire =
    if is_none wire.flight then record wire { flight = Some (flight_of now width) } else wire

-- what was on its way, if it has ended by now
abbrev pub ended : (now : ℕ) → Option Flight → Option Flight
ended now None = None
ended now (Some flight) = if nat_le flight.end_us now then Some flight else None

-- what has ended by now is taken, and the line is free
abbrev pub taken : (now : ℕ) → Wire → Wire
taken now wire = if is_some (ended now wire.flight) then record wire { flight = None } else wire

-- ---- the lines of a device

-- how late the line of a number is by a list; a line that the list does not have is not late
abbrev pub late_at : List ℕ → ℕ → ℕ
late_at late line = slice_index late line

-- the lines of a device, so late each
abbrev pub wires_of : List ℕ → Wires
wires_of late = record {
  a = wire_of (late_at late 0);
  b = wire_of (late_at late 1);
  c = wire_of (late_at late 2);
  d = wire_of (late_at late 3);
  e = wire_of (late_at late 4);
}

-- the line of a number, 0 to 4
abbrev pub wire_at : Wires → ℕ → Wire
wire_at wires line =
    if line == 0 then wires.a
    else (if line == 1 then wires.b
    else (if line == 2 then wires.c
    else (if line == 3 then wires.d
    else wires.e)))

-- the lines, with this one at a number, 0 to 4
abbrev pub with_wire : Wires → ℕ → Wire → Wires
with_wire wires line wire =
    if line == 0 then record wires { a = wire }
    else (if line == 1 then record wires { b = wire }
    else (if line == 2 then record wires { c = wire }
    else (if line == 3 then record wires { d = wire }
    else record wires { e = wire })))
