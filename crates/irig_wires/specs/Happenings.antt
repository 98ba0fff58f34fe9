-- What happens next to a device. At one time pulses that end come first, by the number of their line,
-- then the tick, then what generators send.
-- Source: this project's profile.
use Rattle.std.specs.Prelude.{ℕ, nat_le, nat_lt, if◌then◌else◌, Option, Some, None}
use Rattle.irig_wires.specs.declared.wire.Flight.{Flight}
use Rattle.irig_wires.specs.declared.wires.Wires.{Wires}
use Rattle.irig_wires.specs.declared.wires.Ending.{Ending}
use Rattle.irig_wires.specs.declared.wires.Coming.{Coming}
use Rattle.irig_wires.specs.declared.wires.Happening.TheVariants.{End, Tick, Send}

-- the end of what is on its way on a line
abbrev pub ending_on : (line : ℕ) → Option Flight → Option Ending
ending_on line None = None
ending_on line (Some flight) = Some (record { line = line; flight = flight })

-- the earlier of two ends; if they fall on one time, the first
abbrev pub earlier_end : Option Ending → Option Ending → Option Ending
earlier_end None next = next
earlier_end (Some first) None = Some first
earlier_end (Some first) (Some next) =
    if nat_lt next.flight.end_us first.flight.end_us then Some next else Some first

-- the earliest end; of equal ends that of the lowest line
abbrev pub next_end : Wires → Option Ending
next_end wires =
    earlier_end (ending_on 0 wires.a.flight)
    (earlier_end (ending_on 1 wires.b.flight)
    (earlier_end (ending_on 2 wires.c.flight)
    (earlier_end (ending_on 3 wires.d.flight) (ending_on 4 wires.e.flight))))

-- the tick, unless generators send before
abbrev pub tick_or_send : (tick : Option ℕ) → (send : ℕ) → Coming
tick_or_send None send = record { time_us = send; what = Send }
tick_or_send (Some tick) send =
    if nat_le tick send then record { time_us = tick; what = Tick }
    else record { time_us = send; what = Send }

-- the end of a pulse, unless something else comes before
abbrev pub end_or : Option Ending → Coming → Coming
end_or None other = other
end_or (Some ending) other =
    if nat_le ending.flight.end_us other.time_us
    then record { time_us = ending.flight.end_us; what = End ending }
    else other

-- what happens next
abbrev pub coming_of : Wires → (tick : Option ℕ) → (send : ℕ) → Coming
coming_of wires tick send = end_or (next_end wires) (tick_or_send tick send)
