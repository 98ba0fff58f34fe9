-- What is said of a line, by numbers.
use Rattle.std.specs.Prelude.{ℕ, ◌==◌, nat_lt, if◌then◌else◌, ◌||◌, is_some, Option, Some, None, ℤ, pos, neg_ℤ}
use Rattle.irig_sync.specs.Sync.{clock_gap}
use Rattle.irig_time.specs.declared.second.UtcSecond.{UtcSecond}
use Rattle.irig_time.specs.Seconds.{same_second}
use Rattle.irig_port.specs.declared.told.Told.{Told}
use Rattle.irig_port.specs.declared.told.Told.TheVariants as tells
use Rattle.irig_lines.specs.declared.lines.KeptFrame.{KeptFrame}
use Rattle.irig_lines.specs.declared.lines.Lines.{Lines}
use Rattle.irig_lines.specs.declared.setup.ClockRules.{ClockRules}
use Rattle.irig_timekeeper.specs.declared.stamp.Announced.{Announced}
use Rattle.irig_timekeeper.specs.declared.clock.ClockState.{ClockState}
use Rattle.irig_timekeeper.specs.States.{state_of}
use Rattle.irig_lines.specs.Steps.{line_at}
use Rattle.c_numbers.specs.Reports.{told_in}
use Rattle.c_keeper.specs.declared.said.IrigLineSaid.{IrigLineSaid}
use Rattle.c_lines.specs.States.{number_of}

-- the second that a claim is of
abbrev pub second_told : Told → Option UtcSecond
second_told (tells.Claim c) = Some c.at
second_told tells.Silence = None
second_told (tells.Fault f) = None
second_told (tells.Poor q) = None

-- the second that a frame claims
abbrev pub second_claimed : Option KeptFrame → Option UtcSecond
second_claimed None = None
second_claimed (Some f) = second_told f.told

-- the edge at which a second ended, if it is this one
abbrev pub edge_for : UtcSecond → Option Announced → Option ℕ
edge_for u None = None
edge_for u (Some a) = if same_second a.second u then Some a.edge_us else None

-- the first of two, or the second
abbrev pub first_of : Option ℕ → Option ℕ → Option ℕ
first_of None y = y
first_of (Some x) y = Some x

-- where a frame ends, if it claims this second
abbrev pub end_if : UtcSecond → (end : ℕ) → Option UtcSecond → Option ℕ
end_if u end None = None
end_if u end (Some v) = if same_second v u then Some end else None

-- the same of a line's last frame
abbrev pub end_of : UtcSecond → Option KeptFrame → Option ℕ
end_of u None = None
end_of u (Some f) = end_if u f.end_us (second_told f.told)

-- where another line's frame of this second ends
abbrev pub end_beside : Lines → (port other : ℕ) → UtcSecond → Option ℕ
end_beside lines port other u = if other == port then None else end_of u (line_at lines other).seen

-- where the first other line's frame of this second ends
abbrev pub first_end : Lines → (port : ℕ) → UtcSecond → Option ℕ
first_end lines port u =
    first_of (first_of (first_of (first_of (end_beside lines port 0 u) (end_beside lines port 1 u))
    (end_beside lines port 2 u)) (end_beside lines port 3 u)) (end_beside lines port 4 u)

-- how far an end lies behind a time, or before it, if that is known and less than two seconds off
abbrev pub off_from : Option ℕ → (end : ℕ) → ℤ
off_from None end = pos 0
off_from (Some time) end =
    if nat_lt (clock_gap time end) 2000000 then pos (clock_gap time end)
    else (if nat_lt (clock_gap end time) 2000000 then neg_ℤ (pos (clock_gap end time)) else pos 0)

-- the told edge at which a second ended
abbrev pub edge_told : ClockState → UtcSecond → Option ℕ
edge_told s u = first_of (edge_for u s.ended) (edge_for u s.ended_before)

-- by the told edge of its second, or while none is told by another line's end
abbrev pub off_by : ClockState → (port : ℕ) → UtcSecond → (end : ℕ) → ℤ
off_by s port u end =
    if is_some (edge_told s u) || is_some s.ended then off_from (edge_told s u) end
    else off_from (first_end s.lines port u) end

-- of a frame that claims no second it is 0
abbrev pub off_if : ClockState → (port end : ℕ) → Option UtcSecond → ℤ
off_if s port end None = pos 0
off_if s port end (Some u) = off_by s port u end

-- by its last whole frame
abbrev pub said_by : ClockState → (port number : ℕ) → Option KeptFrame → IrigLineSaid
said_by s port number None = record {
  state = number;
  told = told_in tells.Silence;
  end_us = 0;
  off_us = pos 0;
}
said_by s port number (Some f) = record {
  state = number;
  told = told_in f.told;
  end_us = f.end_us;
  off_us = off_if s port f.end_us (second_told f.told);
}

-- what is said of the line of a port
abbrev pub said_of : ClockRules → ClockState → (port : ℕ) → IrigLineSaid
said_of c s port = said_by s port (number_of (state_of c s port)) (line_at s.lines port).seen
