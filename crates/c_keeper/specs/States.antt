-- What each line of a timekeeper is, by numbers.
use Rattle.std.specs.Prelude.{ℕ, nat_lt, if◌then◌else◌, Option, Some, None}
use Rattle.irig_vote.specs.Vote.{ports_in}
use Rattle.irig_lines.specs.declared.setup.ClockRules.{ClockRules}
use Rattle.irig_timekeeper.specs.declared.clock.ClockState.{ClockState}
use Rattle.irig_timekeeper.specs.declared.states.LineState.{LineState}
use Rattle.irig_timekeeper.specs.States.{state_of}
use Rattle.c_lines.specs.declared.masks.IrigMasks.{IrigMasks}
use Rattle.c_lines.specs.declared.masks.States.{States}
use Rattle.c_lines.specs.States.{masks_in}

-- what the line of a port is, if it is there
abbrev pub state_if : ClockRules → ClockState → (port : ℕ) → Option LineState
state_if c s port = if nat_lt port (ports_in c.redundancy) then Some (state_of c s port) else None

-- what five lines are
abbrev pub states_of : ClockRules → ClockState → States
states_of c s = record {
  a = state_if c s 0;
  b = state_if c s 1;
  c = state_if c s 2;
  d = state_if c s 3;
  e = state_if c s 4;
}

-- those of the lines of a clock
abbrev pub masks_of : ClockRules → ClockState → IrigMasks
masks_of c s = masks_in (states_of c s)
