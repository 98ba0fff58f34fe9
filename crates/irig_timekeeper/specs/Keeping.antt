-- A timekeeper as a value, and what becomes of it by a call.
-- Source: this project's profile.
use Rattle.std.specs.Prelude.{ℕ, ◌==◌, if◌then◌else◌, List, [], Option, Some, None}
use Rattle.irig_frame.specs.declared.symbol.Symbol.{Symbol}
use Rattle.irig_sync.specs.Sync.{place_of}
use Rattle.irig_time.specs.declared.rules.Rules.{Rules}
use Rattle.irig_time.specs.Tables.{TableValue}
use Rattle.irig_port.specs.Limits.{quality_in, told_within}
use Rattle.irig_port.specs.Hearing.{heard_at}
use Rattle.irig_reader.specs.declared.rule.State.TheVariants.{Idle}
use Rattle.irig_lines.specs.declared.lines.Vote.{Vote}
use Rattle.irig_lines.specs.declared.lines.Lines.{Lines}
use Rattle.irig_timekeeper.specs.declared.clock.Beat.{Beat}
use Rattle.irig_lines.specs.declared.setup.ClockRules.{ClockRules}
use Rattle.irig_timekeeper.specs.declared.clock.ClockState.{ClockState}
use Rattle.irig_timekeeper.specs.declared.stamp.Stamp.{Stamp}
use Rattle.irig_lines.specs.declared.rate.Rate.{Rate}
use Rattle.irig_lines.specs.Rates.{no_anchors, rate_of, serving}
use Rattle.irig_lines.specs.Steps.{is_pulse, line_heard, line_at, with_line}
use Rattle.irig_timekeeper.specs.Clock.{clock_after, clock_answer, clock_wait, vote_of_lines}
use Rattle.irig_timekeeper.specs.Stamps.{stamp_of}

-- what the ports stand for
pub record Heard : Type 0 where
  pub a : List Symbol
  pub b : List Symbol
  pub c : List Symbol
  pub d : List Symbol
  pub e : List Symbol

-- what a port stands for
abbrev pub heard_by : Heard → ℕ → List Symbol
heard_by heard port =
    if port == 0 then heard.a
    else (if port == 1 then heard.b
    else (if port == 2 then heard.c
    else (if port == 3 then heard.d
    else heard.e)))

-- the same, but that a port stands for these symbols
abbrev pub with_heard : Heard → ℕ → List Symbol → Heard
with_heard heard port s =
    if port == 0 then record heard { a = s }
    else (if port == 1 then record heard { b = s }
    else (if port == 2 then record heard { c = s }
    else (if port == 3 then record heard { d = s }
    else record heard { e = s })))

-- what it was made of, what its ports heard, and where its clock stands
pub record Keeping : Type 0 where
  pub rules : Rules
  pub clock : ClockRules
  pub table : TableValue
  pub heard : Heard
  pub state : ClockState

-- no port has heard anything
abbrev pub nothing_heard : Heard
nothing_heard = record { a = []; b = []; c = []; d = []; e = [] }

-- a clock that nobody has set, with these lines
abbrev pub new_state : Lines → ClockState
new_state lines = record {
  lines = lines;
  reader = Idle;
  edge_us = None;
  bound_us = 0;
  interval = None;
  anchors = no_anchors;
  pace = None;
  strays = 0;
  doubt = 0;
  moved = 0;
  last = None;
  before = None;
  ended = None;
  ended_before = None;
}

-- nothing has happened, on lines on which nothing came
abbrev pub new_keeping : Rules → ClockRules → TableValue → Lines → Keeping
new_keeping rules clock table lines = record {
  rules = rules;
  clock = clock;
  table = table;
  heard = nothing_heard;
  state = new_state lines;
}

-- ---- a pulse

-- its place, 0 if it is none
abbrev pub place_told : Keeping → ℕ → ℕ → ℕ → ℕ
place_told k port rise width =
    if is_pulse width then place_of (line_at k.state.lines port).sync rise width else 0

-- what a port stands for behind a pulse
abbrev pub heard_then : Keeping → ℕ → ℕ → ℕ → List Symbol
heard_then k port rise width =
    heard_at (place_of (line_at k.state.lines port).sync rise width) (heard_by k.heard port) width

-- the clock with these lines
abbrev pub with_lines : ClockState → Lines → ClockState
with_lines s lines = record s { lines = lines }

-- one more on the line of a port
abbrev pub one_pulse_more : Keeping → ℕ → ℕ → ℕ → Keeping
one_pulse_more k port rise width = record k {
  heard = with_heard k.heard port (heard_then k port rise width);
  state = with_lines k.state (with_line k.state.lines port
      (line_heard k.clock (line_at k.state.lines port) rise width
      (told_within (Some k.clock.limits.limits) k.rules (heard_then k port rise width))
      (quality_in (heard_then k port rise width))));
}

-- behind a pulse, which is none if it is half a second wide or wider
abbrev pub after_pulse : Keeping → ℕ → ℕ → ℕ → Keeping
after_pulse k port rise width = if is_pulse width then one_pulse_more k port rise width else k

-- ---- a tick

-- the edge on which lines agree, if it has come
abbrev pub vote_at : Keeping → ℕ → Option Vote
vote_at k now = vote_of_lines k.clock k.state now

-- what a tick leaves
abbrev pub after_tick : Keeping → ℕ → Keeping
after_tick k now = record k { state = clock_after k.clock k.table k.state now }

-- what it answers
abbrev pub answer_at : Keeping → ℕ → Option Beat
answer_at k now = clock_answer k.clock k.table k.state now

-- ---- other calls

-- after a restart, with lines on which nothing came
abbrev pub restarted : Keeping → Lines → Keeping
restarted k lines = record k { heard = nothing_heard; state = new_state lines }

-- how long until a tick has something to do, if no call comes before it
abbrev pub wait_at : Keeping → ℕ → ℕ
wait_at k now = clock_wait k.clock k.state now

-- the stamp of an event
abbrev pub stamp_at : Keeping → ℕ → Option Stamp
stamp_at k time = stamp_of k.state.last k.state.before time

-- what is measured of the counter
abbrev pub rate_at : Keeping → Option Rate
rate_at k = rate_of k.state.interval (serving k.state.anchors)
