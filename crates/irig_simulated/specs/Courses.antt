-- The course of a simulated device: what becomes of it while true time passes. At one time pulses that
-- end come first, by the number of their line, then the tick, then what generators send.
-- Source: docs/SCENARIOS.md; this project's profile.
use Rattle.std.specs.Prelude.{ℕ, Bool, ◌&&◌, zero, suc, ◌+◌, ◌-◌, ◌*◌, ◌/◌, ◌%◌, ◌^◌, ◌==◌, min, max, nat_le, nat_lt, if◌then◌else◌, List, [], ◌∷◌, ◌++◌, Option, Some, None}
use Rattle.irig_frame.specs.declared.symbol.Symbol.{Symbol}
use Rattle.irig_frame.specs.Symbols.{width_of}
use Rattle.irig_sync.specs.Sync.{clock_gap}
use Rattle.irig_timekeeper.specs.declared.clock.Beat.{Beat}
use Rattle.irig_timekeeper.specs.declared.stamp.Stamp.{Stamp}
use Rattle.irig_timekeeper.specs.Keeping.{answer_at, place_told, stamp_at}
use Rattle.irig_timekeeper.specs.Life.{Call}
use Rattle.irig_timekeeper.specs.Life.Call.{Hear, Tick}
use Rattle.irig_timekeeper.specs.Lived.{keeping_after}
use Rattle.irig_lives.specs.Decided.{in_order}
use Rattle.irig_wires.specs.declared.wire.Wire.{Wire}
use Rattle.irig_wires.specs.declared.wires.Wires.{Wires}
use Rattle.irig_wires.specs.declared.wires.Ending.{Ending}
use Rattle.irig_wires.specs.declared.wires.Coming.{Coming}
use Rattle.irig_wires.specs.declared.wires.Happening.{Happening}
use Rattle.irig_wires.specs.declared.wires.Happening.TheVariants as happens
use Rattle.irig_wires.specs.Oscillator.{counter_at, edges_by, time_of}
use Rattle.irig_wires.specs.Wires.{sent, wire_at, wires_of, with_wire}
use Rattle.irig_wires.specs.Happenings.{coming_of}
use Rattle.irig_wires.specs.Order.{behind_end}
use Rattle.irig_witness.specs.Devices.{wait_until_asked}
use Rattle.irig_witness.specs.Witness.{is_kept, lines_by}
use Rattle.irig_simulated.specs.declared.setup.Ticking.{Ticking}
use Rattle.irig_simulated.specs.declared.setup.Ticking.TheVariants.{ByWait, Each, ByHand}
use Rattle.irig_simulated.specs.declared.told_second.ToldSecond.{ToldSecond}
use Rattle.irig_simulated.specs.Kinds.{Kind, count}

-- where it stands: the present time; the calls since it was made or restarted, the newest first, and
-- what its counter showed then; its lines; when it is ticked next, if it is, and when generators send
-- next; and the seconds that it told, the oldest first. Times are true ones
pub record Course : Type 0 where
  pub now : ℕ
  pub calls : List Call
  pub start : ℕ
  pub wires : Wires
  pub tick : Option ℕ
  pub send : ℕ
  pub told : List ToldSecond

-- ---- when it is ticked

-- how long it asks at a time to wait, in a life that began when its counter showed so much
abbrev pub wait_after : Kind → (start : ℕ) → List Call → (time : ℕ) → ℕ
wait_after k start calls time = wait_until_asked k.made start calls (count k time)

-- when a counter first shows so much more than at a time, and not before that time
abbrev pub counted_on : (first rate time more : ℕ) → ℕ
counted_on first rate time more =
    max time (time_of first rate (counter_at first rate time + more))

-- when it is ticked next, that asks at a time to wait so long
abbrev pub next_tick : Ticking → (first rate time wait : ℕ) → Option ℕ
next_tick ByWait first rate time wait = Some (counted_on first rate time wait)
next_tick (Each us) first rate time wait = Some (time + us)
next_tick ByHand first rate time wait = None

-- behind the last pulse of a frame it asks anew; what is ticked otherwise does not ask
abbrev pub tick_after_frame : Ticking → (first rate time wait : ℕ) → Option ℕ → Option ℕ
tick_after_frame ByWait first rate time wait tick = Some (counted_on first rate time wait)
tick_after_frame _ first rate time wait tick = tick

-- when it is made or restarted at a time
abbrev pub tick_at_first : Kind → (time : ℕ) → Option ℕ
tick_at_first k time = next_tick k.ticking k.first k.rate time (wait_after k (count k time) [] time)

-- ---- a pulse has ended

-- how wide it is by the counter, as far as a word of 32 bits counts
abbrev pub width_by : Kind → (rise now : ℕ) → ℕ
width_by k rise now = min (count k now - count k rise) (2 ^ 32 - 1)

-- that call
abbrev pub hearing : Kind → (now : ℕ) → Ending → Call
hearing k now e = Hear e.line (count k e.flight.rise_us) (width_by k e.flight.rise_us now)

-- its place in its frame, 0 out of step
abbrev pub place_heard : Kind → List Call → (now : ℕ) → Ending → ℕ
place_heard k calls now e =
    place_told (keeping_after k.made calls) e.line (count k e.flight.rise_us % 2 ^ 32)
    (width_by k e.flight.rise_us now)

-- the device is told it now
abbrev pub heard : Kind → Course → Ending → Course
heard k x e = record x {
  calls = hearing k x.now e ∷ x.calls;
  wires = behind_end x.wires e;
  tick = if place_heard k x.calls x.now e == 100
      then tick_after_frame k.ticking k.first k.rate x.now
      (wait_after k x.start (hearing k x.now e ∷ x.calls) x.now) x.tick
      else x.tick;
}

-- ---- a tick

-- when a second was told to begin by the counter, which showed so much at the tick
abbrev pub told_count_of : (now : ℕ) → Beat → ℕ
told_count_of now beat = now - clock_gap beat.edge_us (now % 2 ^ 32)

-- the number of the edge to which a count lies nearest
abbrev pub edge_near : (first rate shown : ℕ) → ℕ
edge_near first rate shown = (shown + rate / 2 - first) / rate

-- a told second, beside the true edge to which its own lies nearest
abbrev pub told_second : (first rate shown : ℕ) → Beat → ToldSecond
told_second first rate shown beat = record {
  edge = edge_near first rate shown;
  edge_count = edges_by first rate (edge_near first rate shown);
  told_count = shown;
  beat = beat;
}

-- what a tick adds to what was told
abbrev pub told_if : Kind → (now : ℕ) → Option Beat → List ToldSecond
told_if k now None = []
told_if k now (Some beat) =
    told_second k.first k.rate (told_count_of now beat) beat ∷ []

-- the device is ticked now, and never twice at one count
abbrev pub ticked : Kind → Course → Course
ticked k x = record x {
  calls = Tick (count k x.now) ∷ x.calls;
  tick = next_tick k.ticking k.first k.rate x.now
      (max 1 (wait_after k x.start (Tick (count k x.now) ∷ x.calls) x.now));
  told = x.told ++ told_if k (count k x.now)
      (answer_at (keeping_after k.made x.calls) (count k x.now % 2 ^ 32));
}

-- ---- generators send

-- a line on which a generator sends this symbol, if it sends
abbrev pub sent_if : Option Symbol → (time : ℕ) → Wire → Wire
sent_if None time wire = wire
sent_if (Some symbol) time wire = sent time (width_of symbol) wire

-- a line of a device
abbrev pub sent_on : (ℕ → Option Symbol) → (time line : ℕ) → Wires → Wires
sent_on symbols time line wires =
    with_wire wires line (sent_if (symbols line) time (wire_at wires line))

-- all five
abbrev pub sent_on_all : (ℕ → Option Symbol) → (time : ℕ) → Wires → Wires
sent_on_all symbols time wires =
    sent_on symbols time 4 (sent_on symbols time 3 (sent_on symbols time 2
    (sent_on symbols time 1 (sent_on symbols time 0 wires))))

-- each sends the element that begins now: one each 10 ms
abbrev pub has_sent : (signal : (line element : ℕ) → Option Symbol) → Course → Course
has_sent signal x = record x {
  wires = sent_on_all (λ line. signal line (x.now / 10000)) x.now x.wires;
  send = x.now + 10000;
}

-- ---- time passes

-- what happens next, and when: no time comes back
abbrev pub coming_from : (now : ℕ) → Wires → (tick : Option ℕ) → (send : ℕ) → Coming
coming_from now wires tick send = record {
  time_us = max now (coming_of wires tick send).time_us;
  what = (coming_of wires tick send).what;
}

-- in a course
abbrev pub coming : Course → Coming
coming x = coming_from x.now x.wires x.tick x.send

-- it happens now
abbrev pub happened : Kind → (signal : (line element : ℕ) → Option Symbol) → Happening → Course
    → Course
happened k signal (happens.End e) x = heard k x e
happened k signal happens.Tick x = ticked k x
happened k signal happens.Send x = has_sent signal x

-- what happens next has happened
abbrev pub stepped : Kind → (signal : (line element : ℕ) → Option Symbol) → Course → Course
stepped k signal x =
    happened k signal (coming x).what (record x { now = (coming x).time_us })

-- what happens before a time has happened, so many things at most
abbrev pub played : Kind → (signal : (line element : ℕ) → Option Symbol) → (stop : ℕ)
    → (most : ℕ) → Course → Course
played k signal stop zero x = x
played k signal stop (suc most) x =
    if nat_lt (coming x).time_us stop then played k signal stop most (stepped k signal x) else x

-- more than happen in so many microseconds: at one time a pulse ends on each line, the device is
-- ticked, and generators send
abbrev pub most_in : (us : ℕ) → ℕ
most_in us = 23 * us + 23

-- time passes up to another
abbrev pub passed : Kind → (signal : (line element : ℕ) → Option Symbol) → (stop : ℕ) → Course
    → Course
passed k signal stop x =
    record (played k signal stop (most_in (stop - x.now)) x) { now = stop }

-- ---- by events

-- it is made at edge 0, with lines that are so late
abbrev pub begun_with : Kind → (late : List ℕ) → Course
begun_with k late = record {
  now = 0;
  calls = [];
  start = count k 0;
  wires = wires_of late;
  tick = tick_at_first k 0;
  send = 0;
  told = [];
}

-- it forgets all but its lines, and its counter goes on
abbrev pub begun_anew : Kind → Course → Course
begun_anew k x =
    record x { calls = []; start = count k x.now; tick = tick_at_first k x.now }

-- a line is another
abbrev pub on_line : (line : ℕ) → (Wire → Wire) → Course → Course
on_line line change x =
    record x { wires = with_wire x.wires line (change (wire_at x.wires line)) }

-- what it told was taken
abbrev pub told_taken : Course → Course
told_taken x = record x { told = [] }

-- the stamp that it gives of a time
abbrev pub stamp_said : Kind → Course → (time : ℕ) → Option Stamp
stamp_said k x time = stamp_at (keeping_after k.made x.calls) (count k time % 2 ^ 32)

-- ---- the audit

-- its calls since it was made or restarted kept the premises, beside lines of these symbols
abbrev pub keeps_so_far : Kind → (symbol : (line element : ℕ) → Symbol) → Course → Bool
keeps_so_far k symbol x =
    is_kept k.made.clock (lines_by symbol k.first k.rate) x.start x.calls

-- it may be asked for the stamp of a time: its premises are kept so far, a tick that came now would be
-- in order, and by its counter the time lies in the half hour before
abbrev pub may_stamp : Kind → (symbol : (line element : ℕ) → Symbol) → Course → (time : ℕ) → Bool
may_stamp k symbol x time =
    keeps_so_far k symbol x
    && (in_order x.start k.made.clock.redundancy (Tick (count k x.now) ∷ x.calls)
    && (nat_le (count k time) (count k x.now)
    && nat_le (count k x.now) (count k time + 1800000000)))
