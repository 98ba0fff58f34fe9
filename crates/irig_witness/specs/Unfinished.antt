-- A frame but its last pulse, on one line of a device that is audited.
-- Source: this project's profile.
use Rattle.std.specs.Prelude.{◌≡◌, ℕ, ◌+◌, ◌<◌, ◌==◌, Bool, true, not, ◌&&◌, nat_le, List, ◌++◌}
use Rattle.irig_frame.specs.declared.symbol.Symbol.{Symbol}
use Rattle.irig_sync.specs.Lines.{pulse_at}
use Rattle.irig_port.specs.declared.port.Port.{Ghosts}
use Rattle.irig_port.specs.Heard.{symbols_of}
use Rattle.irig_vote.specs.Vote.{ports_in}
use Rattle.irig_lines.specs.declared.setup.ClockRules.{ClockRules}
use Rattle.irig_lines.specs.Steps.{line_at}
use Rattle.irig_lives.specs.Decided.{is_pulse_of}
use Rattle.irig_timekeeper.specs.Life.{Call}
use Rattle.irig_timekeeper.specs.Lived.{MadeOf}
use Rattle.irig_timekeeper.specs.Unfinished.{AreOfAFrame, hears, most, pulses_by, symbols_by}
use Rattle.irig_wires.specs.Oscillator.{rate_of}
use Rattle.irig_witness.specs.declared.device.Device.{Device}
use Rattle.irig_witness.specs.declared.line.LineWitness.{LineWitness}
use Rattle.irig_witness.specs.declared.watch.Watch.{Watch}
use Rattle.irig_witness.specs.Devices.{IsDeviceOf, edges_of, risen_on}
use Rattle.irig_witness.specs.Elements.{element_near}
use Rattle.irig_witness.specs.Watches.{IsWatchOf, may_hear, witness_at}
use Rattle.irig_witness.specs.Witness.{TrueLines, forgets}

-- what is known of a line behind the pulses of an element and of n more, which are true and were yet to
-- come; the last of them rose then
abbrev pub after_more : LineWitness → (n element rise : ℕ) → LineWitness
after_more a n element rise = record {
  next = element + n + 1;
  before = element + n;
  clear = a.clear;
  again = forgets rise;
  rise = rise;
}

-- by an audit a frame may begin at an element, with a pulse that rose then: that element is yet to come,
-- and the pulse is told in order
abbrev pub may_begin : Watch → (line rise element : ℕ) → Bool
may_begin w line rise element =
    nat_le (witness_at w line).next element && may_hear w line rise

-- the audit hears all pulses of a frame more but its last, which are those of a true line from an
-- element on; the last of them rose at `last`
abbrev pub WatchesUnfinished : (old new : Watch) → (line element last : ℕ) → Type 0
WatchesUnfinished old new line element last =
    (c : ClockRules) (x : TrueLines) (start : ℕ) (calls : List Call) (rise width : ℕ → ℕ)
    → IsWatchOf old c x start calls → line < ports_in c.redundancy → AreOfAFrame rise width
    → last ≡ rise 98 → may_begin old line (rise 0) element ≡ true
    → ((i : ℕ) → i < most
    → (x.near (rise i) ≡ element + i)
    × (is_pulse_of c.within.us (x.symbol line) x.edges (element + i) (pulse_at (rise i) (width i))
    ≡ true))
    → IsWatchOf new c x start (hears line (pulses_by rise width most) ++ calls)

-- a frame that begins at an element, with a pulse that rose then, goes on behind what the line brought:
-- its last pulse was a marker, or it is idle; the frame's first element is yet to come; and its first
-- pulse is told in order
abbrev pub takes_frame : {P : Type 0} {g : Ghosts P} → Device P g → (line rise element : ℕ) → Bool
takes_frame device line rise element =
    not ((line_at device.keeper.state.lines line).sync.was_marker == 0)
    && (nat_le (witness_at device.watch line).next element
    && (nat_le (witness_at device.watch line).rise rise
    && nat_le device.watch.last_tick (rise + 500000)))

-- all pulses of a frame more but its last, which is that of a true line from an element on: the first
-- rises at the device at `first` and the last of them at `last`, and they have the symbols of widths
abbrev pub HearsUnfinished : {P : Type 0} {g : Ghosts P} → (old new : Device P g)
    → (line first last element : ℕ) → (widths : List ℕ) → Type 0
HearsUnfinished old new line first last element widths =
    (made : MadeOf) (symbol : (line element : ℕ) → Symbol) (start : ℕ) (calls : List Call)
    (rise width : ℕ → ℕ) → IsDeviceOf old made symbol start calls → AreOfAFrame rise width
    → symbols_of widths ≡ symbols_by width most
    → risen_on old line first ≡ rise 0 → risen_on old line last ≡ rise 98
    → ((i : ℕ) → i < most
    → (element_near old.oscillator.first (rate_of old.oscillator.gain_us) (rise i) ≡ element + i)
    × (is_pulse_of made.clock.within.us (symbol line) (edges_of old) (element + i)
    (pulse_at (rise i) (width i)) ≡ true))
    → IsDeviceOf new made symbol start (hears line (pulses_by rise width most) ++ calls)
