-- A line of a simulated device in a second in which nothing happens but that it brings a true frame, or
-- nothing.
-- Source: this project's profile.
use Rattle.std.specs.Prelude.{◌≡◌, ℕ, suc, ◌+◌, ◌*◌, ◌<◌, ◌≤◌, ◌⊎◌, Bool, true, false, is_some, if◌then◌else◌, List, [], ◌++◌, Option, Some, None}
use Rattle.irig_frame.specs.declared.symbol.Symbol.{Symbol}
use Rattle.irig_port.specs.declared.port.Port.{Ghosts}
use Rattle.irig_sync.specs.Sync.{is_marker_symbol}
use Rattle.irig_timekeeper.specs.Life.{Call}
use Rattle.irig_timekeeper.specs.Unfinished.{hears, most, pulses_by}
use Rattle.irig_wires.specs.declared.wires.Wires.{Wires}
use Rattle.irig_wires.specs.Oscillator.{counter_at, rate_of}
use Rattle.irig_wires.specs.Wires.{flight_of, wire_at, with_wire}
use Rattle.irig_witness.specs.Devices.{IsDeviceOf, risen_on}
use Rattle.irig_witness.specs.Unfinished.{takes_frame}
use Rattle.irig_simulated.specs.declared.second.Second.{Second}
use Rattle.irig_simulated.specs.declared.simulated.Simulated.{Simulated}
use Rattle.irig_simulated.specs.Kinds.{Kind}
use Rattle.irig_simulated.specs.Quiet.{risen_by, sent_at, wide_by, wire_then}
use Rattle.irig_simulated.specs.Seconds.{IsSecondOf, sent_in, symbol_at, true_in}

-- a line that is later has pulses that its device may doubt: within 450 us it takes them for right, and
-- its counter is right to 1 us
abbrev pub latest_us : ℕ
latest_us = 448

-- the generator of a line sends what a true line has: a frame that begins with a marker. No two in a row are
-- markers, nor is the one before the last
pub record SendsTrueFrame (s : Second) (line : ℕ) : Type 0 where
  pub sends : (place : ℕ) → place < 100 → sent_in s line place ≡ Some (true_in s line place)
  pub first : is_marker_symbol (true_in s line 0) ≡ true
  pub apart : (place : ℕ) → suc place < most → is_marker_symbol (true_in s line place) ≡ true
      → is_marker_symbol (true_in s line (suc place)) ≡ false
  pub last : is_marker_symbol (true_in s line 98) ≡ false

-- something is on its way on a line
abbrev pub is_on : Wires → (line : ℕ) → Bool
is_on w line = is_some (wire_at w line).flight

-- when the first element of a second rises on a line
abbrev pub rise_on : {P : Type 0} {g : Ghosts P} → Simulated P g → Second → (line : ℕ) → ℕ
rise_on d s line = sent_at s.number 0 + (wire_at d.wires line).late_us

-- a line brings such a frame: its first element is on its way, and the device may be told the frame
pub record BringsFrame {P : Type 0} {g : Ghosts P} (d : Simulated P g) (s : Second) (line : ℕ) : Type 0 where
  pub plugged : (wire_at d.wires line).is_plugged ≡ true
  pub late : (wire_at d.wires line).late_us ≤ latest_us
  pub flight : (wire_at d.wires line).flight ≡ Some (flight_of (rise_on d s line) 8000)
  pub frame : SendsTrueFrame s line
  pub takes : takes_frame d.device line (risen_on d.device line
      (counter_at d.oscillator.first (rate_of d.oscillator.gain_us) (rise_on d s line))) (100 * s.number) ≡ true

-- it brings nothing: its cable is out, or its generator sends nothing
pub record BringsNothing {P : Type 0} {g : Ghosts P} (d : Simulated P g) (s : Second) (line : ℕ) : Type 0 where
  pub none : (wire_at d.wires line).flight ≡ None
  pub silent : ((wire_at d.wires line).is_plugged ≡ false) ⊎ (sent_in s line 0 ≡ None)

-- the one or the other
abbrev pub IsQuietOn : {P : Type 0} {g : Ghosts P} → Simulated P g → Second → (line : ℕ) → Type 0
IsQuietOn d s line = BringsFrame d s line ⊎ BringsNothing d s line

-- its counter is about as fast as true time
pub record IsAboutRight (rate : ℕ) : Type 0 where
  pub least : 999900 ≤ rate
  pub most : rate ≤ 1000100

-- the calls that tell the frame of a line that is on, but for its last pulse
abbrev pub calls_on : Kind → (second line : ℕ) → (on : Bool) → (late : ℕ) → (symbols : ℕ → Symbol)
    → List Call
calls_on k n line on late symbols =
    if on then hears line (pulses_by (risen_by k n late) (wide_by k n late symbols) most) else []

-- a line's frame is heard but for its last element, which is on its way; nothing else has changed
pub record HearsLine {P : Type 0} {g : Ghosts P} (s : Second) (old new : Simulated P g) (line : ℕ)
    : Type 0 where
  pub wires : new.wires ≡ with_wire old.wires line (wire_then s.number (is_on old.wires line)
      (true_in s line) (wire_at old.wires line))
  pub device : (k : Kind) (signal : (line element : ℕ) → Option Symbol)
      (symbol : (line element : ℕ) → Symbol) (start : ℕ) (calls : List Call)
      → IsSecondOf s signal symbol → k.first ≡ old.oscillator.first
      → k.rate ≡ rate_of old.oscillator.gain_us → IsDeviceOf old.device k.made symbol start calls
      → IsDeviceOf new.device k.made symbol start (calls_on k s.number line (is_on old.wires line)
      (wire_at old.wires line).late_us (true_in s line) ++ calls)
  pub oscillator : new.oscillator ≡ old.oscillator
  pub ticking : new.ticking ≡ old.ticking
  pub now : new.now_us ≡ old.now_us
  pub tick : new.tick_us ≡ old.tick_us
  pub send : new.send_us ≡ old.send_us
  pub told : new.told ≡ old.told
  pub clock : new.device.clock ≡ old.device.clock

-- a frame that a generator sends is that of a true line, and a reader finds it
pub record IsFound (frame truth : List Symbol) : Type 0 where
  pub same : (place : ℕ) → place < 100 → symbol_at frame place ≡ symbol_at truth place
  pub first : is_marker_symbol (symbol_at truth 0) ≡ true
  pub apart : (place : ℕ) → suc place < most → is_marker_symbol (symbol_at truth place) ≡ true
      → is_marker_symbol (symbol_at truth (suc place)) ≡ false
  pub last : is_marker_symbol (symbol_at truth 98) ≡ false
