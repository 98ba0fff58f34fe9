-- A frame but its last pulse, on one line.
-- Source: IRIG Standard 200-16, format B; this project's profile.
use Rattle.std.specs.Prelude.{◌≡◌, ℕ, zero, suc, ◌+◌, ◌<◌, ◌≤◌, true, false, List, [], ◌∷◌, ◌++◌, ⊤}
use Rattle.irig_frame.specs.declared.symbol.Symbol.{Symbol}
use Rattle.irig_frame.specs.Symbols.{symbol_of}
use Rattle.irig_sync.specs.Lines.{Pulse, pulse_at}
use Rattle.irig_sync.specs.Sync.{is_marker}
use Rattle.irig_lines.specs.declared.lines.Line.{Line}
use Rattle.irig_lines.specs.declared.lines.Lines.{Lines}
use Rattle.irig_lines.specs.Steps.{is_pulse, line_at, with_line}
use Rattle.irig_timekeeper.specs.Keeping.{Keeping, with_heard, with_lines}
use Rattle.irig_timekeeper.specs.Life.{Call, pulses_on}
use Rattle.irig_timekeeper.specs.Life.Call.{Hear, Tick}

-- the pulses of a frame but its last one
abbrev pub most : ℕ
most = 99

-- so many pulses, the newest first: the i-th, from 0, rose then and is so wide
abbrev pub pulses_by : (rise width : ℕ → ℕ) → (n : ℕ) → List Pulse
pulses_by rise width zero = []
pulses_by rise width (suc n) = pulse_at (rise n) (width n) ∷ pulses_by rise width n

-- their symbols, the oldest first
abbrev pub symbols_by : (width : ℕ → ℕ) → (n : ℕ) → List Symbol
symbols_by width zero = []
symbols_by width (suc n) = symbols_by width n ++ symbol_of (width n) ∷ []

-- the calls that tell pulses of a line
abbrev pub hears : (line : ℕ) → List Pulse → List Call
hears line [] = []
hears line (p ∷ ps) = Hear line p.rise p.width ∷ hears line ps

-- pulses that rose then and are so wide are all of a frame but the last: each comes on time behind the
-- one before; the first is a marker, and no two in a row are; nor is the last of them
pub record AreOfAFrame (rise width : ℕ → ℕ) : Type 0 where
  pub pulses : (i : ℕ) → i < most → is_pulse (width i) ≡ true
  pub on_time : (i : ℕ) → suc i < most
      → (rise i + 9000 ≤ rise (suc i)) × (rise (suc i) < rise i + 11000)
  pub first : is_marker (width 0) ≡ true
  pub apart : (i : ℕ) → suc i < most → is_marker (width i) ≡ true → is_marker (width (suc i)) ≡ false
  pub last : is_marker (width 98) ≡ false

-- calls that tell pulses on so many lines, and nothing else
abbrev pub AreHears : (ports : ℕ) → List Call → Type 0
AreHears ports [] = ⊤
AreHears ports (Hear port rise width ∷ calls) =
    (port < ports) × (is_pulse width ≡ true) × AreHears ports calls
AreHears ports (Tick now ∷ calls) = ⊥

-- they tell the same pulses on each line, in whatever order of lines
abbrev pub AreSameByLine : (these those : List Call) → Type 0
AreSameByLine these those = (line : ℕ) → line < 5 → pulses_on line these ≡ pulses_on line those

-- a line behind all of a frame but the last, of which the first and the last one rose then
abbrev pub line_unfinished : Line → (first last : ℕ) → Line
line_unfinished line first last = record line {
  sync = record { rise_us = last; place = most; was_marker = 0 };
  begin_us = first;
  is_heard = true;
}

-- the lines, if they came on that of a port
abbrev pub lines_unfinished : Lines → (port first last : ℕ) → Lines
lines_unfinished lines port first last =
    with_line lines port (line_unfinished (line_at lines port) first last)

-- a timekeeper, of which the port then stands for these symbols
abbrev pub unfinished : Keeping → (port first last : ℕ) → List Symbol → Keeping
unfinished k port first last symbols = record k {
  heard = with_heard k.heard port symbols;
  state = with_lines k.state (lines_unfinished k.state.lines port first last);
}
