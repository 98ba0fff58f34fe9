-- A recorded line whose changes are seen before they are played. Changes are listed the newest first.
-- Source: this project's profile.
use Rattle.std.specs.Prelude.{◌≡◌, Bool, true, false, List, Option, Some, None}
use Rattle.record_pulses.specs.declared.edge.Edge.{Edge}
use Rattle.record_pulses.specs.declared.edge.Pulse.{Pulse}
use Rattle.record_pulses.specs.Looks.{IsLooksOf}
use Rattle.record_pulses.specs.Pulses.{ArePulsesOf, pulse_ended}
use Rattle.record_lines.specs.declared.line.RecordedLine.{RecordedLine}

-- the pulse that ends with a change after others by a polarity, if that is known
abbrev pub pulse_by : Option Bool → Edge → List Edge → Option Pulse
pulse_by None d before = None
pulse_by (Some polarity) d before = pulse_ended polarity d before

-- to a line, whose polarity may be given, these changes were shown, and these were played
pub record IsRecordedLine (line : RecordedLine) (given : Option Bool) (seen played : List Edge)
    : Type 0 where
  pub looks : IsLooksOf line.looks given seen
  pub high : line.upright.is_high ≡ true
  pub upright : ArePulsesOf line.upright played
  pub low : line.inverted.is_high ≡ false
  pub inverted : ArePulsesOf line.inverted played
