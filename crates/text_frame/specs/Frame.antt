-- What `frame` prints.
-- Source: docs/FRAME.md, as text.
use Rattle.std.specs.Prelude.{◌≡◌, ℕ, ◌+◌, ◌*◌, ◌/◌, ◌<◌, ◌≤◌, false, is_some, List, Some, length, slice_get, option_map, unsigned_abs}
use Rattle.irig_frame.specs.declared.symbol.Symbol.{Symbol}
use Rattle.irig_frame.specs.Symbols.{letter_of}
use Rattle.irig_control.specs.declared.control.Control.{Control}
use Rattle.irig_time.specs.declared.rules.Rules.{Rules}
use Rattle.irig_time.specs.declared.rules.SbsUse.{SbsUse}
use Rattle.irig_time.specs.declared.second.UtcSecond.{UtcSecond}
use Rattle.irig_time.specs.Seconds.{IsValid}
use Rattle.irig_time.specs.Texts.{IsText}
use Rattle.irig_time.specs.Timelines.{is_deletion}
use Rattle.irig_time.specs.Frames.{IsFrameOfSecond}
use Rattle.irig_gen.specs.ControlBits.{offset_sent}
use Rattle.text_frame.specs.declared.frame.FrameOptions.{FrameOptions}

-- ten groups of ten letters, a blank (32) between two groups, and a newline (10) at the end
pub record IsFrameText (frame : List Symbol) (text : List ℕ) : Type 0 where
  pub len : length text ≡ 110
  pub letters : (i : ℕ) → i < 100
      → slice_get text (i + i / 10) ≡ option_map letter_of (slice_get frame i)
  pub blanks : (group : ℕ) → group < 9 → slice_get text (11 * group + 10) ≡ Some 32
  pub newline : slice_get text 109 ≡ Some 10

-- what the control bits have room for
pub record IsFrameOptions (options : FrameOptions) : Type 0 where
  pub local : unsigned_abs options.local ≤ 31
  pub quality : options.quality ≤ 15

-- the control bits that the options ask for; the offset is that which turns the coded time into
-- UTC, as a generator of the same sense sends it
abbrev pub control_with : FrameOptions → Control
control_with options = record {
  leap_pending = is_some options.pending;
  leap_delete = is_deletion options.pending;
  dst_pending = false;
  dst = options.dst;
  offset_half_hours = offset_sent options.sense options.local;
  quality = options.quality;
}

-- the rules by which such a frame is read: its parity and its sense
abbrev pub rules_with : FrameOptions → SbsUse → Rules
rules_with options sbs = record { parity = options.parity; sense = options.sense; sbs = sbs }

-- the text is the frame of the UTC second that the time names, with these options
pub record ShowsFrameOf (time : List ℕ) (options : FrameOptions) (text : List ℕ) : Type 0 where
  pub utc : UtcSecond
  pub frame : List Symbol
  pub valid : IsValid utc
  pub named : IsText utc time
  pub codes : IsFrameOfSecond options.parity utc options.local (control_with options) frame
  pub shown : IsFrameText frame text

-- the text of no valid second
abbrev pub NamesNoSecond : List ℕ → Type 0
NamesNoSecond time = (utc : UtcSecond) → IsValid utc → ¬ IsText utc time
