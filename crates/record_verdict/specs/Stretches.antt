-- Stretches of agreed seconds at which a line said one kind of wrong.
-- Source: this project's profile, docs/CAPTURE.md.
use Rattle.std.specs.Prelude.{ℕ, ◌+◌, ◌-◌, ◌&&◌, ◌||◌, Bool, nat_eq, nat_lt, min, max, if◌then◌else◌, Option, Some, None}
use Rattle.record_pulses.specs.Spreads.{counted}
use Rattle.record_verdict.specs.declared.stretch.AgreedSecond.{AgreedSecond}
use Rattle.record_verdict.specs.declared.stretch.Stretch.{Stretch}
use Rattle.record_verdict.specs.declared.tale.Tale.{Tale}
use Rattle.record_verdict.specs.declared.tale.Kind.TheVariants as kind
use Rattle.record_verdict.specs.Tales.{goes_on, kind_of, off_us, same_kind}

-- one of a line that begins with a second
abbrev pub begun : ℕ → AgreedSecond → Tale → Stretch
begun line second tale = record {
  line = line;
  tale = tale;
  first = second;
  last = second;
  seconds = 1;
  least_us = off_us tale;
  most_us = off_us tale;
}

-- one with a second more
abbrev pub more : Stretch → AgreedSecond → Tale → Stretch
more s second tale = record s {
  last = second;
  seconds = counted (s.seconds + 1);
  least_us = min s.least_us (off_us tale);
  most_us = max s.most_us (off_us tale);
}

-- a line was silent in the second before this one, and is late in it: the frame that it sent for the one before had
-- not ended when that was told, and is its last one now
abbrev pub turns_late : Stretch → AgreedSecond → Tale → Bool
turns_late s second tale =
    nat_eq s.seconds 1 && (nat_lt (second.lines_us - s.last.lines_us) 1500000
    && (same_kind (kind_of s.tale) kind.Silent && same_kind (kind_of tale) kind.Late))

-- so it is late in both
abbrev pub late_since : Stretch → AgreedSecond → Tale → Stretch
late_since s second tale = record s {
  tale = tale;
  last = second;
  seconds = 2;
  least_us = off_us tale;
  most_us = off_us tale;
}

-- one goes on, or turns out to be late, or another begins
abbrev pub stretch_past : Option Stretch → ℕ → AgreedSecond → Tale → Stretch
stretch_past None line second tale = begun line second tale
stretch_past (Some s) line second tale =
    if goes_on s.tale tale then more s second tale
    else (if turns_late s second tale then late_since s second tale else begun line second tale)

-- the open one of a line after a second: there is none where the line agrees
abbrev pub stretch_after : Option Stretch → ℕ → AgreedSecond → Tale → Option Stretch
stretch_after before line second tale =
    if same_kind (kind_of tale) kind.Agreed then None
    else Some (stretch_past before line second tale)

-- the one that ends where a line says this of a second
abbrev pub ended_by : Option Stretch → AgreedSecond → Tale → Option Stretch
ended_by None second tale = None
ended_by (Some s) second tale = if goes_on s.tale tale || turns_late s second tale then None else Some s
