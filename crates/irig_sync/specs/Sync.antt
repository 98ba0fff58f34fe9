-- The place of a pulse in its frame, by its leading edge and its width.
-- Source: IRIG Standard 200-16, format B: an element each 10 ms, and a frame begins with the second
-- of two markers in a row. The bounds round 10 ms, what else begins a frame, and when a line is
-- idle, are this project's profile.
use Rattle.std.specs.Prelude.{ℕ, ◌+◌, ◌-◌, ◌%◌, ◌^◌, Bool, true, false, not, ◌&&◌, ◌||◌, ◌==◌, nat_lt, if◌then◌else◌}
use Rattle.irig_frame.specs.declared.symbol.Symbol.{Symbol}
use Rattle.irig_frame.specs.declared.symbol.Symbol.TheVariants.{Marker}
use Rattle.irig_frame.specs.Symbols.{symbol_of}
use Rattle.irig_sync.specs.declared.sync.Sync.{Sync}

-- the symbol is a marker
abbrev pub is_marker_symbol : Symbol → Bool
is_marker_symbol Marker = true
is_marker_symbol _ = false

-- a pulse of this width is a marker
abbrev pub is_marker : ℕ → Bool
is_marker width = is_marker_symbol (symbol_of width)

-- from one time to the next in microseconds, by a clock of 32 bits
abbrev pub clock_gap : ℕ → ℕ → ℕ
clock_gap before time = (time + (2 ^ 32 - before)) % 2 ^ 32

-- a pulse is on time if it rises so long after the one before: 9 ms and less than 11
abbrev pub is_on_time : ℕ → Bool
is_on_time gap = not (nat_lt gap 9000) && nat_lt gap 11000

-- the place of a pulse on time behind a place: in a frame the next one, behind its end the first of
-- the next frame, and out of step none
abbrev pub place_behind : ℕ → ℕ
place_behind place =
    if nat_lt place 1 then 0
    else (if nat_lt place 100 then place + 1 else (if nat_lt 100 place then 0 else 1))

-- a marker behind a marker, or not on time, begins a frame; what is not on time else is out of step
abbrev pub place_at : Bool → Bool → Bool → ℕ → ℕ
place_at on_time marker was_marker place =
    if marker && (was_marker || not on_time) then 1
    else (if on_time then place_behind place else 0)

-- how a byte says yes or no
abbrev pub flag : Bool → ℕ
flag b = if b then 1 else 0

-- the place of the next pulse
abbrev pub place_of : Sync → ℕ → ℕ → ℕ
place_of s rise width =
    place_at (is_on_time (clock_gap s.rise_us rise)) (is_marker width) (not (s.was_marker == 0))
    s.place

-- the numbers of a line on which nothing came
abbrev pub no_sync : Sync
no_sync = record { rise_us = 0; place = 0; was_marker = 1 }

-- the numbers behind the next pulse
abbrev pub pulse_of : Sync → ℕ → ℕ → Sync
pulse_of s rise width =
    record { rise_us = rise; place = place_of s rise width; was_marker = flag (is_marker width) }

-- a line is idle whose last pulse rose a second or more behind; what lies 2^31 us or more behind by
-- the clock lies ahead
abbrev pub is_idle : ℕ → Bool
is_idle gap = not (nat_lt gap 1000000) && nat_lt gap (2 ^ 31)

-- an idle line is out of step, and its next marker begins a frame
abbrev pub idle_of : Sync → ℕ → Sync
idle_of s now =
    if is_idle (clock_gap s.rise_us now) then record s { place = 0; was_marker = 1 } else s
