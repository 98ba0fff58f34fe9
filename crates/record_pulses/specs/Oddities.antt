-- What is odd about a line that is no IRIG-B, by the counts of its pulses.
-- Source: this project's profile.
use Rattle.std.specs.Prelude.{ℕ, ◌-◌, ◌*◌, Bool, ◌&&◌, nat_eq, nat_le, nat_lt, if◌then◌else◌, Option, Some, None}
use Rattle.record_pulses.specs.declared.oddity.Oddity.{Oddity}
use Rattle.record_pulses.specs.declared.oddity.Oddity.TheVariants.{Silent, Single, Filtered, Uneven, NeverBegins, NeverWhole, Bare}
use Rattle.record_pulses.specs.declared.seen.Seen.{Seen}
use Rattle.record_pulses.specs.declared.seen.Widths.{Widths}

-- whole frames are odd if all of them are bare
abbrev pub oddity_of_frames : (frames bare : ℕ) → Option Oddity
oddity_of_frames frames bare = if nat_eq bare frames then Some Bare else None

-- there are ones and markers, and no zeros
abbrev pub is_filtered : Widths → Bool
is_filtered w = nat_eq w.zero.count 0 && nat_lt 0 w.one.count && nat_lt 0 w.marker.count

-- the first that is so: no pulse; else by its frames, if there are any; one pulse; no zeros; at most
-- half of the gaps are on time; no frame begins; none is whole
abbrev pub oddity_of : Seen → Option Oddity
oddity_of s =
    if nat_eq s.counts.pulses 0 then Some Silent
    else (if nat_lt 0 s.counts.frames then oddity_of_frames s.counts.frames s.counts.bare
    else (if nat_eq s.counts.pulses 1 then Some Single
    else (if is_filtered s.widths then Some Filtered
    else (if nat_le (2 * s.counts.on_time) (s.counts.pulses - 1) then Some Uneven
    else (if nat_eq s.counts.begun 0 then Some NeverBegins
    else Some NeverWhole)))))
