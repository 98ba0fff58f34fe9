-- What is seen of a line without a whole frame: the elements around the first two markers in a row, by
-- their pulses. Pulses are listed the oldest first, unless it is said otherwise. Times are in microseconds.
-- Source: IRIG Standard 200-16, format B: an element every 10 ms, and two markers in a row where a second
-- begins. That a pulse may be a millisecond off is this project's profile.
use Rattle.std.specs.Prelude.{◌≡◌, ℕ, ◌<◌, length, take, drop, reverse, slice_index_or, ◌+◌, ◌-◌, ◌*◌, ◌/◌, ◌%◌, Bool, ◌&&◌, nat_lt, nat_le, nat_eq, if◌then◌else◌, List, [], ◌∷◌, Option, Some, None, slice_set, replicate}
use Rattle.irig_frame.specs.declared.symbol.Symbol.{Symbol}
use Rattle.irig_frame.specs.declared.symbol.Symbol.TheVariants.{Marker, Bad}
use Rattle.irig_frame.specs.Symbols.{symbol_of}
use Rattle.record_pulses.specs.declared.edge.Pulse.{Pulse}
use Rattle.record_pulses.specs.Views.{same_symbol}
use Rattle.record_short.specs.declared.seen.Seen.{Seen}

-- how many elements later a pulse is that rises so long after another
abbrev pub steps : (gap : ℕ) → ℕ
steps gap = (gap + 1000) / 10000

-- it is one or more elements later, to a millisecond
abbrev pub is_in_step : (gap : ℕ) → Bool
is_in_step gap = nat_le ((gap + 1000) % 10000) 2000 && nat_lt 0 (steps gap)

-- a pulse is a marker
abbrev pub is_marker : Pulse → Bool
is_marker p = same_symbol (symbol_of p.width_us) Marker

-- two pulses are markers, and the second is an element after the first
abbrev pub are_markers : Pulse → Pulse → Bool
are_markers p q =
    is_marker p
    && (is_marker q
    && (is_in_step (q.rise_us - p.rise_us) && nat_eq (steps (q.rise_us - p.rise_us)) 1))

-- where a second begins: the pulses before its marker, the newest first, the marker, and those after it
pub record Begun : Type 0 where
  pub before : List Pulse
  pub marker : Pulse
  pub after : List Pulse

-- the first two markers in a row begin a second
abbrev pub begun_in : (before pulses : List Pulse) → Option Begun
begun_in before [] = None
begun_in before (p ∷ []) = None
begun_in before (p ∷ (q ∷ rest)) =
    if are_markers p q then Some (record { before = p ∷ before; marker = q; after = rest })
    else begun_in (p ∷ before) (q ∷ rest)

-- pulses, the newest first
abbrev pub newest_first : List Pulse → List Pulse
newest_first pulses = reverse pulses

-- the pulse at a place is the marker with which the second begins
pub record IsBegunAt (pulses : List Pulse) (at : ℕ) : Type 0 where
  pub there : at < length pulses
  pub marker : Pulse
  pub is : (other : Pulse) → slice_index_or pulses at other ≡ marker
  pub begun : begun_in [] pulses
      ≡ Some (record { before = newest_first (take at pulses); marker = marker; after = drop (at + 1) pulses })

-- ---- the elements of five seconds: 0 to 499, of which 200 is the marker that begins the second

-- an element comes in step after another one, and not behind the last
abbrev pub goes_on : (at last rise : ℕ) → Bool
goes_on at last rise = is_in_step (rise - last) && nat_lt (at + steps (rise - last)) 500

-- what is shown by pulses after the one at an element, as long as they are in step
abbrev pub ahead : (at last : ℕ) → List Pulse → List Symbol → List Symbol
ahead at last [] shown = shown
ahead at last (q ∷ rest) shown =
    if goes_on at last q.rise_us
    then ahead (at + steps (q.rise_us - last)) q.rise_us rest
    (slice_set shown (at + steps (q.rise_us - last)) (symbol_of q.width_us))
    else shown

-- an element comes in step before another one, and not before the first
abbrev pub goes_back : (at first rise : ℕ) → Bool
goes_back at first rise = is_in_step (first - rise) && nat_le (steps (first - rise)) at

-- what is shown by pulses before the one at an element, the newest first, as long as they are in step
abbrev pub behind : (at first : ℕ) → List Pulse → List Symbol → List Symbol
behind at first [] shown = shown
behind at first (q ∷ rest) shown =
    if goes_back at first q.rise_us
    then behind (at - steps (first - q.rise_us)) q.rise_us rest
    (slice_set shown (at - steps (first - q.rise_us)) (symbol_of q.width_us))
    else shown

-- when the second begins by the first of these pulses: elements are 10 ms apart on the line, whatever the
-- recorder's clock says
abbrev pub begins_by : (at first : ℕ) → List Pulse → ℕ
begins_by at first [] = first + (200 - at) * 10000
begins_by at first (q ∷ rest) =
    if goes_back at first q.rise_us then begins_by (at - steps (first - q.rise_us)) q.rise_us rest
    else first + (200 - at) * 10000

-- nothing is shown
unfoldable pub nothing_shown : List Symbol
nothing_shown = replicate 500 Bad

-- what is shown around the beginning of a second
abbrev pub shown_by : Begun → List Symbol
shown_by b =
    ahead 200 b.marker.rise_us b.after
    (behind 200 b.marker.rise_us b.before (slice_set nothing_shown 200 Marker))

-- what is seen, if the second begins at a time in the first hour
abbrev pub seen_from : (begins : ℕ) → Begun → Option Seen
seen_from begins b =
    if nat_lt begins 3600000000 then Some (record { begins_us = begins; shown = shown_by b }) else None

-- what is seen, if its marker is in the first hour
abbrev pub seen_by : Option Begun → Option Seen
seen_by None = None
seen_by (Some b) =
    if nat_lt b.marker.rise_us 3600000000
    then seen_from (begins_by 200 b.marker.rise_us b.before) b else None

-- what is seen of a line by its pulses
abbrev pub seen_in : List Pulse → Option Seen
seen_in pulses = seen_by (begun_in [] pulses)
