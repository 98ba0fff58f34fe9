-- What a line is by one polarity: its pulses, the newest first, and what is counted of them. Times are
-- in microseconds.
-- Source: IRIG Standard 200-16, format B: a frame of a hundred elements, 10 ms apart. Which element a
-- pulse is, irig_sync says.
use Rattle.std.specs.Prelude.{◌≡◌, ℕ, zero, suc, ◌+◌, ◌-◌, ◌%◌, ◌≤◌, Bool, true, false, not, ◌&&◌, ◌||◌, slice_get, nat_eq, nat_lt, if◌then◌else◌, List, [], ◌∷◌, ◌++◌, length, Option, Some, None, take, ⊤}
use Rattle.irig_frame.specs.declared.symbol.Symbol.{Symbol}
use Rattle.irig_frame.specs.declared.symbol.Symbol.TheVariants.{Zero, One, Marker, Bad}
use Rattle.irig_frame.specs.Symbols.{symbol_of}
use Rattle.irig_sync.specs.declared.sync.Sync.{Sync}
use Rattle.irig_sync.specs.Sync.{is_on_time, no_sync}
use Rattle.irig_sync.specs.Lines.{pulse_at, place_after, IsSyncOf}
use Rattle.irig_sync.specs.Lines as sync
use Rattle.record_pulses.specs.declared.edge.Pulse.{Pulse}
use Rattle.record_pulses.specs.declared.frames.Frames.{Frames}
use Rattle.record_pulses.specs.declared.seen.Counts.{Counts}
use Rattle.record_pulses.specs.declared.seen.Seen.{Seen}
use Rattle.record_pulses.specs.declared.seen.Widths.{Widths}
use Rattle.record_pulses.specs.declared.track.Step.{Step}
use Rattle.record_pulses.specs.declared.track.Track.{Track}
use Rattle.record_pulses.specs.declared.view.View.{View}
use Rattle.record_pulses.specs.Spreads.{IsSpreadOf, counted, with_time}

-- the pulses as a synchroniser hears them
abbrev pub heard : List Pulse → List sync.Pulse
heard [] = []
heard (p ∷ before) = pulse_at p.rise_us p.width_us ∷ heard before

-- the place of the newest pulse in its frame, 1 to 100, or 0 out of step
abbrev pub place_now : List Pulse → ℕ
place_now pulses = place_after (heard pulses)

-- when the newest pulse rose
abbrev pub last_rise : List Pulse → Option ℕ
last_rise [] = None
last_rise (p ∷ before) = Some p.rise_us

-- how long after another a pulse rises, if there is another
abbrev pub gap_from : ℕ → Option ℕ → Option ℕ
gap_from rise None = None
gap_from rise (Some last) = Some (rise - last)

-- how long after the one before it
abbrev pub gap_of : Pulse → List Pulse → Option ℕ
gap_of p before = gap_from p.rise_us (last_rise before)

-- a pulse is on time if it rises 9 ms or more, and less than 11, after the one before
abbrev pub is_on : Option ℕ → Bool
is_on None = false
is_on (Some gap) = is_on_time gap

-- when a frame began, by the place of a pulse and by when one began before it
abbrev pub begun_by : (place rise begun : ℕ) → ℕ
begun_by place rise begun = if nat_eq place 1 then rise else begun

-- when the last pulse rose that began a frame; 0 if none did
abbrev pub begun_at : List Pulse → ℕ
begun_at [] = 0
begun_at (p ∷ before) = begun_by (place_now (p ∷ before)) p.rise_us (begun_at before)

-- the gap before a pulse, if it is in step with the one before it
abbrev pub gap_in_step : ℕ → Option ℕ → Option ℕ
gap_in_step place gap = if nat_lt 1 place then gap else None

-- a pulse begins a frame on time after a whole one
abbrev pub is_next : (before place : ℕ) → Option ℕ → Bool
is_next before place gap = nat_eq place 1 && nat_eq before 100 && is_on gap

-- from when a frame began to when the next one does
abbrev pub second_by : Bool → (rise begun : ℕ) → Option ℕ
second_by next rise begun = if next then Some (rise - begun) else None

-- how long the frame took that ends as the pulse begins the next one
abbrev pub second_of : Pulse → List Pulse → Option ℕ
second_of p before =
    second_by (is_next (place_now before) (place_now (p ∷ before)) (gap_of p before)) p.rise_us
    (begun_at before)

-- two symbols are the same
abbrev pub same_symbol : Symbol → Symbol → Bool
same_symbol Zero Zero = true
same_symbol One One = true
same_symbol Marker Marker = true
same_symbol Bad Bad = true
same_symbol _ _ = false

-- the width, if it is of that symbol
abbrev pub width_if : Symbol → ℕ → Option ℕ
width_if symbol width = if same_symbol symbol (symbol_of width) then Some width else None

-- ---- over all pulses

-- how many pulses meet a test, which may ask for those before each
abbrev pub count_of : (Pulse → List Pulse → Bool) → List Pulse → ℕ
count_of test [] = 0
count_of test (p ∷ before) = (if test p before then 1 else 0) + count_of test before

-- the times that pulses have, each by those before it; some have none
abbrev pub times_of : (Pulse → List Pulse → Option ℕ) → List Pulse → List ℕ
times_of time [] = []
times_of time (p ∷ before) = with_time (time p before) (times_of time before)

-- pulses that have this place
abbrev pub count_at : ℕ → List Pulse → ℕ
count_at place pulses = count_of (λ p before. nat_eq (place_now (p ∷ before)) place) pulses

-- the widths of those of a symbol
abbrev pub widths_of : Symbol → List Pulse → List ℕ
widths_of symbol pulses = times_of (λ p before. width_if symbol p.width_us) pulses

-- all gaps
abbrev pub gaps_of : List Pulse → List ℕ
gaps_of pulses = times_of gap_of pulses

-- those before pulses in step
abbrev pub gaps_in_step : List Pulse → List ℕ
gaps_in_step pulses =
    times_of (λ p before. gap_in_step (place_now (p ∷ before)) (gap_of p before)) pulses

-- the seconds of whole frames, each to the beginning of the next one
abbrev pub seconds_of : List Pulse → List ℕ
seconds_of pulses = times_of second_of pulses

-- the last n pulses, the oldest first
abbrev pub last_of : ℕ → List Pulse → List Pulse
last_of (suc n) (p ∷ before) = last_of n before ++ p ∷ []
last_of _ _ = []

-- the last whole frame: when its last pulse came, the last hundred
abbrev pub whole_of : List Pulse → Option (List Pulse)
whole_of [] = None
whole_of (p ∷ before) =
    if nat_eq (place_now (p ∷ before)) 100 then Some (last_of 100 (p ∷ before))
    else whole_of before

-- an element of a frame, from 0, is a 0 or a position identifier
abbrev pub is_clear_pulse : Option Pulse → (element : ℕ) → Bool
is_clear_pulse None element = false
is_clear_pulse (Some p) element = nat_eq (element % 10) 9 || same_symbol (symbol_of p.width_us) Zero

-- the same by its place
abbrev pub is_clear : List Pulse → (element : ℕ) → Bool
is_clear frame element = is_clear_pulse (slice_get frame element) element

-- so are so many elements from 50 on
abbrev pub are_clear : List Pulse → (count : ℕ) → Bool
are_clear frame zero = true
are_clear frame (suc n) = are_clear frame n && is_clear frame (50 + n)

-- a frame is bare if its year (elements 50 to 58) and its control bits (60 to 78) are all 0, as those of a clock
-- without the control functions of IEEE 1344
abbrev pub is_bare : List Pulse → Bool
is_bare frame = are_clear frame 29

-- a bare frame ends with a pulse
abbrev pub ends_bare : Pulse → List Pulse → Bool
ends_bare p before = nat_eq (place_now (p ∷ before)) 100 && is_bare (last_of 100 (p ∷ before))

-- ---- what is kept of them

-- these are the counts of some pulses: how many there are, how many end a frame, have no place, are on time, begin a frame,
-- and end a bare one
pub record AreCountsOf (counts : Counts) (pulses : List Pulse) : Type 0 where
  pub pulses_are : counts.pulses ≡ counted (length pulses)
  pub frames : counts.frames ≡ counted (count_at 100 pulses)
  pub out : counts.out_of_step ≡ counted (count_at 0 pulses)
  pub on_time : counts.on_time ≡ counted (count_of (λ p before. is_on (gap_of p before)) pulses)
  pub begun : counts.begun ≡ counted (count_at 1 pulses)
  pub bare : counts.bare ≡ counted (count_of ends_bare pulses)

-- these are their widths, by the symbols that they are
pub record AreWidthsOf (widths : Widths) (pulses : List Pulse) : Type 0 where
  pub zero : IsSpreadOf widths.zero (widths_of Zero pulses)
  pub one : IsSpreadOf widths.one (widths_of One pulses)
  pub marker : IsSpreadOf widths.marker (widths_of Marker pulses)
  pub bad : IsSpreadOf widths.bad (widths_of Bad pulses)

-- all that is seen of these pulses
pub record IsSeenOf (seen : Seen) (pulses : List Pulse) : Type 0 where
  pub counts : AreCountsOf seen.counts pulses
  pub widths : AreWidthsOf seen.widths pulses
  pub gaps : IsSpreadOf seen.gaps (gaps_of pulses)
  pub in_step : IsSpreadOf seen.gaps_in_step (gaps_in_step pulses)
  pub seconds : IsSpreadOf seen.seconds (seconds_of pulses)

-- where the line stands after them
pub record IsTrackOf (track : Track) (pulses : List Pulse) : Type 0 where
  pub of_sync : IsSyncOf track.sync (heard pulses)
  pub last : track.last_us ≡ last_rise pulses
  pub begun : track.begun_us ≡ begun_at pulses

-- the frame is this one, if there is one
abbrev pub IsWhole : List Pulse → Option (List Pulse) → Type 0
IsWhole whole None = ⊤
IsWhole whole (Some frame) = whole ≡ frame

-- the pulses in step since a frame began, and the last whole frame
pub record AreFramesOf (frames : Frames) (pulses : List Pulse) : Type 0 where
  pub begun : take (place_now pulses) frames.heard ≡ last_of (place_now pulses) pulses
  pub whole : IsWhole frames.whole (whole_of pulses)

-- what a view has of these pulses
pub record IsViewOf (view : View) (pulses : List Pulse) : Type 0 where
  pub track : IsTrackOf view.track pulses
  pub seen : IsSeenOf view.seen pulses
  pub frames : AreFramesOf view.frames pulses

-- a pulse does not rise before those
abbrev pub IsAfter : Pulse → List Pulse → Type 0
IsAfter p [] = ⊤
IsAfter p (q ∷ before) = q.rise_us ≤ p.rise_us

-- ---- a pulse more

-- what a pulse is after others
abbrev pub step_of : Pulse → List Pulse → Step
step_of p before = record {
  place = place_now (p ∷ before);
  gap_us = gap_of p before;
  second_us = second_of p before;
}

-- a count goes up if a thing is so
abbrev pub more_if : Bool → ℕ → ℕ
more_if b n = if b then counted (n + 1) else n

-- the counts with a pulse more
abbrev pub with_count : ℕ → Bool → (bare : Bool) → Counts → Counts
with_count place on_time bare c = record {
  pulses = more_if true c.pulses;
  frames = more_if (nat_eq place 100) c.frames;
  out_of_step = more_if (nat_eq place 0) c.out_of_step;
  on_time = more_if on_time c.on_time;
  begun = more_if (nat_eq place 1) c.begun;
  bare = more_if bare c.bare;
}

-- a gap is so long that a line is idle
abbrev pub is_long : Option ℕ → Bool
is_long None = false
is_long (Some gap) = not (nat_lt gap 1000000)

-- after such a gap a synchroniser begins anew: its clock may have wrapped
abbrev pub sync_after : Option ℕ → Sync → Sync
sync_after gap s = if is_long gap then no_sync else s
