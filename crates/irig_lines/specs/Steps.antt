-- What becomes of a device's lines by a pulse and at a tick, and on which edge they agree.
-- Source: this project's profile.
use Rattle.std.specs.Prelude.{◌≡◌, ℕ, ◌+◌, ◌-◌, ◌*◌, ◌/◌, ◌%◌, ◌^◌, ◌==◌, min, Bool, true, false, not, ◌&&◌, nat_lt, nat_le, if◌then◌else◌, List, [], ◌∷◌, count_by, Option, Some, None, IfSome}
use Rattle.irig_sync.specs.Sync.{clock_gap, no_sync, place_of, pulse_of, idle_of, is_idle}
use Rattle.irig_sync.specs.Edges.{element_drift}
use Rattle.irig_sync.specs.Lines.{IsSyncOf}
use Rattle.irig_time.specs.Claims.{same_claim}
use Rattle.irig_time.specs.Seconds.{IsValid}
use Rattle.irig_port.specs.declared.told.Told.{Told}
use Rattle.irig_port.specs.declared.told.Told.TheVariants as tells
use Rattle.irig_port.specs.Told.{IfClaim}
use Rattle.irig_vote.specs.declared.votes.Tells.{Tells}
use Rattle.irig_lines.specs.declared.lines.KeptFrame.{KeptFrame}
use Rattle.irig_lines.specs.declared.lines.KeptClaim.{KeptClaim}
use Rattle.irig_lines.specs.declared.lines.Line.{Line}
use Rattle.irig_lines.specs.declared.lines.Lines.{Lines}
use Rattle.irig_lines.specs.declared.lines.Vote.{Vote}
use Rattle.irig_lines.specs.declared.setup.ClockRules.{ClockRules}
use Rattle.irig_vote.specs.Vote.{f_of}
use Rattle.irig_lines.specs.Counting.{is_late, is_gone, has_come}
use Rattle.irig_lines.specs.Exactness.{uneven_us}
use Rattle.irig_lines.specs.Widths.{half_us, reach_us}

-- ---- a pulse

-- a pulse of half a second or more is none: the line is stuck
abbrev pub is_pulse : ℕ → Bool
is_pulse width = nat_lt width 500000

-- a frame is even whose last pulse rises 990 ms behind its first one, but for what so exact lines and
-- such a counter may be off
abbrev pub is_even : ClockRules → (begin rise : ℕ) → Bool
is_even c begin rise =
    nat_le 990000 (clock_gap begin rise + uneven_us c.within.us c.drift_us)
    && nat_le (clock_gap begin rise) (990000 + uneven_us c.within.us c.drift_us)

-- when the first pulse of a line's frame rose, behind a pulse with this place
abbrev pub begin_behind : (place rise begin : ℕ) → ℕ
begin_behind place rise begin = if place == 1 then rise else begin

-- the time quality of a frame that claims a second; of another one 0
abbrev pub quality_told : Told → ℕ → ℕ
quality_told (tells.Claim c) quality = quality
quality_told tells.Silence quality = 0
quality_told (tells.Fault f) quality = 0
quality_told (tells.Poor q) quality = 0

-- a frame whose first and last pulses rose then: what its port tells, by what quality, where it ends,
-- and whether it is even
abbrev pub whole_frame : ClockRules → (begin rise : ℕ) → Told → (quality : ℕ) → KeptFrame
whole_frame c begin rise told quality = record {
  told = told;
  quality = quality_told told quality;
  end_us = (rise + 10000) % 2 ^ 32;
  is_even = is_even c begin rise;
}

-- what a line keeps behind a pulse with this place: at a frame's last one that frame
abbrev pub frame_behind : ClockRules → (place begin rise : ℕ) → Told → (quality : ℕ) → Option KeptFrame
    → Option KeptFrame
frame_behind c place begin rise told quality frame =
    if place == 100 then Some (whole_frame c begin rise told quality) else frame

-- the line of a port
abbrev pub line_at : Lines → ℕ → Line
line_at lines port =
    if port == 0 then lines.a
    else (if port == 1 then lines.b
    else (if port == 2 then lines.c
    else (if port == 3 then lines.d
    else lines.e)))

-- the same lines, but this one at a port
abbrev pub with_line : Lines → ℕ → Line → Lines
with_line lines port line =
    if port == 0 then record lines { a = line }
    else (if port == 1 then record lines { b = line }
    else (if port == 2 then record lines { c = line }
    else (if port == 3 then record lines { d = line }
    else record lines { e = line })))

-- a line behind a pulse; `told` is what its port then tells, and `quality` the time quality that a
-- frame then says
abbrev pub line_heard : ClockRules → Line → ℕ → ℕ → Told → (quality : ℕ) → Line
line_heard c line rise width told quality = record {
  sync = pulse_of line.sync rise width;
  begin_us = begin_behind (place_of line.sync rise width) rise line.begin_us;
  frame = frame_behind c (place_of line.sync rise width) line.begin_us rise told quality line.frame;
  seen = frame_behind c (place_of line.sync rise width) line.begin_us rise told quality line.seen;
  is_heard = true;
}

-- ---- a tick

-- what is not late is kept
abbrev pub still_kept : ℕ → Option KeptFrame → Option KeptFrame
still_kept now None = None
still_kept now (Some frame) = if is_late frame.end_us now then None else Some frame

-- what is not gone is still seen
abbrev pub still_seen : ℕ → Option KeptFrame → Option KeptFrame
still_seen now None = None
still_seen now (Some frame) = if is_gone frame.end_us now then None else Some frame

-- a line at a tick: it may be idle, and its frame may be late
abbrev pub line_settled : ℕ → Line → Line
line_settled now line = record line {
  sync = idle_of line.sync now;
  frame = still_kept now line.frame;
  seen = still_seen now line.seen;
  is_heard = line.is_heard && not (is_idle (clock_gap line.sync.rise_us now));
}

-- what a tick does first
abbrev pub settled : ℕ → Lines → Lines
settled now lines = record {
  a = line_settled now lines.a;
  b = line_settled now lines.b;
  c = line_settled now lines.c;
  d = line_settled now lines.d;
  e = line_settled now lines.e;
}

-- the line without its frame
abbrev pub line_taken : Line → Line
line_taken line = record line { frame = None }

-- what a tick leaves that takes the frames
abbrev pub taken : Lines → Lines
taken lines = record {
  a = line_taken lines.a;
  b = line_taken lines.b;
  c = line_taken lines.c;
  d = line_taken lines.d;
  e = line_taken lines.e;
}

-- ---- what lines tell

-- what a kept frame tells
abbrev pub frame_tells : Option KeptFrame → Told
frame_tells None = tells.Silence
frame_tells (Some frame) = frame.told

-- what each line tells
abbrev pub tells_of : Lines → Tells
tells_of lines = record {
  a = frame_tells lines.a.frame;
  b = frame_tells lines.b.frame;
  c = frame_tells lines.c.frame;
  d = frame_tells lines.d.frame;
  e = frame_tells lines.e.frame;
}

-- ---- frames that are uneven

-- a kept frame is uneven
abbrev pub is_uneven : Option KeptFrame → Bool
is_uneven None = false
is_uneven (Some frame) = not frame.is_even

-- what five lines keep
abbrev pub frames_of : Lines → List (Option KeptFrame)
frames_of lines =
    lines.a.frame ∷ lines.b.frame ∷ lines.c.frame ∷ lines.d.frame ∷ lines.e.frame ∷ []

-- more than f lines keep a frame that is uneven: these are not all true, if the counter is as steady as
-- the setup says
abbrev pub are_uneven : ClockRules → Lines → Bool
are_uneven c lines = nat_lt (f_of c.redundancy) (count_by is_uneven (frames_of lines))

-- ---- the edge on which lines agree

-- what a frame claims, if it claims a second
abbrev pub claim_told : Told → (end half : ℕ) → Option KeptClaim
claim_told (tells.Claim c) end half = Some (record { claim = c; end_us = end; half_us = half })
claim_told tells.Silence end half = None
claim_told (tells.Fault f) end half = None
claim_told (tells.Poor q) end half = None

-- the claim of a kept frame that is even, where it ends, and how far from there its edge may lie
abbrev pub claim_kept : ClockRules → Option KeptFrame → Option KeptClaim
claim_kept c None = None
claim_kept c (Some frame) =
    if frame.is_even then claim_told frame.told frame.end_us (half_us c frame.quality) else None

-- those of the five lines
abbrev pub all_kept : ClockRules → Lines → List (Option KeptClaim)
all_kept c lines =
    claim_kept c lines.a.frame
    ∷ claim_kept c lines.b.frame
    ∷ claim_kept c lines.c.frame
    ∷ claim_kept c lines.d.frame
    ∷ claim_kept c lines.e.frame
    ∷ []

-- the first time at which the edge of a frame may lie, if its line is true
abbrev pub first_us : KeptClaim → ℕ
first_us x = (x.end_us + 2 ^ 32 - x.half_us) % 2 ^ 32

-- the last one
abbrev pub last_us : KeptClaim → ℕ
last_us x = (x.end_us + x.half_us) % 2 ^ 32

-- a frame of the same claim whose edge may lie at the last time of this one's
abbrev pub agrees : KeptClaim → Option KeptClaim → Bool
agrees x None = false
agrees x (Some y) =
    same_claim x.claim y.claim && nat_le (clock_gap (first_us y) (last_us x)) (2 * y.half_us)

-- more than f frames, itself among them, agree with this one
abbrev pub is_candidate : ℕ → KeptClaim → List (Option KeptClaim) → Bool
is_candidate f x all = nat_lt f (count_by (agrees x) all)

-- of two candidates the one whose last time comes first: that of the other one comes behind it by no
-- more than such a reach
abbrev pub earlier : ℕ → Option KeptClaim → KeptClaim → Option KeptClaim
earlier reach None x = Some x
earlier reach (Some y) x =
    if nat_le (clock_gap (last_us y) (last_us x)) reach then Some y else Some x

-- of these frames the candidate whose last time comes first, or the one so far
abbrev pub first_candidate : ℕ → ℕ → List (Option KeptClaim) → List (Option KeptClaim)
    → Option KeptClaim → Option KeptClaim
first_candidate reach f all [] so_far = so_far
first_candidate reach f all (None ∷ xs) so_far = first_candidate reach f all xs so_far
first_candidate reach f all (Some x ∷ xs) so_far =
    first_candidate reach f all xs
    (if is_candidate f x all then earlier reach so_far x else so_far)

-- ---- where that edge lies, of the frames of a claim whose last time comes at most 3 ms before that of
-- this one, or later

-- how far behind 3 ms before the last time of this one a time lies
abbrev pub place_behind : KeptClaim → ℕ → ℕ
place_behind x time = (clock_gap (last_us x) time + 3000) % 2 ^ 32

-- the edge of such a frame lies at most so far behind the last time of this one
abbrev pub ends_by : KeptClaim → ℕ → Option KeptClaim → Bool
ends_by x behind None = false
ends_by x behind (Some y) =
    same_claim x.claim y.claim && nat_le (place_behind x (last_us y)) (behind + 3000)

-- the edge of such a frame lies at most so far before the last time of this one
abbrev pub ends_from : KeptClaim → ℕ → Option KeptClaim → Bool
ends_from x before None = false
ends_from x before (Some y) =
    same_claim x.claim y.claim
    && (nat_le 3000 (place_behind x (first_us y) + before)
    && nat_lt (place_behind x (first_us y)) (2 ^ 31))

-- how far behind the last time of this frame that of another one comes
abbrev pub last_behind : KeptClaim → Option KeptClaim → ℕ
last_behind x None = 0
last_behind x (Some y) = clock_gap (last_us x) (last_us y)

-- how far before the last time of this frame the first one of another comes
abbrev pub first_before : KeptClaim → Option KeptClaim → ℕ
first_before x None = 0
first_before x (Some y) = clock_gap (first_us y) (last_us x)

-- the last time of such a frame comes with that of this one, or at most a reach behind
abbrev pub ends_near : (reach : ℕ) → KeptClaim → Option KeptClaim → Bool
ends_near reach x None = false
ends_near reach x (Some y) =
    same_claim x.claim y.claim && nat_le (clock_gap (last_us x) (last_us y)) reach

-- the first time of such a frame comes with the last one of this one, or at most a reach before
abbrev pub begins_near : (reach : ℕ) → KeptClaim → Option KeptClaim → Bool
begins_near reach x None = false
begins_near reach x (Some y) =
    same_claim x.claim y.claim && nat_le (clock_gap (first_us y) (last_us x)) reach

-- how far behind the last time of this frame that of another one comes, if the edges of more than f
-- frames lie no further behind and that is less than the least until now; else this least
abbrev pub less_behind : (reach f : ℕ) → KeptClaim → List (Option KeptClaim) → Option KeptClaim
    → (so_far : ℕ) → ℕ
less_behind reach f x all y so_far =
    if ends_near reach x y && nat_lt f (count_by (ends_by x (last_behind x y)) all)
    then min (last_behind x y) so_far
    else so_far

-- the least of these frames, or the one until now
abbrev pub least_behind : (reach f : ℕ) → KeptClaim → (all ys : List (Option KeptClaim))
    → (so_far : ℕ) → ℕ
least_behind reach f x all [] so_far = so_far
least_behind reach f x all (y ∷ ys) so_far =
    least_behind reach f x all ys (less_behind reach f x all y so_far)

-- how far before the last time of this frame the first one of another comes, if the edges of more than f
-- frames lie no further before and that is less than the least until now; else this least
abbrev pub less_before : (reach f : ℕ) → KeptClaim → List (Option KeptClaim) → Option KeptClaim
    → (so_far : ℕ) → ℕ
less_before reach f x all y so_far =
    if begins_near reach x y && nat_lt f (count_by (ends_from x (first_before x y)) all)
    then min (first_before x y) so_far
    else so_far

-- the least of these frames, or the one until now
abbrev pub least_before : (reach f : ℕ) → KeptClaim → (all ys : List (Option KeptClaim))
    → (so_far : ℕ) → ℕ
least_before reach f x all [] so_far = so_far
least_before reach f x all (y ∷ ys) so_far =
    least_before reach f x all ys (less_before reach f x all y so_far)

-- the edge in the middle of an interval that begins so far before the last time of this frame, and
-- ends so far behind it: it lies no further from either end, but for the drift of an element
abbrev pub vote_between : (d : ℕ) → KeptClaim → (before behind : ℕ) → Vote
vote_between d x before behind = record {
  claim = x.claim;
  edge_us = (last_us x + 2 ^ 32 - before + (before + behind) / 2) % 2 ^ 32;
  bound_us = element_drift d + (before + behind + 1) / 2;
}

-- the edge on which more than f of these frames agree, by the first that agrees with so many
abbrev pub vote_with : (reach d f : ℕ) → List (Option KeptClaim) → Option KeptClaim → Option Vote
vote_with reach d f all None = None
vote_with reach d f all (Some x) =
    Some (vote_between d x (least_before reach f x all all reach) (least_behind reach f x all all reach))

-- the edge on which the kept frames of lines agree, if they do
abbrev pub agreed : ClockRules → Lines → Option Vote
agreed c lines =
    vote_with (reach_us c) c.drift_us (f_of c.redundancy) (all_kept c lines)
    (first_candidate (reach_us c) (f_of c.redundancy) (all_kept c lines) (all_kept c lines) None)

-- the same, if it has come
abbrev pub if_come : ℕ → Option Vote → Option Vote
if_come now None = None
if_come now (Some vote) = if has_come vote.edge_us now then Some vote else None

-- ---- what is claimed is of UTC

-- a kept frame claims a second of UTC, if it claims one
abbrev pub IsKeptOfUtc : Option KeptFrame → Type 0
IsKeptOfUtc frame = IfSome frame (λ f. IfClaim f.told (λ c. IsValid c.at))

-- so does that of each line
pub record AreKeptOfUtc (lines : Lines) : Type 0 where
  pub a : IsKeptOfUtc lines.a.frame
  pub b : IsKeptOfUtc lines.b.frame
  pub c : IsKeptOfUtc lines.c.frame
  pub d : IsKeptOfUtc lines.d.frame
  pub e : IsKeptOfUtc lines.e.frame

-- ---- nothing has come

-- nothing came on a line
pub record IsNewLine (line : Line) : Type 0 where
  pub sync : IsSyncOf line.sync []
  pub frame : line.frame ≡ None
  pub seen : line.seen ≡ None
  pub heard : line.is_heard ≡ false

-- nor on any
pub record AreNewLines (lines : Lines) : Type 0 where
  pub a : IsNewLine lines.a
  pub b : IsNewLine lines.b
  pub c : IsNewLine lines.c
  pub d : IsNewLine lines.d
  pub e : IsNewLine lines.e

-- such a line, with no number in it
abbrev pub no_line : Line
no_line = record {
  sync = no_sync;
  begin_us = 0;
  frame = None;
  seen = None;
  is_heard = false;
}

-- such lines
abbrev pub no_lines : Lines
no_lines = record { a = no_line; b = no_line; c = no_line; d = no_line; e = no_line }

-- ---- how long to wait

-- from now to a time that lies ahead; what lies 2^31 us or more ahead lies behind
abbrev pub until : ℕ → ℕ → ℕ
until now time = if nat_lt (clock_gap now time) (2 ^ 31) then clock_gap now time else 0

-- to the edge on which lines agree; else to when the own counter counts one
abbrev pub wait_by : ℕ → Option ℕ → Option Vote → ℕ
wait_by now edge (Some vote) = until now vote.edge_us
wait_by now (Some edge) None = until now ((edge + 1006000) % 2 ^ 32)
wait_by now None None = 1000000
