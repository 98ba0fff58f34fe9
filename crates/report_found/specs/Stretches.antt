-- Stretches of a port, and silences and untrue seconds of a reader, over its ticks, the newest
-- first.
use Rattle.std.specs.Prelude.{ℕ, ◌+◌, ◌<◌, ◌&&◌, Bool, true, false, not, if◌then◌else◌, List, [], ◌∷◌, Option, Some, None}
use Rattle.irig_reader.specs.declared.report.Cause.{Cause}
use Rattle.irig_reader.specs.declared.report.Cause.TheVariants.{Voted, Held, Acquiring, NoVote, Expired, LeapGuard, Jump, RangeEnd}
use Rattle.report_found.specs.declared.kind.Kind.{Kind}
use Rattle.report_found.specs.declared.kind.Kind.TheVariants.{Agreed}
use Rattle.report_found.specs.declared.misled.Misled.{Misled}
use Rattle.report_found.specs.declared.stretch.Silence.{Silence}
use Rattle.report_found.specs.declared.stretch.Stretch.{Stretch}
use Rattle.report_found.specs.declared.tick.Tick.{Tick}
use Rattle.report_found.specs.Kinds.{same_kind}
use Rattle.report_log.specs.Offsets.{same_offset}
use Rattle.report_found.specs.Ticks.{kind_at, is_announced, is_untrue, offset_at, offset_announced}

-- 1 if it is so
abbrev pub one_if : Bool → ℕ
one_if b = if b then 1 else 0

-- ---- stretches

-- one that begins with a tick
abbrev pub begun : Kind → Tick → Stretch
begun kind t = record {
  kind = kind;
  first = t;
  last = t;
  steady = true;
  announced = one_if (is_announced t);
  untrue = one_if (is_untrue t);
}

-- one with a tick more; it is steady if the port is as far off at each tick
abbrev pub more : ℕ → Stretch → Tick → Stretch
more port s t = record s {
  last = t;
  steady = same_offset (offset_at port s.first) (offset_at port t) && s.steady;
  announced = s.announced + one_if (is_announced t);
  untrue = s.untrue + one_if (is_untrue t);
}

-- at each kind other than agreed a stretch goes on, or one begins
abbrev pub stretch_past : ℕ → Option Stretch → Tick → Stretch
stretch_past port None t = begun (kind_at port t) t
stretch_past port (Some s) t =
    if same_kind s.kind (kind_at port t) then more port s t else begun (kind_at port t) t

-- the open stretch behind a tick
abbrev pub stretch_after : ℕ → Option Stretch → Tick → Option Stretch
stretch_after port stretch t =
    if same_kind (kind_at port t) Agreed then None else Some (stretch_past port stretch t)

-- the one that another kind ends
abbrev pub ended_by : Option Stretch → Kind → Option Stretch
ended_by None kind = None
ended_by (Some s) kind = if same_kind s.kind kind then None else Some s

-- the open stretch of a port: since when it has told one kind other than agreed
abbrev pub stretch_of : ℕ → List Tick → Option Stretch
stretch_of port [] = None
stretch_of port (t ∷ ts) = stretch_after port (stretch_of port ts) t

-- its counts are below this number
abbrev pub IsBelow : ℕ → Stretch → Type 0
IsBelow limit s = (s.announced < limit) × (s.untrue < limit)

-- ---- silences

-- whether two causes are the same
abbrev pub same_cause : Cause → Cause → Bool
same_cause Voted Voted = true
same_cause Held Held = true
same_cause Acquiring Acquiring = true
same_cause NoVote NoVote = true
same_cause Expired Expired = true
same_cause LeapGuard LeapGuard = true
same_cause Jump Jump = true
same_cause RangeEnd RangeEnd = true
same_cause _ _ = false

-- one that begins with a tick
abbrev pub silence_at : Tick → Silence
silence_at t =
    record { cause = t.entry.report.cause; first = t; last = t }

-- whether it goes on: nothing is announced, for the same cause
abbrev pub goes_on : Silence → Tick → Bool
goes_on s t = not (is_announced t) && same_cause s.cause t.entry.report.cause

-- where nothing is announced, one begins
abbrev pub silence_begun : Tick → Option Silence
silence_begun t = if is_announced t then None else Some (silence_at t)

-- the open silence behind a tick
abbrev pub silence_after : Option Silence → Tick → Option Silence
silence_after None t = silence_begun t
silence_after (Some s) t =
    if goes_on s t then Some (record s { last = t }) else silence_begun t

-- the one that a tick ends
abbrev pub ended_silence : Option Silence → Tick → Option Silence
ended_silence None t = None
ended_silence (Some s) t = if goes_on s t then None else Some s

-- the open silence of a reader: since when it has announced nothing, for one cause
abbrev pub silence_of : List Tick → Option Silence
silence_of [] = None
silence_of (t ∷ ts) = silence_after (silence_of ts) t

-- ---- untrue seconds

-- the newest tick at which most ports voted for what was announced
abbrev pub vote_after : Option Tick → Tick → Option Tick
vote_after before t = if same_cause t.entry.report.cause Voted then Some t else before

-- the one of some ticks
abbrev pub last_vote : List Tick → Option Tick
last_vote [] = None
last_vote (t ∷ ts) = vote_after (last_vote ts) t

-- ticks with untrue seconds that begin with a tick, after this vote
abbrev pub misled_at : Option Tick → Tick → Misled
misled_at vote t = record { first = t; last = t; steady = true; vote = vote }

-- with a tick more
abbrev pub misled_more : Misled → Tick → Misled
misled_more m t = record m {
  last = t;
  steady = same_offset (offset_announced m.first) (offset_announced t) && m.steady;
}

-- those that are open, with a tick more, or those that begin with it
abbrev pub misled_past : Option Misled → Option Tick → Tick → Misled
misled_past None vote t = misled_at vote t
misled_past (Some m) vote t = misled_more m t

-- at each untrue second they go on, or begin
abbrev pub misled_after : Option Misled → Option Tick → Tick → Option Misled
misled_after m vote t = if is_untrue t then Some (misled_past m vote t) else None

-- those that a tick ends
abbrev pub ended_misled : Option Misled → Tick → Option Misled
ended_misled m t = if is_untrue t then None else m

-- those that are open: since when the reader has announced untrue seconds
abbrev pub misled_of : List Tick → Option Misled
misled_of [] = None
misled_of (t ∷ ts) = misled_after (misled_of ts) (last_vote (t ∷ ts)) t
