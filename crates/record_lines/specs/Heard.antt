-- What a recording was told of its lines, and what is seen of it: that without glitches. Changes are listed
-- the oldest first here, and what a line has from the beginning is one too. Times are in nanoseconds.
-- Source: this project's profile.
use Rattle.std.specs.Prelude.{◌≡◌, ℕ, ◌≤◌, List, ◌∷◌, ◌++◌, reverse, [], Option, Some, None, option_to_list}
use Rattle.record_pulses.specs.declared.edge.Edge.{Edge}
use Rattle.record_pulses.specs.declared.steady.Steady.{Steady}
use Rattle.record_pulses.specs.Glitches.{AreFrom, AreInOrder, to_come, without_glitches}
use Rattle.record_pulses.specs.Pulses.{AreInTurn}
use Rattle.record_lines.specs.declared.channel.Channel.{Channel}
use Rattle.record_lines.specs.RecordedLines.{IsRecordedLine}

-- what may still come: what comes from a time on, or nothing after the end
abbrev pub MayCome : Option ℕ → List Edge → Type 0
MayCome None rest = rest ≡ []
MayCome (Some now) rest = AreFrom now rest

-- a line was told these levels, in order, up to a time or to the end; whatever follows in order, what came
-- out and what comes from here on is all without glitches
pub record IsSteadyTo (s : Steady) (glitch : ℕ) (until : Option ℕ) (told seen : List Edge)
    : Type 0 where
  pub order : (rest : List Edge) → MayCome until rest → AreInOrder rest → AreInOrder (told ++ rest)
  pub comes : (rest : List Edge) → MayCome until rest → AreInOrder rest
      → seen ++ to_come s rest ≡ without_glitches glitch (told ++ rest)

-- a line was told these levels up to a time or to the end; those were seen of it, and those were played,
-- the newest first
pub record IsChannelTo (c : Channel) (glitch : ℕ) (until : Option ℕ) (told seen played : List Edge)
    : Type 0 where
  pub steady : IsSteadyTo c.steady glitch until told seen
  pub line : IsRecordedLine c.line None (reverse seen) played

-- changes, with one more if there is one
abbrev pub and_seen : List Edge → Option Edge → List Edge
and_seen seen edge = seen ++ option_to_list edge

-- a change is seen, if there is one, that comes in turn
abbrev pub SeesOn : (old new : Channel) → Option Edge → Type 0
SeesOn old new edge =
    (seen played : List Edge) → IsRecordedLine old.line None (reverse seen) played
    → ((c : Edge) → edge ≡ Some c → AreInTurn (c ∷ reverse seen))
    → IsRecordedLine new.line None (reverse (and_seen seen edge)) played

-- at a later time: what comes out until then is seen
abbrev pub RipensTo : (old new : Channel) → (time : ℕ) → Option Edge → Type 0
RipensTo old new time edge =
    (glitch now : ℕ) (told seen played : List Edge) → IsChannelTo old glitch (Some now) told seen played
    → now ≤ time → IsChannelTo new glitch (Some time) told (and_seen seen edge) played

-- a level more was told, and what comes out with it is seen
abbrev pub IsToldMore : (old new : Channel) → (level : Edge) → Option Edge → Type 0
IsToldMore old new level edge =
    (glitch now : ℕ) (told seen played : List Edge) → IsChannelTo old glitch (Some now) told seen played
    → now ≤ level.time_ns
    → IsChannelTo new glitch (Some level.time_ns) (told ++ level ∷ []) (and_seen seen edge) played

-- at the end what comes out is seen
abbrev pub EndsOn : (old new : Channel) → Option Edge → Type 0
EndsOn old new edge =
    (glitch : ℕ) (told seen played : List Edge) → IsChannelTo old glitch None told seen played
    → IsChannelTo new glitch None told (and_seen seen edge) played
