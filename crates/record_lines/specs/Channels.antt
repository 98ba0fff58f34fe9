-- The lines of a recording, by what was seen of them and played. Changes of a line, without glitches, are
-- listed the newest first.
-- Source: this project's profile.
use Rattle.std.specs.Prelude.{◌≡◌, ℕ, ◌≤◌, ◌==◌, if◌then◌else◌, List, [], ◌∷◌, ◌++◌, Option, None, Some, option_to_list, slice_get, nat_eq, nat_lt, ◌/◌, ◌%◌, ◌^◌}
use Rattle.record_levels.specs.declared.levels.Levels.{Levels}
use Rattle.record_pulses.specs.declared.edge.Edge.{Edge}
use Rattle.record_lines.specs.declared.channel.Channel.{Channel}
use Rattle.record_lines.specs.declared.channels.Channels.{Channels}
use Rattle.record_lines.specs.Heard.{IsChannelTo}
use Rattle.record_lines.specs.RecordedLines.{IsRecordedLine}

-- what was played of each line, with one change more of a line
abbrev pub and_played : (line : ℕ) → Edge → (ℕ → List Edge) → ℕ → List Edge
and_played line edge played other = if line == other then edge ∷ played other else played other

-- these changes of each line were seen, and these were played
abbrev pub AreChannelsOf : Channels → (seen played : ℕ → List Edge) → Type 0
AreChannelsOf channels seen played =
    (line : ℕ) (channel : Channel) → slice_get channels.all line ≡ Some channel
    → IsRecordedLine channel.line None (seen line) (played line)

-- to the lines these levels were told up to a time or to the end; those changes were seen, the oldest
-- first, and those were played
abbrev pub AreChannelsTo : Channels → (glitch : ℕ) → Option ℕ → (told seen played : ℕ → List Edge)
    → Type 0
AreChannelsTo channels glitch until told seen played =
    (line : ℕ) (channel : Channel) → slice_get channels.all line ≡ Some channel
    → IsChannelTo channel glitch until (told line) (seen line) (played line)

-- of no line anything
abbrev pub no_edges : ℕ → List Edge
no_edges line = []

-- what each line has, with more of a line
abbrev pub and_on : (line : ℕ) → List Edge → (ℕ → List Edge) → ℕ → List Edge
and_on line more all other = if line == other then all other ++ more else all other

-- at a later time what comes out on a line is seen
abbrev pub LineRipens : (old new : Channels) → (line time : ℕ) → Option Edge → Type 0
LineRipens old new line time edge =
    (glitch now : ℕ) (told seen played : ℕ → List Edge)
    → AreChannelsTo old glitch (Some now) told seen played → now ≤ time
    → AreChannelsTo new glitch (Some time) told (and_on line (option_to_list edge) seen) played

-- a level more was told of a line, and what comes out with it is seen
abbrev pub LineIsTold : (old new : Channels) → (line : ℕ) → (level : Edge) → Option Edge → Type 0
LineIsTold old new line level edge =
    (glitch now : ℕ) (told seen played : ℕ → List Edge)
    → AreChannelsTo old glitch (Some now) told seen played → now ≤ level.time_ns
    → AreChannelsTo new glitch (Some level.time_ns) (and_on line (level ∷ []) told)
    (and_on line (option_to_list edge) seen) played

-- at the end what comes out on a line is seen
abbrev pub LineEnds : (old new : Channels) → (line : ℕ) → Option Edge → Type 0
LineEnds old new line edge =
    (glitch : ℕ) (told seen played : ℕ → List Edge) → AreChannelsTo old glitch None told seen played
    → AreChannelsTo new glitch None told (and_on line (option_to_list edge) seen) played

-- what levels say of a line
abbrev pub level_in : Levels → (line : ℕ) → Edge
level_in levels line = record {
  time_ns = levels.time_ns;
  is_high = nat_eq (levels.high / 2 ^ line % 2) 1;
}

-- what each line was told, with what levels say of the first so many lines
abbrev pub told_of_lines : (lines : ℕ) → Levels → (ℕ → List Edge) → ℕ → List Edge
told_of_lines lines levels told line =
    if nat_lt line lines then told line ++ level_in levels line ∷ [] else told line

-- of each line the same waits to be known as no glitch
abbrev pub AreAsSteady : (old new : Channels) → Type 0
AreAsSteady old new =
    (line : ℕ) (channel : Channel) → slice_get new.all line ≡ Some channel
    → (was : Channel) × (slice_get old.all line ≡ Some was) × (channel.steady ≡ was.steady)
