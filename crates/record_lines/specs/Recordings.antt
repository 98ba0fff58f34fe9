-- A recording as it is played: the pulses that a timekeeper was told are those of its lines. Changes of a
-- line, without glitches, are listed the newest first.
-- Source: this project's profile.
use Rattle.std.specs.Prelude.{◌≡◌, ℕ, ◌+◌, ◌<◌, ◌≤◌, Bool, List, [], ◌∷◌, ◌++◌, drop, reverse, Option, Some, None, slice_get, IfSome, IsTrue, ⊤}
use Rattle.irig_port.specs.declared.port.Port.{Ghosts}
use Rattle.irig_vote.specs.Vote.{ports_in}
use Rattle.irig_lines.specs.Delays.{delay_at}
use Rattle.irig_timekeeper.specs.Life.{Call}
use Rattle.irig_timekeeper.specs.Life.Call.{Hear, Tick}
use Rattle.irig_timekeeper.specs.Lived.{MadeOf}
use Rattle.record_levels.specs.declared.levels.Levels.{Levels}
use Rattle.record_pulses.specs.declared.edge.Edge.{Edge}
use Rattle.record_pulses.specs.declared.edge.Pulse.{Pulse}
use Rattle.record_pulses.specs.Looks.{polarity_of}
use Rattle.record_pulses.specs.Glitches.{AreInOrder, without_glitches}
use Rattle.record_pulses.specs.Pulses.{IsOneOf, pulses_of}
use Rattle.record_lines.specs.declared.change.Change.{Change}
use Rattle.record_lines.specs.declared.pace.LinesTime.{LinesTime}
use Rattle.record_lines.specs.declared.recording.Recording.{Recording}
use Rattle.record_lines.specs.declared.second.RecordedSecond.{RecordedSecond}
use Rattle.record_lines.specs.declared.told.ToldSecond.{ToldSecond}
use Rattle.record_lines.specs.Changes.{changes_on, edge_of}
use Rattle.record_lines.specs.Channels.{AreChannelsOf, AreChannelsTo, and_on, and_played, no_edges, told_of_lines}
use Rattle.record_lines.specs.Heard.{MayCome}
use Rattle.record_lines.specs.Helds.{has_room, room}
use Rattle.record_lines.specs.Paces.{lines_at}
use Rattle.record_lines.specs.Receivers.{IsReceiverOf}
use Rattle.record_lines.specs.Times.{risen_at}
use Rattle.record_lines.specs.ToldSeconds.{IsToldAfter}

-- a timekeeper was told a pulse of a line: it is one of those that its changes make by the line's polarity,
-- is as wide, and rose at the lines' time of its rise
pub record IsOfLine (made : MadeOf) (seen played : ℕ → List Edge) (line rise width : ℕ) : Type 0 where
  pub there : line < 5
  pub polarity : Bool
  pub known : polarity_of None (seen line) ≡ Some polarity
  pub pulse : Pulse
  pub of : IsOneOf pulse (pulses_of polarity (played line))
  pub wide : width ≡ pulse.width_us
  pub time : LinesTime
  pub rises : risen_at (lines_at time pulse.rise_us) (delay_at made.clock.delays line) ≡ Some rise

-- so is each that it was told
abbrev pub AreOfLines : MadeOf → (seen played : ℕ → List Edge) → List Call → Type 0
AreOfLines made seen played [] = ⊤
AreOfLines made seen played (Hear line rise width ∷ calls) =
    IsOfLine made seen played line rise width × AreOfLines made seen played calls
AreOfLines made seen played (Tick now ∷ calls) = AreOfLines made seen played calls

-- these changes of each line were seen, of which these were played. Those from a place on wait to be played,
-- and the receiver had these calls
pub record IsPlayedTo {P : Type 0} {g : Ghosts P} (r : Recording P g) (place : ℕ) (made : MadeOf)
    (start : ℕ) (seen played : ℕ → List Edge) (calls : List Call)
    : Type 0 where
  pub receiver : IsReceiverOf r.receiver made start calls
  pub lines : AreChannelsOf r.channels seen played
  pub told : AreOfLines made seen played calls
  pub wait : (line : ℕ)
      → seen line ≡ changes_on line (drop place r.held.changes.items) ++ played line

-- the changes of each line the newest first, of those that are listed the oldest first
abbrev pub newest : (ℕ → List Edge) → ℕ → List Edge
newest seen line = reverse (seen line)

-- more changes are seen, and those that were played, and all that was told since, are the same
abbrev pub SeesMore : {P : Type 0} {g : Ghosts P} → (old new : Recording P g)
    → (seen more played : ℕ → List Edge) → Type 0
SeesMore old new seen more played =
    (made : MadeOf) (start : ℕ) (calls : List Call)
    → IsPlayedTo old old.held.played made start (newest seen) played calls
    → IsPlayedTo new new.held.played made start (newest more) played calls

-- levels were told of each line up to a time or to the end, of which these changes were seen
pub record IsToldTo {P : Type 0} {g : Ghosts P} (old new : Recording P g) (glitch : ℕ)
    (until : Option ℕ) (told seen played : ℕ → List Edge)
    : Type 0 where
  pub more : ℕ → List Edge
  pub are : AreChannelsTo new.channels glitch until told more played
  pub sees : SeesMore old new seen more played

-- a level more was told of a line
abbrev pub IsToldLevel : {P : Type 0} {g : Ghosts P} → (old new : Recording P g) → (line : ℕ)
    → (level : Edge) → Type 0
IsToldLevel old new line level =
    (glitch now : ℕ) (told seen played : ℕ → List Edge)
    → AreChannelsTo old.channels glitch (Some now) told seen played → now ≤ level.time_ns
    → 2 ≤ room old.held
    → IsToldTo old new glitch (Some level.time_ns) (and_on line (level ∷ []) told) seen played

-- levels were told that do not lie before those told last, and for which there was room
abbrev pub IsToldLevels : {P : Type 0} {g : Ghosts P} → (old new : Recording P g) → Levels → Type 0
IsToldLevels old new levels =
    (glitch : ℕ) (told seen played : ℕ → List Edge)
    → AreChannelsTo old.channels glitch (Some old.now_ns) told seen played
    → old.now_ns ≤ levels.time_ns → IsTrue (has_room old.held)
    → IsToldTo old new glitch (Some levels.time_ns) (told_of_lines old.lines levels told) seen
    played

-- the change at a place is played: whatever was played before, it is played too
abbrev pub PlaysOn : {P : Type 0} {g : Ghosts P} → (old new : Recording P g) → Change → (place : ℕ)
    → Type 0
PlaysOn old new c place =
    (made : MadeOf) (start : ℕ) (seen played : ℕ → List Edge) (calls : List Call)
    → IsPlayedTo old place made start seen played calls
    → slice_get old.held.changes.items place ≡ Some c
    → (more : List Call)
    × IsPlayedTo new (place + 1) made start seen (and_played c.line (edge_of c) played) more

-- a second that was told is carried by pulses of the lines as they were recorded, after these calls
pub record IsOfRecording (made : MadeOf) (seen played : ℕ → List Edge) (second : ToldSecond)
    : Type 0 where
  pub calls : List Call
  pub told : IsToldAfter made calls second
  pub are : AreOfLines made seen played calls

-- so many more changes were played: those that wait begin there, and what was told is of the recording
pub record HasPlayed {P : Type 0} {g : Ghosts P} (new : Recording P g) (told : Option ToldSecond)
    (made : MadeOf) (start : ℕ) (seen : ℕ → List Edge)
    : Type 0 where
  pub played : ℕ → List Edge
  pub calls : List Call
  pub is : IsPlayedTo new new.held.played made start seen played calls
  pub of : (second : ToldSecond) → told ≡ Some second → IsOfRecording made seen played second

-- changes that wait are played, up to a second that is told
abbrev pub PlaysUpTo : {P : Type 0} {g : Ghosts P} → (old new : Recording P g) → Option ToldSecond
    → Type 0
PlaysUpTo old new told =
    (made : MadeOf) (start : ℕ) (seen played : ℕ → List Edge) (calls : List Call)
    → IsPlayedTo old old.held.played made start seen played calls
    → HasPlayed new told made start seen

-- a second is shown as it was told
pub record IsShownAs (second : RecordedSecond) (told : ToldSecond) : Type 0 where
  pub lines : second.lines_us ≡ told.edge_us
  pub beat : second.beat ≡ told.beat
  pub vote : second.vote ≡ told.vote

-- ---- what was told of a recording

-- up to when a recording was told, unless it has ended
abbrev pub until_of : (ended : Option ℕ) → (now : ℕ) → Option ℕ
until_of None now = Some now
until_of (Some time) now = None

-- a recording whose timekeeper was made of this, where a level lasts for so long or is a glitch, and to
-- whose lines these levels were told, the oldest first
pub record IsRecordingOf {P : Type 0} {g : Ghosts P} (r : Recording P g) (made : MadeOf) (glitch : ℕ)
    (told : ℕ → List Edge)
    : Type 0 where
  pub seen : ℕ → List Edge
  pub played : ℕ → List Edge
  pub calls : List Call
  pub count : r.lines ≡ ports_in made.clock.redundancy
  pub channels : AreChannelsTo r.channels glitch (until_of r.end_us r.now_ns) told seen played
  pub is : IsPlayedTo r r.held.played made 0 (newest seen) played calls

-- a timekeeper was told a pulse that a line has by its levels without glitches, whatever may still come: it
-- is as wide, and it rose at a lines' time of its rise
pub record IsOfLevels (made : MadeOf) (glitch : ℕ) (until : Option ℕ) (told : ℕ → List Edge)
    (line rise width : ℕ)
    : Type 0 where
  pub polarity : Bool
  pub pulse : Pulse
  pub of : (rest : List Edge) → MayCome until rest → AreInOrder rest → IsOneOf pulse
      (pulses_of polarity (reverse (without_glitches glitch (told line ++ rest))))
  pub wide : width ≡ pulse.width_us
  pub time : LinesTime
  pub rises : risen_at (lines_at time pulse.rise_us) (delay_at made.clock.delays line) ≡ Some rise

-- so is each that it was told
abbrev pub AreOfLevels : MadeOf → (glitch : ℕ) → Option ℕ → (told : ℕ → List Edge) → List Call
    → Type 0
AreOfLevels made glitch until told [] = ⊤
AreOfLevels made glitch until told (Hear line rise width ∷ calls) =
    IsOfLevels made glitch until told line rise width × AreOfLevels made glitch until told calls
AreOfLevels made glitch until told (Tick now ∷ calls) = AreOfLevels made glitch until told calls

-- a second that is shown was told by a timekeeper after such pulses alone
pub record IsCarriedBy (made : MadeOf) (glitch : ℕ) (until : Option ℕ) (told : ℕ → List Edge)
    (second : RecordedSecond)
    : Type 0 where
  pub at : ToldSecond
  pub shown : IsShownAs second at
  pub calls : List Call
  pub tells : IsToldAfter made calls at
  pub are : AreOfLevels made glitch until told calls

-- more was played, and nothing told: whatever was told of it before, it is a recording of that, and what is
-- shown is carried by that
pub record IsPlayedOn {P : Type 0} {g : Ghosts P} (old new : Recording P g)
    (shown : Option RecordedSecond)
    : Type 0 where
  pub is : (made : MadeOf) (glitch : ℕ) (told : ℕ → List Edge) → IsRecordingOf old made glitch told
      → IsRecordingOf new made glitch told
  pub carried : (made : MadeOf) (glitch : ℕ) (told : ℕ → List Edge) → IsRecordingOf old made glitch told
      → IfSome shown (IsCarriedBy made glitch (until_of old.end_us old.now_ns) told)

-- nothing was told of a recording
pub record IsNewRecording {P : Type 0} {g : Ghosts P} (r : Recording P g) (made : MadeOf) (glitch : ℕ)
    : Type 0 where
  pub is : IsRecordingOf r made glitch no_edges
  pub now : r.now_ns ≡ 0
  pub goes : r.end_us ≡ None
  pub room : IsTrue (has_room r.held)

-- levels are told of a recording that has not ended, and had come to no later time, if there is room
abbrev pub IsToldOn : {P : Type 0} {g : Ghosts P} → (old new : Recording P g) → Levels → Type 0
IsToldOn old new levels =
    (made : MadeOf) (glitch : ℕ) (told : ℕ → List Edge) → IsRecordingOf old made glitch told
    → old.end_us ≡ None → old.now_ns ≤ levels.time_ns → IsTrue (has_room old.held)
    → IsRecordingOf new made glitch
    (told_of_lines (ports_in made.clock.redundancy) levels told)

-- a recording ends, if there is room for what comes then
abbrev pub IsEndedOn : {P : Type 0} {g : Ghosts P} → (old new : Recording P g) → Type 0
IsEndedOn old new =
    (made : MadeOf) (glitch : ℕ) (told : ℕ → List Edge) → IsRecordingOf old made glitch told
    → IsTrue (has_room old.held) → IsRecordingOf new made glitch told

-- what is shown takes time: its timekeeper was ticked since
abbrev pub IsLater : {P : Type 0} {g : Ghosts P} → (old new : Recording P g) → Option RecordedSecond
    → Type 0
IsLater old new None = ⊤
IsLater old new (Some second) = old.receiver.ticked_us < new.receiver.ticked_us
