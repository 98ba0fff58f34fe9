-- The lines of a recording as they are heard, by the levels that were told of them, the newest first.
-- Source: this project's profile.
use Rattle.std.specs.Prelude.{◌≡◌, ℕ, ◌*◌, ◌≤◌, Bool, if◌then◌else◌, is_some, List, [], ◌∷◌, ◌++◌, Option, Some, None, IsTrue, ⊤, string_bytes}
use Rattle.irig_vote.specs.Vote.{ports_in}
use Rattle.irig_timekeeper.specs.Lived.{MadeOf}
use Rattle.record_levels.specs.declared.levels.Levels.{Levels}
use Rattle.record_pulses.specs.declared.edge.Edge.{Edge}
use Rattle.record_lines.specs.declared.second.RecordedSecond.{RecordedSecond}
use Rattle.record_lines.specs.Channels.{no_edges, told_of_lines}
use Rattle.record_lines.specs.Helds.{has_room}
use Rattle.record_lines.specs.Recordings.{IsCarriedBy, IsRecordingOf, until_of}
use Rattle.record_verdict.specs.declared.verdict.Verdict.{Verdict}
use Rattle.record_verdict.specs.Verdicts.{IsVerdictOf, first_agreed}
use Rattle.report_verdict.specs.declared.line_seen.LineSeen.{LineSeen}
use Rattle.report_verdict.specs.JsonText.{json_text}
use Rattle.report_verdict.specs.VerdictText.{verdict_text}
use Rattle.report_judge.specs.declared.asked.Asked.{Asked}
use Rattle.report_judge.specs.declared.hearing.Hearing.{Hearing}
use Rattle.report_judge.specs.declared.hearing.Judged.{Judged}
use Rattle.report_judge.specs.Channels.{redundancy_of}

-- what each of so many lines was told by these levels
abbrev pub told_by : (lines : ℕ) → List Levels → ℕ → List Edge
told_by lines [] = no_edges
told_by lines (levels ∷ before) = told_of_lines lines levels (told_by lines before)

-- when the newest of them came; 0 of none
abbrev pub last_time : List Levels → ℕ
last_time [] = 0
last_time (levels ∷ before) = levels.time_ns

-- each of these seconds is carried by what was told of the lines
abbrev pub AreCarried : MadeOf → (glitch : ℕ) → Option ℕ → (told : ℕ → List Edge)
    → List RecordedSecond → Type 0
AreCarried made glitch until told [] = ⊤
AreCarried made glitch until told (second ∷ seconds) =
    IsCarriedBy made glitch until told second × AreCarried made glitch until told seconds

-- lines that were told this: each second of which the verdict is, is carried by it
pub record IsTaking (h : Hearing) (made : MadeOf) (glitch : ℕ) (told : ℕ → List Edge) : Type 0 where
  pub recording : IsRecordingOf h.recording made glitch told
  pub seconds : List RecordedSecond
  pub verdict : IsVerdictOf h.verdict (ports_in made.clock.redundancy) seconds
  pub carried : AreCarried made glitch (until_of h.recording.end_us h.recording.now_ns) told seconds

-- lines that go on, to which these levels were told
pub record IsHearingOf (h : Hearing) (made : MadeOf) (glitch : ℕ) (levels : List Levels) : Type 0 where
  pub taking : IsTaking h made glitch (told_by (ports_in made.clock.redundancy) levels)
  pub goes : h.recording.end_us ≡ None
  pub time : h.recording.now_ns ≡ last_time levels
  pub room : IsTrue (has_room h.recording.held)

-- whatever was told before, more is taken of it, until there is no more
abbrev pub TakesOn : (old new : Hearing) → Type 0
TakesOn old new =
    (made : MadeOf) (glitch : ℕ) (told : ℕ → List Edge) → IsTaking old made glitch told
    → IsTaking new made glitch told

-- levels are heard that do not come before those heard last
abbrev pub HearsOn : (old new : Hearing) → Levels → Type 0
HearsOn old new levels =
    (made : MadeOf) (glitch : ℕ) (before : List Levels) → IsHearingOf old made glitch before
    → last_time before ≤ levels.time_ns → IsHearingOf new made glitch (levels ∷ before)

-- the recording ends
abbrev pub EndsOn : (old new : Hearing) → Type 0
EndsOn old new =
    (made : MadeOf) (glitch : ℕ) (levels : List Levels) → IsHearingOf old made glitch levels
    → IsTaking new made glitch (told_by (ports_in made.clock.redundancy) levels)

-- ---- by what is asked

-- a timekeeper is made of the rules that are asked for, and of so many lines
pub record IsMadeFor (asked : Asked) (lines : ℕ) (made : MadeOf) : Type 0 where
  pub rules : made.rules ≡ asked.rules
  pub redundancy : redundancy_of lines ≡ Some made.clock.redundancy

-- a level that lasts for less is a glitch, in nanoseconds
abbrev pub glitch_of : Asked → ℕ
glitch_of asked = asked.glitch_us * 1000

-- so many lines have heard these levels
pub record HasHeard (asked : Asked) (lines : ℕ) (levels : List Levels) (h : Hearing) : Type 0 where
  pub made : MadeOf
  pub for : IsMadeFor asked lines made
  pub heard : IsHearingOf h made (glitch_of asked) levels
  pub form : h.as_json ≡ asked.as_json

-- the text of a verdict with what was seen of lines, as it is asked for. What else is said stands
-- in front of its lines, or as further keys of its object
abbrev pub IsVerdictText : (said : List ℕ) → (as_json : Bool) → Verdict → List LineSeen → (text : List ℕ) → Type 0
IsVerdictText said as_json verdict lines text =
    text ≡ (if as_json then json_text verdict lines said else said ++ verdict_text verdict lines)

-- nothing else is said
abbrev pub nothing_else : Verdict → List ℕ
nothing_else verdict = []

-- the verdict on so many lines that were told these levels, with what else is said by it: that of
-- seconds which the levels carry
pub record IsVerdictOn (said : Verdict → List ℕ) (asked : Asked) (lines : ℕ) (levels : List Levels) (judged : Judged)
    : Type 0 where
  pub made : MadeOf
  pub for : IsMadeFor asked lines made
  pub seconds : List RecordedSecond
  pub carried : AreCarried made (glitch_of asked) None (told_by (ports_in made.clock.redundancy) levels)
      seconds
  pub verdict : Verdict
  pub of : IsVerdictOf verdict (ports_in made.clock.redundancy) seconds
  pub text : (seen : List LineSeen) × IsVerdictText (said verdict) asked.as_json verdict seen (string_bytes judged.text)
  pub decided : judged.is_decided ≡ is_some (first_agreed seconds)
