-- A scenario written out as what its readers hear: its plant line as it stands, and lines of
-- pulses, ticks and restarts alone.
-- Source: docs/SCENARIOS.md.
use Rattle.std.specs.Prelude.{ℕ, List, [], ◌∷◌, ◌++◌, option_to_list, option_map, Option, Some, None}
use Rattle.irig_plant.specs.declared.event.Event.{Event}
use Rattle.irig_plant.specs.Schedule.{Setup}
use Rattle.report_flat.specs.EventText.{event_line}
use Rattle.report_log.specs.Text.{refusal_text}
use Rattle.irig_scene.specs.Texts.{Texts}
use Rattle.report_run.specs.Texts.{first_of}
use Rattle.report_run.specs.Lines.{lines, unlines}
use Rattle.irig_scene.specs.Scene.{scenario, Scene, meaning_of}
use Rattle.report_run.specs.Meanings.{Refused, Meaning}
use Rattle.report_flat.specs.Recording.{heard_of}

-- the line of what readers hear of an event, if they hear something
abbrev pub heard_line : List (List ℕ) → Setup → Event → List Event → Option (List ℕ)
heard_line names s e ev = option_map (event_line names) (heard_of s e ev)

-- so of all events, the oldest first
abbrev pub heard_lines : List (List ℕ) → Setup → List Event → List (List ℕ)
heard_lines names s [] = []
heard_lines names s (e ∷ ev) = heard_lines names s ev ++ option_to_list (heard_line names s e ev)

-- the plant line, and what readers heard since; nothing before there is a plant
abbrev pub flat_lines : List ℕ → Option Scene → List (List ℕ)
flat_lines first None = []
flat_lines first (Some x) = first ∷ heard_lines x.plan.names x.plan.setup x.events

-- their text
abbrev pub flat_of : List ℕ → Option Scene → List ℕ
flat_of first at = unlines (flat_lines first at)

-- the last line, if a line was refused
abbrev pub refused_text : Option Refused → List ℕ
refused_text None = []
refused_text (Some k) = refusal_text k.line k.refusal

-- the text of what lines mean, and the refusal, if one was refused
abbrev pub flat_meaning : List ℕ → Meaning Scene → List ℕ
flat_meaning first m = flat_of first m.scene ++ refused_text m.refused

-- all that is written for the bytes x
abbrev pub flat_text : List ℕ → List ℕ
flat_text x = flat_meaning (first_of (lines x)) (meaning_of x)

-- ---- what is said of each event

-- the line of pulses, a tick or a restart with its newline, or nothing
abbrev pub line_text : List (List ℕ) → Option Event → List ℕ
line_text names None = []
line_text names (Some e) = event_line names e ++ 10 ∷ []

-- what readers hear of an event that comes after ev
abbrev pub heard_text : List (List ℕ) → Setup → Event → List Event → List ℕ
heard_text names s e ev = line_text names (heard_of s e ev)

-- the plant line as it stands, what readers hear of each event, and nothing at the end
abbrev pub flat_texts : Texts
flat_texts = record {
  first = λ line. line ++ 10 ∷ [];
  event = λ plan e ev. heard_text plan.names plan.setup e ev;
  closing = λ x. [];
  end = λ x. [];
}
