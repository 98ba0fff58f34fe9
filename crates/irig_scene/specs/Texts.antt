-- What is written of a scenario in place of its log, by what is said of each of its events.
-- Source: docs/OUTPUT.md and docs/SCENARIOS.md.
use Rattle.std.specs.Prelude.{ℕ, Bool, List, [], ◌∷◌, ◌++◌}
use Rattle.irig_plant.specs.declared.event.Event.{Event}
use Rattle.scenario_line.specs.PlantLine.{Plan}
use Rattle.report_run.specs.Texts.{Texts as TextsOfRun, last_of as last_of_run, whole_text as whole_text_of_run}
use Rattle.irig_scene.specs.Scene.{Scene, scenario}

-- what is said of a plant line; of an event of a plan that comes after these; of what is open where
-- a line is refused; and where the lines end without a refusal
pub record Texts : Type 0 where
  pub first : List ℕ → List ℕ
  pub event : Plan → Event → List Event → List ℕ
  pub closing : Scene → List ℕ
  pub end : Scene → List ℕ

-- of a listener that says nothing
abbrev pub no_texts : Texts
no_texts = record {
  first = λ line. [];
  event = λ plan e ev. [];
  closing = λ x. [];
  end = λ x. [];
}

-- what is said of events, the oldest first
abbrev pub said : Texts → Plan → List Event → List ℕ
said t plan [] = []
said t plan (e ∷ ev) = said t plan ev ++ t.event plan e ev

-- of those of a scene
abbrev pub said_in : Texts → Scene → List ℕ
said_in t x = said t x.plan x.events

-- what is said of the plant line and of the events of a scene
abbrev pub of_scenes : Texts → TextsOfRun Scene
of_scenes t = record {
  first = t.first;
  said = λ x. said_in t x;
  closing = t.closing;
  end = t.end;
}

-- what comes last: what is open, if a line is refused, and else what ends the text
abbrev pub last_of : Texts → Bool → Scene → List ℕ
last_of t refused x = last_of_run (of_scenes t) refused x

-- all that is written for the bytes x
abbrev pub whole_text : Texts → List ℕ → List ℕ
whole_text t x = whole_text_of_run scenario (of_scenes t) x
