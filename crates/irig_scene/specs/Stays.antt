-- What is said of a scene stays, whatever a further line does. It is a proof, not a definition: that of
-- a trait's law has to stand here.
use Rattle.std.proofs.Common.{◌≡◌, ℕ, List, [], ◌∷◌, ◌++◌, Option, Some, None, Result, Ok, Err, sym, ◌∙◌, append-nil, append_assoc}
use Rattle.std.specs.Prelude.{option_and_then}
use Rattle.irig_plant.specs.declared.event.Event.{Event}
use Rattle.irig_plant.specs.Refusals.{refusal}
use Rattle.text_faults.specs.declared.refusal.Refusal.{Refusal}
use Rattle.scenario_line.specs.declared.event_line.Command.{Command}
use Rattle.scenario_line.specs.EventLine.{command_in_line}
use Rattle.scenario_line.specs.PlantLine.{Plan}
use Rattle.report_run.specs.Texts.{Stays}
use Rattle.irig_scene.specs.Scene.{Scene, Play, refusal_as, play, unless_refused, events_of, after_events, next_of_command, scenario}
use Rattle.irig_scene.specs.Texts.{Texts, of_scenes, said, said_in}

-- what is said of events is in front of what is said of those and later ones
pub record TextGrows (texts : Texts) (plan : Plan) (ev later : List Event) : Type 0 where
  pub text : List ℕ
  pub is : said texts plan later ≡ said texts plan ev ++ text

-- so of one scene and another
pub record SaidFront (texts : Texts) (from to : Scene) : Type 0 where
  pub text : List ℕ
  pub more : said_in texts to ≡ said_in texts from ++ text

module _ (texts : Texts) where
  text_keeps : (plan : Plan) (ev : List Event) → TextGrows texts plan ev ev
  text_keeps plan ev = record { text = []; is = sym (append-nil (said texts plan ev)) }

  text_unless : (plan : Plan) (k : Option Refusal) (ev : List Event) (rest : Play)
      → TextGrows texts plan ev rest.events
      → TextGrows texts plan ev (unless_refused k ev rest).events
  text_unless plan None ev rest h = h
  text_unless plan (Some k) ev rest h = text_keeps plan ev

  text_then : (plan : Plan) (e : Event) (ev later : List Event)
      → TextGrows texts plan (e ∷ ev) later → TextGrows texts plan ev later
  text_then plan e ev later h = record {
    text = texts.event plan e ev ++ h.text;
    is = h.is ∙ append_assoc (said texts plan ev) (texts.event plan e ev) h.text;
  }

  text_grows : (plan : Plan) (es ev : List Event)
      → TextGrows texts plan ev (play plan.setup es ev).events
  text_grows plan [] ev = text_keeps plan ev
  text_grows plan (e ∷ es) ev =
      text_unless plan (option_and_then refusal_as (refusal plan.setup e ev)) ev
      (play plan.setup es (e ∷ ev))
      (text_then plan e ev (play plan.setup es (e ∷ ev)).events (text_grows plan es (e ∷ ev)))

  -- so it is, when events are played
  pub front_of_play : (x : Scene) (es : List Event) → SaidFront texts x (after_events x es)
  front_of_play x es =
      let grown = text_grows x.plan es x.events in
      record { text = grown.text; more = grown.is }

  front_of_command : (x : Scene) (c : Result Command Refusal)
      → SaidFront texts x (next_of_command x c).scene
  front_of_command x (Ok c) = front_of_play x (events_of x.plan c)
  front_of_command x (Err k) = record { text = []; more = sym (append-nil (said_in texts x)) }

  -- so it is, whatever a line asks for
  pub said_stays : Stays scenario (of_scenes texts)
  said_stays x line =
      let front = front_of_command x (command_in_line x.plan.names line) in
      (front.text, front.more)
