-- A stage that plays events, and a player.
use Rattle.std.proofs.Common.{◌≡◌, ℕ, length, List, [], ◌∷◌, ◌++◌, Option, Some, None, Result, Ok, Err, ap, sym, subst, ◌∙◌, arith}
use Rattle.irig_port.specs.declared.port.Port.{Ghosts}
use Rattle.irig_plant.specs.declared.entry.Entry.{Entry}
use Rattle.irig_plant.specs.declared.event.Event.{Event}
use Rattle.irig_plant.specs.WholeSecond.{times}
use Rattle.irig_plant.specs.History.{ForHistory, HasPlantHistory}
use Rattle.irig_plant.specs.Schedule.{log_of}
use Rattle.report_log.specs.Text.{texts_of}
use Rattle.scenario_line.specs.declared.event_reader.EventReader.{EventReader}
use Rattle.std.specs.Prelude.{Vec, String, IfOk, drop, string_bytes}
use Rattle.std.specs.declared.alloc.Global.{Global}
use Rattle.irig_scene.specs.Listening.{history_past, Gave, HasTaken}
use Rattle.text_faults.specs.declared.refusal.Refusal.{Refusal}
use Rattle.report_run.specs.declared.stop.Stop.{Stop}
use Rattle.report_run.specs.declared.stop.Stop.TheVariants.{Refused, Failed}
use Rattle.irig_plant.specs.declared.plant.Plant.{Plant}
use Rattle.scenario_line.specs.PlantLine.{Plan}
use Rattle.irig_scene.specs.Scene.{Scene, scene}
use Rattle.irig_scene.specs.Scene.{after_events, second_in}
use Rattle.irig_scene.specs.declared.player.Player.{Player}
use Rattle.irig_scene.specs.declared.player.Stage.{Stage}
use Rattle.irig_scene.specs.declared.stepped.SteppedPlant.{SteppedPlant}
use Rattle.irig_scene.specs.Stepping.{Steps, HasStepped}
use Rattle.irig_scene.specs.Texts.{Texts}
use Rattle.report_run.specs.Runs.{IsAt}
use Rattle.irig_scene.specs.ListenerRuns.{PlayedFor, Adds, HoldsTextOf, IsStageAt, IsPlayerAt, text_in, held_by}
use Rattle.irig_scene.proofs.LogLaws.{gave}
use Rattle.irig_scene.proofs.PlayedLaws.{ends_in, takes_one, stops_one}

-- ---- a stage

-- these entries stand in the plant's log
abbrev pub IsInLog : {P : Type 0} {g : Ghosts P} → Plant P g → List Entry → Type 0
IsInLog plant entries = ForHistory plant (λ h. entries ≡ drop h.shown (log_of h.setup h.events))

module _ {A : Type 0} (stands : A → Scene → Type 0) (texts : Texts) where
  -- what ends events in the midst ends all of them
  pub ends_adding : (stop : Stop) (a b rest all : List Event) (was p q : A) (t0 t1 t2 : List ℕ) → all ≡ (a ++ b) ++ rest
      → ((x : Scene) → stands was x → PlayedFor stands texts x a p None (Some t0) (Some t1)) → Adds stands texts p b (Err stop) q t1 t2 → Adds stands texts was all (Err stop) q t0 t2
  ends_adding (Refused r) a b rest all was p q t0 t1 t2 is h l = λ x at.
      let before = h x at in
      ends_in stands texts (Refused r) x a b rest all p q (Some t0) (Some t1) (Some t2) is before (l (after_events x a) before.stands)
  ends_adding (Failed f) a b rest all was p q t0 t1 t2 is h l = l

  pub refused_adds : (s : Stop) (k : Refusal) (was is : A) (es : List Event) (t0 t1 : List ℕ) → s ≡ Refused k → Adds stands texts was es (Err s) is t0 t1
      → (x : Scene) → stands was x → PlayedFor stands texts x es is (Some k) (Some t0) (Some t1)
  refused_adds s k was is es t0 t1 e h = subst (λ (s : Stop). Adds stands texts was es (Err s) is t0 t1) e h

module _ {L P : Type 0} {g : Ghosts P} (stands_for : L → Scene → Type 0) where
  -- one with other text stands where it stood
  pub other_text : (x : Scene) (s q : Stage L P g) → q.listener ≡ s.listener → q.plant ≡ s.plant → q.lines ≡ s.lines → IsStageAt stands_for s x → IsStageAt stands_for q x
  other_text x s q of_listener of_plant of_lines at = record {
    listener = subst (λ l. stands_for l x) (sym of_listener) at.listener;
    gone = at.gone;
    plant = subst (λ (p : SteppedPlant P g). HasPlantHistory p.plant (history_past at.gone x)) (sym of_plant) at.plant;
    named = ap (λ (r : EventReader). texts_of r.names.keys) of_lines ∙ at.named;
  }

  -- ---- an event

  taken : (s : Stage L P g) (plant : SteppedPlant P g) (seen : Plant P g) (names : List (List ℕ)) (e : Event) (x : Scene) → seen ≡ plant.plant → names ≡ texts_of s.lines.names.keys → Steps s.plant.plant e (Ok tt) plant.plant
      → IsStageAt stands_for s x → HasTaken seen names e x
  taken s plant seen names e x same of_names steps at =
      let both = steps (history_past at.gone x) at.plant in
      record { accepted = both.0; stands = rw same both.1; named = of_names ∙ at.named }

  -- it was taken, and what is said of it was pushed
  pub step_takes : (texts : Texts) (s : Stage L P g) (plant : SteppedPlant P g) (seen : Plant P g) (names : List (List ℕ)) (listener : L) (text : String Global) (e : Event) (entries : List Entry)
      → seen ≡ plant.plant → names ≡ texts_of s.lines.names.keys → Steps s.plant.plant e (Ok tt) plant.plant → IsInLog seen entries
      → ((x : Scene) → stands_for s.listener x → HasTaken seen names e x → Gave e x entries → string_bytes text ≡ string_bytes s.text ++ texts.event x.plan e x.events)
      → ((x : Scene) → stands_for s.listener x → HasTaken seen names e x → Gave e x entries → stands_for listener (scene x.plan (e ∷ x.events)))
      → Adds (IsStageAt stands_for) texts s (e ∷ []) (Ok tt) (record s { listener = listener; plant = plant; text = text }) (text_in s) (string_bytes text)
  step_takes texts s plant seen names listener text e entries same of_names steps logged said stands = λ x at.
      let h = taken s plant seen names e x same of_names steps at in
      let entries_are = logged _ h.stands ∙ gave x.plan.setup e x.events in
      let both = steps (history_past at.gone x) at.plant in
      takes_one (IsStageAt stands_for) texts x e (record s { listener = listener; plant = plant; text = text }) (Some (text_in s)) (Some (string_bytes text)) both.0
      (record { listener = stands x at.listener h entries_are; gone = length (log_of x.plan.setup x.events); plant = both.1; named = at.named })
      (said x at.listener h entries_are)

  -- it was refused, or there was no memory
  pub step_stops : (texts : Texts) (s : Stage L P g) (plant : SteppedPlant P g) (e : Event) (stop : Stop) → Steps s.plant.plant e (Err stop) plant.plant
      → Adds (IsStageAt stands_for) texts s (e ∷ []) (Err stop) (record s { plant = plant }) (text_in s) (text_in s)
  step_stops texts s plant e (Refused k) steps = λ x at.
      let both = steps (history_past at.gone x) at.plant in
      stops_one (IsStageAt stands_for) texts x e (record s { plant = plant }) (Some (text_in s)) k both.0
      (record { listener = at.listener; gone = length (log_of x.plan.setup x.events); plant = both.1; named = at.named })
  step_stops texts s plant e (Failed f) steps = steps

  -- ---- a player

  pub other_player : (q p : Player L P g) → q.second ≡ p.second → q.stage.listener ≡ p.stage.listener → q.stage.plant ≡ p.stage.plant → q.stage.lines ≡ p.stage.lines → (y : Scene) → IsPlayerAt stands_for p y → IsPlayerAt stands_for q y
  other_player q p same of_listener of_plant of_lines y at = record {
    stage = other_text y p.stage q.stage of_listener of_plant of_lines at.stage;
    second = ap (λ (v : Vec Event Global). v.items) same ∙ at.second;
  }

  pub of_stage : (texts : Texts) (x : Scene) (es : List Event) (p q : Player L P g) (k : Option Refusal) (old new : Option (List ℕ)) → q.second ≡ p.second → p.second.items ≡ second_in x.plan
      → PlayedFor (IsStageAt stands_for) texts x es q.stage k old new → PlayedFor (IsPlayerAt stands_for) texts x es q k old new
  of_stage texts x es p q k old new same second h = record {
    refused = h.refused;
    stands = record { stage = h.stands; second = ap (λ (v : Vec Event Global). v.items) same ∙ second };
    told = h.told;
  }

  -- a second after others
  pub second_plays : (texts : Texts) (x : Scene) (i : ℕ) (b c : Player L P g) (k : Option Refusal) (o0 o1 : Option (List ℕ)) (es : List Event) → c.second ≡ b.second → es ≡ b.second.items
      → HoldsTextOf (IsPlayerAt stands_for) texts x (times i (second_in x.plan)) b (held_by b) o0 o1
      → ((y : Scene) → IsStageAt stands_for b.stage y → PlayedFor (IsStageAt stands_for) texts y es c.stage k (Some (text_in b.stage)) (Some (text_in c.stage)))
      → PlayedFor (IsPlayerAt stands_for) texts (after_events x (times i (second_in x.plan))) (second_in x.plan) c k (Some (held_by b)) (Some (held_by c))
  second_plays texts x i b c k o0 o1 es kept same was adds =
      let y = after_events x (times i (second_in x.plan)) in
      of_stage texts y (second_in x.plan) b c k (Some (held_by b)) (Some (held_by c)) kept was.plays.stands.second
      (subst (λ (es : List Event). PlayedFor (IsStageAt stands_for) texts y es c.stage k (Some (text_in b.stage)) (Some (text_in c.stage))) (same ∙ was.plays.stands.second) (adds y was.plays.stands.stage))

-- ---- what was made

pub made : {A E : Type 0} (r : Result A E) (a : A) (C : A → Type 0) → r ≡ Ok a → IfOk r C → C a
made r a C e h = subst (λ r. IfOk r C) e h

-- and no entry of it stands
pub begun : {P : Type 0} {g : Ghosts P} (p : Plant P g) (plan : Plan) → HasPlantHistory p (history_past 0 (scene plan [])) → HasStepped p
begun p plan h = record {
  happened = record { history = history_past 0 (scene plan []); stands = h };
  few = omega (arith, p.log.ok.0, ap length h.log);
}

-- ---- who listens to a player

-- who listened to a player stands as it
pub listener_stands : {L P : Type 0} {g : Ghosts P} (stands_for : L → Scene → Type 0) (r : Option (Player L P g)) (p : Player L P g) (l : L) (at : Option Scene)
    → r ≡ Some p → l ≡ p.stage.listener → IsAt (IsPlayerAt stands_for) r at → IsAt stands_for (Some l) at
listener_stands stands_for r p l None is same stands = absurd (subst (λ r. IsAt (IsPlayerAt stands_for) r None) is stands)
listener_stands stands_for r p l (Some x) is same stands =
    let at = subst (λ r. IsAt (IsPlayerAt stands_for) r (Some x)) is stands in
    subst (λ l. stands_for l x) (sym same) at.stage.listener
