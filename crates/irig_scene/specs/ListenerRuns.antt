-- A report that is made of the events of a scenario: what stands after them, and by how much the output
-- grew.
use Rattle.std.specs.Prelude.{◌≡◌, ℕ, Bool, string_bytes, List, [], ◌++◌, Option, Some, None, Result, Ok, Err}
use Rattle.std.specs.Io.KnownBytes.{Appends}
use Rattle.irig_port.specs.declared.port.Port.{Ghosts}
use Rattle.irig_plant.specs.declared.event.Event.{Event}
use Rattle.irig_plant.specs.History.{HasPlantHistory}
use Rattle.irig_device.specs.Lines.{Bytes}
use Rattle.irig_device.specs.Watched.{AppendsPart}
use Rattle.text_faults.specs.declared.refusal.Refusal.{Refusal}
use Rattle.report_log.specs.Text.{texts_of}
use Rattle.scenario_line.specs.PlantLine.{Plan}
use Rattle.report_run.specs.declared.fault.SceneFault.{SceneFault}
use Rattle.report_run.specs.declared.stop.Failure.TheVariants.{Memory}
use Rattle.report_run.specs.declared.stop.Stop.{Stop}
use Rattle.report_run.specs.declared.stop.Stop.TheVariants.{Refused, Failed}
use Rattle.report_run.specs.Runs.{AreBytesOf, RunFor as RunBy, RanTo as RanBy}
use Rattle.irig_scene.specs.declared.outcome.Outcome.{Outcome}
use Rattle.irig_scene.specs.declared.player.Player.{Player}
use Rattle.irig_scene.specs.declared.player.Stage.{Stage}
use Rattle.irig_scene.specs.Scene.{Scene, scenario, entries_in, play, after_events, second_in}
use Rattle.irig_scene.specs.Listening.{history_past}
use Rattle.irig_scene.specs.Run.{Ends}
use Rattle.irig_scene.specs.Texts.{Texts, of_scenes, said_in}

-- ---- events

-- the output grew by what is said of the one scene more than of the other
pub record SaidMore (t : Texts) (from to : Scene) (old new : Bytes) : Type 0 where
  pub text : List ℕ
  pub more : said_in t to ≡ said_in t from ++ text
  pub wrote : Appends old new text

-- it grew by a prefix of that
pub record SaidPart (t : Texts) (from to : Scene) (old new : Bytes) : Type 0 where
  pub text : List ℕ
  pub more : said_in t to ≡ said_in t from ++ text
  pub wrote : AppendsPart old new text

-- what stands so for a scene played events, up to a refusal if there is one
pub record PlayedFor {A : Type 0} (stands_for : A → Scene → Type 0) (t : Texts) (x : Scene)
    (events : List Event) (a : A) (refusal : Option Refusal) (old new : Bytes) : Type 0 where
  pub refused : (play x.plan.setup events x.events).refusal ≡ refusal
  pub stands : stands_for a (after_events x events)
  pub told : SaidMore t x (after_events x events) old new

-- it played all of them, or up to a refusal, or something failed in the midst of that
abbrev pub Played : {A : Type 0} → (A → Scene → Type 0) → Texts → Result (Unit {0}) Stop → Scene
    → List Event → A → Bytes → Bytes → Type 0
Played stands_for t (Ok done) x events a old new = PlayedFor stands_for t x events a None old new
Played stands_for t (Err (Refused k)) x events a old new =
    PlayedFor stands_for t x events a (Some k) old new
Played stands_for t (Err (Failed f)) x events a old new =
    SaidPart t x (after_events x events) old new

-- whatever scene it is of
abbrev pub Plays : {A : Type 0} → (A → Scene → Type 0) → Texts → A → List Event
    → Result (Unit {0}) Stop → A → Bytes → Bytes → Type 0
Plays stands_for t was events result is old new =
    (x : Scene) → stands_for was x → Played stands_for t result x events is old new

-- the events of its plan
abbrev pub PlaysAsked : {A : Type 0} → (A → Scene → Type 0) → Texts → A → (Plan → List Event)
    → Result (Unit {0}) Stop → A → Bytes → Bytes → Type 0
PlaysAsked stands_for t was events result is old new =
    (x : Scene) → stands_for was x → Played stands_for t result x (events x.plan) is old new

-- ---- a player

-- the text that a stage holds
abbrev pub text_in : {L P : Type 0} {g : Ghosts P} → Stage L P g → List ℕ
text_in s = string_bytes s.text

-- a second is played only while less bytes than these are yet to be written
abbrev pub max_held : ℕ
max_held = 8192

-- and that of a player
abbrev pub held_by : {L P : Type 0} {g : Ghosts P} → Player L P g → List ℕ
held_by p = string_bytes p.stage.text

-- it stands as a scene leaves it; entries that were said may stand until the next event
pub record IsStageAt {L P : Type 0} {g : Ghosts P} (stands_for : L → Scene → Type 0)
    (s : Stage L P g) (x : Scene) : Type 0 where
  pub listener : stands_for s.listener x
  pub gone : ℕ
  pub plant : HasPlantHistory s.plant.plant (history_past gone x)
  pub named : texts_of s.lines.names.keys ≡ x.plan.names

-- and with it the events of a whole second
pub record IsPlayerAt {L P : Type 0} {g : Ghosts P} (stands_for : L → Scene → Type 0)
    (p : Player L P g) (x : Scene) : Type 0 where
  pub stage : IsStageAt stands_for p.stage x
  pub second : p.second.items ≡ second_in x.plan

-- what stands so played events, up to a refusal if there is one, and what is said of them was added
-- to a text; or there was no memory
abbrev pub Adds : {A : Type 0} → (A → Scene → Type 0) → Texts → A → List Event
    → Result (Unit {0}) Stop → A → List ℕ → List ℕ → Type 0
Adds stands_for t was events (Ok done) is old new =
    (x : Scene) → stands_for was x → PlayedFor stands_for t x events is None (Some old) (Some new)
Adds stands_for t was events (Err (Refused k)) is old new =
    (x : Scene) → stands_for was x
    → PlayedFor stands_for t x events is (Some k) (Some old) (Some new)
Adds stands_for t was events (Err (Failed f)) is old new = f ≡ Memory

-- it played events without a refusal; of what is said of them the front was written, and this is
-- yet to be
pub record HoldsTextOf {A : Type 0} (stands_for : A → Scene → Type 0) (t : Texts) (x : Scene)
    (events : List Event) (a : A) (text : List ℕ) (old new : Bytes) : Type 0 where
  pub front : List ℕ
  pub plays : PlayedFor stands_for t x events a None (Some []) (Some (front ++ text))
  pub wrote : Appends old new front

-- ---- all lines

-- the answer for the input x: what it says, what was read, and what was written
abbrev pub RunFor : Texts → Result Outcome SceneFault → List ℕ → Bytes → Bytes → Bytes → Bytes
    → Type 0
RunFor t r x was left old new = RunBy scenario Ends (of_scenes t) r x was left old new

-- for the bytes of the input, and if it does not tell them, for some; and what its listener heard of
-- them
abbrev pub RanTo : {A : Type 0} → (A → Scene → Type 0) → Bool → Texts → Result Outcome SceneFault
    → Option A → List ℕ → Bytes → Bytes → Bytes → Bytes → Type 0
RanTo stands_for counts t r listener notes was left old new =
    RanBy scenario Ends entries_in stands_for counts (of_scenes t) r listener notes was left old new

-- for the bytes of the input, and if it does not tell them, for some
pub record RanFor (t : Texts) (r : Result Outcome SceneFault) (was left old new : Bytes)
    : Type 0 where
  pub bytes : List ℕ
  pub of_input : AreBytesOf was bytes
  pub ran : RunFor t r bytes was left old new
