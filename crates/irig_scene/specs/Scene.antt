-- What a scenario means: the plant and the events that its lines give, and the text that is written
-- for them.
-- Source: docs/SCENARIOS.md and docs/OUTPUT.md.
use Rattle.std.specs.Prelude.{ℕ, Bool, List, [], ◌∷◌, ◌++◌, length, Option, Some, None, Result, Ok, Err, option_and_then}
use Rattle.irig_plant.specs.declared.audit.Audit.{Audit}
use Rattle.irig_plant.specs.declared.event.Event.{Event}
use Rattle.irig_plant.specs.declared.fault.PlantFault.{PlantFault}
use Rattle.irig_plant.specs.declared.fault.PlantFault.TheVariants as plant
use Rattle.irig_plant.specs.Schedule.{Setup, log_of}
use Rattle.irig_plant.specs.Refusals.{refusal}
use Rattle.irig_plant.specs.Audits.{audit_of}
use Rattle.scenario_line.specs.declared.event_line.Command.{Command}
use Rattle.scenario_line.specs.declared.event_line.Command.TheVariants as command
use Rattle.text_faults.specs.declared.refusal.Refusal.{Refusal}
use Rattle.text_faults.specs.declared.refusal.Refusal.TheVariants.{NoSuchReader, NoSuchGenerator, FutureReplay, EndOfYears}
use Rattle.report_run.specs.Meanings.{Language, Next, Meaning, Refused, meaning_of as meaning_of_lines}
use Rattle.irig_plant.specs.WholeSecond.{second_of, times}
use Rattle.scenario_line.specs.EventLine.{command_in_line}
use Rattle.scenario_line.specs.PlantLine.{Plan, plan_in_line}
use Rattle.report_log.specs.declared.shown.Shown.{Shown}
use Rattle.report_log.specs.Text.{entries_alone, lines_text, audit_text, refusal_text}

-- a plant with its readers' names, and the events that came, the newest first
pub record Scene : Type 0 where
  pub plan : Plan
  pub events : List Event

-- this plan after these events
abbrev pub scene : Plan → List Event → Scene
scene plan events = record { plan = plan; events = events }

-- ---- events

-- the events that were played, the newest first, and the refusal of the one after them, if it was
-- refused
pub record Play : Type 0 where
  pub events : List Event
  pub refusal : Option Refusal

-- these events, and this refusal
abbrev pub play_by : List Event → Option Refusal → Play
play_by events k = record { events = events; refusal = k }

-- a refusal, else what follows
abbrev pub unless_refused : Option Refusal → List Event → Play → Play
unless_refused None ev rest = rest
unless_refused (Some k) ev rest = play_by ev (Some k)

-- the refusal of an event; that there is no memory is no refusal of a line
abbrev pub refusal_as : PlantFault → Option Refusal
refusal_as plant.NoSuchReader = Some NoSuchReader
refusal_as plant.NoSuchGenerator = Some NoSuchGenerator
refusal_as plant.FutureReplay = Some FutureReplay
refusal_as plant.EndOfYears = Some EndOfYears
refusal_as plant.Memory = None

-- events one after another, up to the first that is refused
abbrev pub play : Setup → List Event → List Event → Play
play s [] ev = play_by ev None
play s (e ∷ es) ev =
    unless_refused (option_and_then refusal_as (refusal s e ev)) ev (play s es (e ∷ ev))

-- the scene after events were played
abbrev pub after_events : Scene → List Event → Scene
after_events x events = scene x.plan (play x.plan.setup events x.events).events

-- the events of a whole second of a plan
abbrev pub second_in : Plan → List Event
second_in plan = second_of (length plan.setup.generators) (length plan.setup.readers)

-- what a line asks for, as events
abbrev pub events_of : Plan → Command → List Event
events_of plan (command.Event e) = e ∷ []
events_of plan (command.Seconds n) = times n (second_in plan)

-- ---- lines

-- the scene that a plant line begins: nothing has happened
abbrev pub begun : Result Plan Refusal → Result Scene Refusal
begun (Ok plan) = Ok (scene plan [])
begun (Err k) = Err k

-- this scene, and this refusal
abbrev pub next_to : Scene → Option Refusal → Next Scene
next_to x k = record { scene = x; refusal = k }

-- the scene after what was played
abbrev pub after_play : Plan → Play → Next Scene
after_play plan p = next_to (scene plan p.events) p.refusal

-- a further line plays what it asks for
abbrev pub next_of_command : Scene → Result Command Refusal → Next Scene
next_of_command x (Ok c) = after_play x.plan (play x.plan.setup (events_of x.plan c) x.events)
next_of_command x (Err k) = next_to x (Some k)

-- the first line that isn't skipped is the plant's, each further one an event or seconds
abbrev pub scenario : Language Scene
scenario = record {
  begin = λ line. begun (plan_in_line line);
  next = λ x line. next_of_command x (command_in_line x.plan.names line);
}

-- what the bytes x mean
abbrev pub meaning_of : List ℕ → Meaning Scene
meaning_of x = meaning_of_lines scenario x

-- ---- the text

-- the log of a scene, with what its ports told if that is shown
abbrev pub log_text : Shown → Option Scene → List ℕ
log_text shown None = []
log_text shown (Some x) =
    lines_text x.plan.names shown (log_of x.plan.setup x.events)

-- how many entries the log of a scene has
abbrev pub entries_in : Scene → ℕ
entries_in x = length (log_of x.plan.setup x.events)

-- the audit of a scene's events
abbrev pub audit_in : Scene → Audit
audit_in x = audit_of x.plan.setup x.events

-- the audit of a scene, as its line
abbrev pub verdict_text : Option Scene → List ℕ
verdict_text None = []
verdict_text (Some x) = audit_text x.plan.names (audit_in x)

-- the last line: the refusal, else the audit
abbrev pub ending_text : Option Refused → Option Scene → List ℕ
ending_text (Some k) at = refusal_text k.line k.refusal
ending_text None at = verdict_text at

-- the last line of what the bytes mean
abbrev pub last_text : Meaning Scene → List ℕ
last_text m = ending_text m.refused m.scene

-- the log and the last line
abbrev pub text_of : Shown → Meaning Scene → List ℕ
text_of shown m = log_text shown m.scene ++ last_text m

-- all that is written for the bytes x
abbrev pub output_shown : List ℕ → Shown → List ℕ
output_shown x shown = text_of shown (meaning_of x)

-- the same of entries alone, the silent ones too if `all`
abbrev pub output : List ℕ → Bool → List ℕ
output x all = output_shown x (entries_alone all)
