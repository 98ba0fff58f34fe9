-- Known lines, seconds, steps and texts of scenarios, so that a wrong definition does not check.
use Rattle.std.proofs.Common.{◌≡◌, ℕ, true, false, List, [], ◌∷◌, map, length, Option, Some, None, Ok, Err, pos, refl, sym, arith}
use Rattle.std.specs.Prelude.{codes, vec_len}
use Rattle.std.specs.Fmt.{digits}
use Rattle.irig_control.specs.declared.parity.Parity.TheVariants.{Even}
use Rattle.irig_time.specs.declared.second.UtcSecond.{UtcSecond}
use Rattle.irig_time.specs.declared.rules.Rules.{Rules}
use Rattle.irig_time.specs.declared.rules.Sense.TheVariants.{Add}
use Rattle.irig_time.specs.declared.rules.SbsUse.TheVariants.{Check}
use Rattle.irig_time.specs.Timelines.{times, second_at}
use Rattle.irig_time.specs.Tables.{table}
use Rattle.irig_time.proofs.TextValueLaws.{known_second_text}
use Rattle.irig_gen.specs.Frames.{GeneratorValue, gen}
use Rattle.irig_reader.specs.declared.report.Lock.{Lock}
use Rattle.irig_reader.specs.declared.report.Lock.TheVariants as lock
use Rattle.irig_reader.specs.declared.report.Cause.{Cause}
use Rattle.irig_reader.specs.declared.report.Cause.TheVariants as cause
use Rattle.irig_port.specs.declared.port.Port.{Ghosts}
use Rattle.irig_port.specs.declared.told.Told.TheVariants as tells
use Rattle.irig_vote.specs.declared.redundancy.Redundancy.TheVariants.{One}
use Rattle.irig_plant.specs.declared.entry.Entry.{Entry}
use Rattle.irig_plant.specs.declared.plant.Plant.{Plant}
use Rattle.irig_plant.specs.declared.event.Event.TheVariants.{GenEdge, Tick, Carry, Restart}
use Rattle.irig_plant.specs.declared.audit.Audit.TheVariants.{Kept, Broken, FalseTable}
use Rattle.irig_plant.specs.declared.setup.ReaderSetup.{ReaderSetup}
use Rattle.irig_plant.specs.Schedule.{Setup, setup}
use Rattle.irig_plant.specs.WholeSecond.{second_of}
use Rattle.scenario_line.specs.declared.event_line.Command.TheVariants as command
use Rattle.text_faults.specs.declared.refusal.Refusal.TheVariants as refusal
use Rattle.report_run.specs.Lines.{lines, unlines, is_blank, limit_of}
use Rattle.scenario_line.specs.PlantLine.{Plan}
use Rattle.report_log.specs.Text.{entry_text, entries_text, audit_text, refusal_text}
use Rattle.irig_scene.specs.Stepping.{ticks_among, HasStepped}
use Rattle.irig_scene.specs.Scene.{scenario, Scene, scene, play, play_by, next_of_command, meaning_of, output}
use Rattle.report_run.specs.Meanings.{step_to, step_of_next, step, refusal_at, meaning, meaning_from}

-- ---- lines

-- the last line may lack its newline, an empty line is a line, and no bytes are no line
pub known_lines : map lines (codes "a\nb\n" ∷ codes "a\nb" ∷ codes "\n\nb" ∷ codes "\n" ∷ codes "\r\n" ∷ [] ∷ [])
    ≡ (codes "a" ∷ codes "b" ∷ []) ∷ (codes "a" ∷ codes "b" ∷ []) ∷ ([] ∷ [] ∷ codes "b" ∷ []) ∷ ([] ∷ []) ∷ (codes "\r" ∷ []) ∷ [] ∷ []
unfolding lines
known_lines = refl

pub known_unlines : unlines (codes "a" ∷ [] ∷ codes "b" ∷ []) ≡ codes "a\n\nb\n"
known_unlines = refl

-- blanks, tabs and carriage returns alone, or nothing; a form feed or a letter is more
pub known_blanks : map is_blank ([] ∷ codes " \t\r" ∷ codes " x" ∷ (12 ∷ []) ∷ codes "{}" ∷ []) ≡ true ∷ true ∷ false ∷ false ∷ false ∷ []
known_blanks = refl

-- 65,536 bytes of a line up to number 1,000,000, and none of a later one
pub known_limits : map limit_of (1 ∷ 1000000 ∷ 1000001 ∷ []) ≡ 65536 ∷ 65536 ∷ 0 ∷ []
known_limits = refl

-- ---- rounds

-- a whole second of three clocks and two readers has two ticks
pub known_ticks : map ticks_among ((Tick 1 ∷ []) ∷ (Restart 1 ∷ []) ∷ second_of 3 2 ∷ []) ≡ 1 ∷ 0 ∷ 2 ∷ []
known_ticks = refl

-- where two entries stand, a plant has not taken its events one at a time
pub two_entries_are_too_many : {P : Type 0} {g : Ghosts P} (plant : Plant P g) → vec_len plant.log ≡ 2 → HasStepped plant → ⊥
two_entries_are_too_many plant two stepped = absurd (omega (arith, two, stepped.few))

-- ---- refusals

-- the line that ends a refused run
pub known_refusals : (refusal_text 1 refusal.BadStart ≡ codes "refused: line 1: 11 BadStart\n")
    × (refusal_text 7 refusal.NoSuchReader ≡ codes "refused: line 7: 19 NoSuchReader\n")
    × (refusal_text 2 refusal.Json ≡ codes "refused: line 2: 24 Json\n")
    × (refusal_text 1000001 refusal.TooManyLines ≡ codes "refused: line 1000001: 30 TooManyLines\n")
    × (refusal_text 1 refusal.TableTwice ≡ codes "refused: line 1: 34 TableTwice\n")
unfolding refusal_text digits
known_refusals = (refl, refl, refl, refl, refl)

-- ---- the log

abbrev names : List (List ℕ)
names = codes "r1" ∷ codes "west-2" ∷ []

abbrev inserted : UtcSecond
inserted = record { day = 6209; sod = 86400 }

abbrev entry : ℕ → ℕ → Option UtcSecond → Lock → Cause → Entry
entry reader edge announce lock cause = record {
  reader = reader;
  edge = edge;
  report = record { announce = announce; lock = lock; cause = cause };
  redundancy = One;
  told = record { a = tells.Silence; b = tells.Silence; c = tells.Silence; d = tells.Silence; e = tells.Silence };
  truth = None;
}

-- with an announcement
pub known_entries : (entry_text names (entry 0 2 (Some inserted) lock.Locked cause.Voted) ≡ codes "2 r1 2016-12-31T23:59:60Z locked voted\n")
    × (entry_text names (entry 1 3600 (Some inserted) (lock.Holdover 12) cause.Held) ≡ codes "3600 west-2 2016-12-31T23:59:60Z holdover:12 held\n")
unfolding entry_text digits
known_entries = (rw (sym known_second_text) refl, rw (sym known_second_text) refl)

-- without one, by each cause
abbrev silent : Lock → Cause → List ℕ
silent lock cause = entry_text names (entry 1 7 None lock cause)

pub known_silence : (silent (lock.Acquiring 1) cause.Acquiring ≡ codes "7 west-2 - acquiring:1 acquiring\n")
    × (silent lock.Unlocked cause.NoVote ≡ codes "7 west-2 - unlocked no-vote\n")
    × (silent lock.Unlocked cause.Expired ≡ codes "7 west-2 - unlocked expired\n")
    × (silent lock.Unlocked cause.LeapGuard ≡ codes "7 west-2 - unlocked leap-guard\n")
    × (silent lock.Unlocked cause.Jump ≡ codes "7 west-2 - unlocked jump\n")
    × (silent lock.Unlocked cause.RangeEnd ≡ codes "7 west-2 - unlocked range-end\n")
unfolding entry_text digits
known_silence = (refl, refl, refl, refl, refl, refl)

-- an entry without an announcement is written if all are wanted
abbrev log : List Entry
log = entry 0 1 None lock.Unlocked cause.NoVote ∷ entry 0 2 (Some inserted) lock.Locked cause.Voted ∷ []

pub known_logs : (entries_text names true log ≡ codes "1 r1 - unlocked no-vote\n2 r1 2016-12-31T23:59:60Z locked voted\n")
    × (entries_text names false log ≡ codes "2 r1 2016-12-31T23:59:60Z locked voted\n")
unfolding entries_text entry_text digits
known_logs = (rw (sym known_second_text) refl, rw (sym known_second_text) refl)

-- the last line
pub known_audits : (audit_text names Kept ≡ codes "premises kept\n")
    × (audit_text names (Broken 1 3) ≡ codes "premises broken: edge 3 reader west-2\n")
    × (audit_text names (FalseTable 0) ≡ codes "premises broken: table of reader r1\n")
unfolding audit_text digits
known_audits = (refl, refl, refl)

-- ---- a line by its number, its length and what it says

-- a line that is skipped leaves the scene, whatever it is
pub known_blank_lines : (at : Option Scene) → (step scenario 1 at [] ≡ step_to at None) × (step scenario 1000000 at (codes " \t\r") ≡ step_to at None)
unfolding step
known_blank_lines at = (refl, refl)

-- a line above number 1,000,000 is refused, also a blank one
pub known_many : (at : Option Scene) (line : List ℕ) → step scenario 1000001 at line ≡ step_to at (Some refusal.TooManyLines)
unfolding step
known_many at line = refl

-- a line of 65,537 bytes is refused, also a blank one; one byte less is skipped if it is blank
pub known_long : (at : Option Scene) (line : List ℕ) → (length line ≡ 65537 → step scenario 1000000 at line ≡ step_to at (Some refusal.TooLong))
    × (length line ≡ 65536 → is_blank line ≡ true → step scenario 1 at line ≡ step_to at None)
unfolding step
known_long at line = (λ long. rw long refl, λ long blank. rw (long, blank) refl)

-- ---- events

-- the plain plant, from 2016-06-15T12:00:00Z, with one reader
abbrev rules : Rules
rules = record { parity = Even; sense = Add; sbs = Check }

abbrev generator : GeneratorValue
generator = gen (record { half_hours = pos 0; dst = false }) [] rules 0 None 0

abbrev reader : ReaderSetup
reader = record { rules = record { lock_after = 2; holdover = 3600 }; table = table 0 [] }

abbrev plant : Setup
plant = setup (times (record { day = 6010; sod = 43200 }) []) (generator ∷ generator ∷ generator ∷ []) rules (reader ∷ [])

abbrev plan : Plan
plan = record { setup = plant; names = codes "r1" ∷ [] }

-- events come one after another, the last one newest, up to the first that is refused; those before
-- it stand
pub known_play : (play plant (Carry 0 0 ∷ Tick 0 ∷ GenEdge 2 ∷ []) [] ≡ play_by (GenEdge 2 ∷ Tick 0 ∷ Carry 0 0 ∷ []) None)
    × (play plant (Tick 0 ∷ Tick 1 ∷ Restart 0 ∷ []) (Carry 0 0 ∷ []) ≡ play_by (Tick 0 ∷ Carry 0 0 ∷ []) (Some refusal.NoSuchReader))
    × (play plant (GenEdge 3 ∷ Tick 0 ∷ []) [] ≡ play_by [] (Some refusal.NoSuchGenerator))
unfolding second_at
known_play = (refl, refl, refl)

-- two seconds of it are seven events and seven again; none is no event; a refused line leaves the
-- scene as it was
pub known_commands : (step_of_next (next_of_command (scene plan []) (Ok (command.Seconds 2)))
    ≡ step_to (Some (scene plan (GenEdge 2 ∷ GenEdge 1 ∷ GenEdge 0 ∷ Tick 0 ∷ Carry 2 0 ∷ Carry 1 0 ∷ Carry 0 0
    ∷ GenEdge 2 ∷ GenEdge 1 ∷ GenEdge 0 ∷ Tick 0 ∷ Carry 2 0 ∷ Carry 1 0 ∷ Carry 0 0 ∷ []))) None)
    × (step_of_next (next_of_command (scene plan (Tick 0 ∷ [])) (Ok (command.Seconds 0))) ≡ step_to (Some (scene plan (Tick 0 ∷ []))) None)
    × (step_of_next (next_of_command (scene plan (Tick 0 ∷ [])) (Err refusal.Shape)) ≡ step_to (Some (scene plan (Tick 0 ∷ []))) (Some refusal.Shape))
unfolding second_at
known_commands = (refl, refl, refl)

-- ---- whole inputs

-- without a plant line the refusal has the number of lines and one more
pub known_no_plant : (meaning_of [] ≡ meaning None (Some (refusal_at 1 refusal.NoPlant)))
    × (meaning_of (codes "\n \n\t") ≡ meaning None (Some (refusal_at 4 refusal.NoPlant)))
    × (output [] true ≡ codes "refused: line 1: 29 NoPlant\n")
unfolding meaning_from step lines refusal_text digits
known_no_plant = (refl, refl, refl)
