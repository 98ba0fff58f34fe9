-- What a plant line says: its plant and the names of its readers, or why it is refused.
-- Source: docs/SCENARIOS.md; the order of refusals is that of docs/FAULTS.md.
use Rattle.std.specs.Prelude.{◌≡◌, ⊤, ℕ, List, [], ◌∷◌, ◌++◌, map, codes, string_bytes, Option, Some, None, Result, Ok, Err, option_map, option_and_then}
use Rattle.std.specs.Option.{option_or}
use Rattle.serde_json.specs.Data.{Data}
use Rattle.serde_json.specs.Find.{as_object}
use Rattle.irig_time.specs.declared.rules.Rules.{Rules}
use Rattle.irig_time.specs.Timelines.{times}
use Rattle.irig_time.specs.TimelineFaults.{timeline_fault}
use Rattle.irig_time.specs.Tables.{table, table_fault}
use Rattle.irig_gen.specs.Frames.{GeneratorValue, gen}
use Rattle.irig_gen.specs.Refusals.{gen_refusal}
use Rattle.irig_plant.specs.declared.setup.ReaderSetup.{ReaderSetup}
use Rattle.irig_plant.specs.Schedule.{Setup, setup}
use Rattle.text_faults.specs.declared.refusal.Refusal.{Refusal}
use Rattle.text_faults.specs.declared.refusal.Refusal.TheVariants.{Json, Shape, Value, Version}
use Rattle.text_faults.specs.declared.refusal.LineFault.{LineFault}
use Rattle.text_faults.specs.declared.refusal.LineFault.TheVariants.{Refused, Memory}
use Rattle.scenario_line.specs.declared.plant_line.BuiltPlant.{BuiltPlant}
use Rattle.scenario_json.specs.Json.{json_of, whole_at}
use Rattle.text_faults.specs.Refusals.{of_timeline, of_generator, of_table, or_else, holds_or, ◌>>=◌}
use Rattle.scenario_values.specs.PlantShape.{version_of, is_plant}
use Rattle.scenario_values.specs.PlantValues.{GeneratorValues, ReaderValues, PlantValues, readers_in, plant_values}
use Rattle.scenario_values.specs.Names.{names_in}

-- ---- what is refused of the values

-- no memory is no refusal
abbrev pub refusal_of : LineFault → Option Refusal
refusal_of (Refused k) = Some k
refusal_of Memory = None

-- of the start and the leaps
abbrev pub timeline_refusal : PlantValues → Option Refusal
timeline_refusal v =
    option_and_then (λ fault. refusal_of (of_timeline fault)) (timeline_fault v.start v.leaps)

-- of a generator's zones
abbrev pub generator_refusal : GeneratorValues → Option Refusal
generator_refusal g =
    option_and_then (λ fault. refusal_of (of_generator fault)) (gen_refusal g.zone g.changes)

-- of a reader's table
abbrev pub reader_refusal : ReaderValues → Option Refusal
reader_refusal r = option_map of_table (table_fault r.until r.leaps)

-- the first that there is
abbrev pub first_of : List (Option Refusal) → Option Refusal
first_of [] = None
first_of (o ∷ os) = option_or o (first_of os)

-- of the timeline, else of the generators in order, else of the readers in order
abbrev pub values_refusal : PlantValues → Option Refusal
values_refusal v =
    first_of (timeline_refusal v
    ∷ (map generator_refusal v.generators ++ map reader_refusal v.readers))

-- ---- what is made of the values

-- at edge 0 and without fault
abbrev pub generator_with : Rules → GeneratorValues → GeneratorValue
generator_with rules g = gen g.zone g.changes rules 0 None 0

-- with its rules and its table
abbrev pub reader_with : ReaderValues → ReaderSetup
reader_with r = record { rules = r.rules; table = table r.until r.leaps }

-- the timeline, the generators and the readers
abbrev pub setup_with : PlantValues → Setup
setup_with v =
    setup (times v.start v.leaps) (map (generator_with v.rules) v.generators) v.rules
    (map reader_with v.readers)

-- the refusal, else what is made
abbrev pub refused_or : {A : Type 0} → Option Refusal → A → Result A Refusal
refused_or None x = Ok x
refused_or (Some k) x = Err k

-- what the values make, or what is refused of them
abbrev pub setup_result : PlantValues → Result Setup Refusal
setup_result v = refused_or (values_refusal v) (setup_with v)

-- ---- the line

-- what a plant is made of, and the names of its readers
pub record Plan : Type 0 where
  pub setup : Setup
  pub names : List (List ℕ)

-- of a line's value, by its version
unfoldable pub plan_in_object : Data → Result Plan Refusal
plan_in_object d = do
  ms ← or_else Shape (as_object d)
  number ← or_else Shape (whole_at (codes "version") d)
  version ← or_else Version (version_of number)
  shaped ← holds_or Shape (is_plant version d)
  values ← or_else Value (plant_values version d)
  names ← names_in (readers_in d)
  setup ← setup_result values
  Ok (record { setup = setup; names = names })

-- of a line, by its bytes
unfoldable pub plan_in_line : List ℕ → Result Plan Refusal
plan_in_line line = do
  d ← or_else Json (json_of line)
  plan_in_object d

-- ---- answers

-- what the values make, seen by `view`, or what is refused of them, unless there was no memory
abbrev pub IsMadeUnlessMemory :
    {A B : Type 0} → (A → B) → Option Refusal → B → Result A LineFault → Type 0
IsMadeUnlessMemory view refusal made (Ok x) = (refusal ≡ None) × (view x ≡ made)
IsMadeUnlessMemory view refusal made (Err (Refused k)) = refusal ≡ Some k
IsMadeUnlessMemory view refusal made (Err Memory) = ⊤

-- what is made of a line
abbrev pub setup_of : BuiltPlant → Setup
setup_of line = setup line.timeline line.generators.items line.rules line.readers.items

-- the same with the names
abbrev pub plan_of : BuiltPlant → Plan
plan_of line = record { setup = setup_of line; names = map string_bytes line.names.keys }
