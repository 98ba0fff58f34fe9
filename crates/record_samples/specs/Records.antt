-- What a record says, whether its samples are numbers or rows of a text.
-- Source: IEEE C37.111-2013, 5.3 and 6.4 to 6.6.
use Rattle.std.specs.Prelude.{◌≡◌, ℕ, ◌+◌, if◌then◌else◌, List, [], ◌∷◌, ◌++◌, Option, Some, None, Result, Ok, ⊤}
use Rattle.record_text.specs.Lines.{Line}
use Rattle.record_levels.specs.declared.levels.Levels.{Levels}
use Rattle.record_comtrade.specs.declared.fault.Fault.{Fault}
use Rattle.record_comtrade.specs.declared.parts.Config.{Config}
use Rattle.record_comtrade.specs.Texts.{config_lines}
use Rattle.record_comtrade.specs.Configs.{ConfigValue, config_of, with_ok}
use Rattle.record_comtrade.specs.Reads.{value_of}
use Rattle.record_comtrade.specs.Samples.{Plan, Said, start}
use Rattle.record_comtrade.specs.Data.{said}
use Rattle.record_comtrade.specs.Records.{are_numbers, clock_of, size_of}
use Rattle.record_comtrade.specs.Records.{plan_by as plan_of_numbers}
use Rattle.record_comtrade.specs.Records.{samples_say as numbers_say}
use Rattle.record_samples.specs.declared.course.Course.{Course}
use Rattle.record_samples.specs.declared.lines.Lines.{Lines}
use Rattle.record_samples.specs.declared.mixed.Mixed.{Mixed}
use Rattle.record_samples.specs.declared.rows.Rows.{Rows}
use Rattle.record_samples.specs.declared.samples.Samples.{Samples}
use Rattle.record_samples.specs.Rows.{changes_of_text, rows_say}
use Rattle.record_samples.specs.Mixed.{changes_of_mixed}
use Rattle.record_samples.specs.Readers.{Leads, course_says, mixed_to_come, rows_to_come, to_come}

-- how many fields stand before the digital ones: the number, the time and the analog channels
abbrev pub offset_of : ConfigValue → ℕ
offset_of config = 2 + config.counts.analogs

-- how many fields a row has at least
abbrev pub fields_of : ConfigValue → ℕ
fields_of config = offset_of config + config.counts.digitals

-- which channels are chosen: digital ones, by their places among these, or lines on channels of either kind
pub data Chosen : Type 0 where
  OfDigitals : List ℕ → Chosen
  OfLines : Lines → Chosen

-- what is read of rows, of the digital channels at these places
abbrev pub plan_by : ConfigValue → (chosen : List ℕ) → Plan
plan_by config chosen = record { rates = config.rates; clock = clock_of config; offset = offset_of config; chosen = chosen }

-- what a text of samples says by a configuration
abbrev pub rows_by_config : (chosen : List ℕ) → Option Lines → (samples : List ℕ) → ConfigValue → List Said
rows_by_config chosen mixed samples config = changes_of_text (plan_by config chosen) (fields_of config) mixed samples

-- what numbers say by a configuration of lines on channels of either kind
abbrev pub mixed_by_config : Lines → (samples : List ℕ) → ConfigValue → List Said
mixed_by_config lines samples config =
    changes_of_mixed (plan_of_numbers config []) config.tail.form (size_of config) lines samples

-- what the bytes of samples say by a configuration
abbrev pub samples_say : Chosen → (samples : List ℕ) → ConfigValue → List Said
samples_say (OfDigitals chosen) samples config =
    if are_numbers config.tail.form then numbers_say chosen samples config else rows_by_config chosen None samples config
samples_say (OfLines lines) samples config =
    if are_numbers config.tail.form then mixed_by_config lines samples config
    else rows_by_config [] (Some lines) samples config

-- what a record says of the channels that are chosen, or why its configuration is refused
abbrev pub record_of : Chosen → (configuration samples : List ℕ) → Result (List Said) Fault
record_of chosen configuration samples =
    with_ok (config_of (config_lines configuration)) (λ config. Ok (samples_say chosen samples config))

-- this is a reader of such lines
abbrev pub IsCourseOf : Config → (chosen : List ℕ) → Option Lines → Course → Type 0
IsCourseOf config chosen mixed course = (lines : List Line)
    → course_says course lines ≡ rows_say (plan_by (value_of config) chosen) (fields_of (value_of config)) start 0 mixed lines

-- this is a reader of the rows of that configuration
abbrev pub IsRowsOf : Config → (chosen : List ℕ) → Option Lines → Rows → Type 0
IsRowsOf config chosen mixed rows = (more : List ℕ)
    → rows_to_come rows more ≡ rows_by_config chosen mixed more (value_of config)

-- this is a reader of the numbers of that configuration
abbrev pub IsMixedOf : Config → Lines → Mixed → Type 0
IsMixedOf config lines mixed = (more : List ℕ) → mixed_to_come mixed more ≡ mixed_by_config lines more (value_of config)

-- this is a reader of the samples of that configuration
abbrev pub IsSamplesOf : Config → Chosen → Samples → Type 0
IsSamplesOf config chosen samples = (more : List ℕ) → to_come samples more ≡ samples_say chosen more (value_of config)

-- ---- calls

-- a call of a reader of samples: the bytes that it took, the levels that it said, and the reader then
pub record Call : Type 0 where
  pub taken : List ℕ
  pub levels : Option Levels
  pub next : Samples

-- calls of a reader, one after another
abbrev pub AreCalls : Samples → List Call → Type 0
AreCalls samples [] = ⊤
AreCalls samples (call ∷ calls) = Leads samples call.taken call.levels call.next × AreCalls call.next calls

-- all the bytes that calls took
abbrev pub taken_by : List Call → List ℕ
taken_by [] = []
taken_by (call ∷ calls) = call.taken ++ taken_by calls

-- all that they said
abbrev pub said_in : List Call → List Said
said_in [] = []
said_in (call ∷ calls) = said call.levels ++ said_in calls

-- the reader after them
abbrev pub samples_after : Samples → List Call → Samples
samples_after samples [] = samples
samples_after samples (call ∷ calls) = samples_after call.next calls
