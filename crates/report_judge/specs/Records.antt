-- What is read of a disturbance record, and why it is refused.
-- Source: docs/irig.1, judge; the definitions of records are those of record_comtrade.
use Rattle.std.specs.Prelude.{◌≡◌, ℕ, zero, suc, ◌+◌, ◌-◌, ◌^◌, ◌≤◌, ◌⊎◌, Bool, true, ◌&&◌, if◌then◌else◌, nat_lt, IfSome, List, [], ◌∷◌, ◌++◌, length, codes, Option, Some, None, Result, Ok, Err, ⊤}
use Rattle.std.specs.Fmt.{decimal}
use Rattle.record_levels.specs.declared.levels.Levels.{Levels}
use Rattle.record_text.specs.Fields.{field}
use Rattle.record_cells.specs.declared.volts.Threshold.{Threshold}
use Rattle.record_comtrade.specs.declared.fault.Fault.{Fault}
use Rattle.record_comtrade.specs.Texts.{config_lines}
use Rattle.record_comtrade.specs.Configs.{ConfigValue, config_of, text_at}
use Rattle.record_comtrade.specs.Reads.{value_of}
use Rattle.record_comtrade.specs.Samples.{Said}
use Rattle.record_comtrade.specs.Samples.Said.{Change, Refused, Ends}
use Rattle.record_samples.specs.Readers.{to_come}
use Rattle.record_samples.specs.declared.lines.Lines.{Lines}
use Rattle.record_samples.specs.declared.lines.LineFault.{LineFault}
use Rattle.record_samples.specs.declared.lines.LineFault.TheVariants as line_fault
use Rattle.record_samples.specs.Lines.{lines_of}
use Rattle.record_samples.specs.Records.{Chosen, samples_say}
use Rattle.record_samples.specs.Records.Chosen.{OfDigitals, OfLines}
use Rattle.record_verdict.specs.declared.verdict.Verdict.{Verdict}
use Rattle.record_verdict.specs.Zeros.{zero_of}
use Rattle.report_judge.specs.declared.asked.Asked.{Asked}
use Rattle.report_judge.specs.declared.channels.ChannelFault.{ChannelFault}
use Rattle.report_judge.specs.declared.fault.JudgeFault.{JudgeFault}
use Rattle.report_judge.specs.declared.fault.JudgeFault.TheVariants.{Config, Digitals, NoThreshold, Sample, Endless, Memory}
use Rattle.report_judge.specs.declared.hearing.Judged.{Judged}
use Rattle.report_judge.specs.declared.record.Record.{Record}
use Rattle.report_judge.specs.Channels.{channel_bytes, places_named}
use Rattle.report_judge.specs.Hearings.{HasHeard, IsVerdictOn}
use Rattle.report_judge.specs.Stamps.{said_of_stamp}

-- ---- channels

-- the name of the channel at a place among those of its kind, from 0; where it has none, a letter and its number
-- from 1
abbrev pub name_or_number : (letter : List ℕ) → (place : ℕ) → (name : List ℕ) → List ℕ
name_or_number letter place [] = letter ++ decimal (place + 1)
name_or_number letter place (b ∷ bs) = b ∷ bs

-- the name of a digital channel, by its line, whose field 1 it is; the letter is D
abbrev pub digital_name : ConfigValue → (place : ℕ) → List ℕ
digital_name config place =
    name_or_number (codes "D") place (field 1 (text_at config.lines (2 + config.counts.analogs + place)))

-- the same of an analog channel; the letter is A
abbrev pub analog_name : ConfigValue → (place : ℕ) → List ℕ
analog_name config place = name_or_number (codes "A") place (field 1 (text_at config.lines (2 + place)))

-- the names of the first so many digital channels
abbrev pub first_names : ConfigValue → (count : ℕ) → List (List ℕ)
first_names config zero = []
first_names config (suc n) = first_names config n ++ digital_name config n ∷ []

-- the names of all
abbrev pub digital_names : ConfigValue → List (List ℕ)
digital_names config = first_names config config.counts.digitals

-- these and the names of the first so many analog channels
abbrev pub names_with : ConfigValue → (count : ℕ) → List (List ℕ)
names_with config zero = digital_names config
names_with config (suc n) = names_with config n ++ analog_name config n ∷ []

-- the names of all channels, digital ones first
abbrev pub channel_names : ConfigValue → List (List ℕ)
channel_names config = names_with config config.counts.analogs

-- the channels among which names choose; without names the digital ones are judged
abbrev pub record_names : (names : Option (List ℕ)) → ConfigValue → List (List ℕ)
record_names None config = digital_names config
record_names (Some names) config = channel_names config

-- the places of the channels that are judged
abbrev pub record_places : Asked → ConfigValue → Result (List ℕ) ChannelFault
record_places asked config =
    places_named (record_names (channel_bytes asked.channels) config) (channel_bytes asked.channels)

-- all places are of digital channels
abbrev pub are_digital : (digitals : ℕ) → (places : List ℕ) → Bool
are_digital digitals [] = true
are_digital digitals (place ∷ places) = nat_lt place digitals && are_digital digitals places

-- some lines, which may be on analog channels
abbrev pub as_chosen : Result Lines LineFault → Result Chosen LineFault
as_chosen (Ok lines) = Ok (OfLines lines)
as_chosen (Err fault) = Err fault

-- the channels at these places: digital ones alone, or lines of either kind, of which analog ones need a threshold
abbrev pub chosen_by : Option Threshold → ConfigValue → (places : List ℕ) → Result Chosen LineFault
chosen_by threshold config places =
    if are_digital config.counts.digitals places then Ok (OfDigitals places) else as_chosen (lines_of config threshold places)

-- ---- what is said

-- what the bytes of a configuration say
abbrev pub configured : (text : List ℕ) → Result ConfigValue Fault
configured text = config_of (config_lines text)

-- by a configuration, these bytes of samples say this of the channels at these places, which are
-- those that are judged
pub record SamplesSay (asked : Asked) (config : ConfigValue) (samples : List ℕ) (places : List ℕ)
    (said : List Said) : Type 0 where
  pub judged : record_places asked config ≡ Ok places
  pub channels : Chosen
  pub chosen : chosen_by asked.threshold config places ≡ Ok channels
  pub says : samples_say channels samples config ≡ said

-- the levels in what samples say, after those before, the newest first
abbrev pub levels_in : (before : List Levels) → List Said → List Levels
levels_in before [] = before
levels_in before (Change levels ∷ others) = levels_in (levels ∷ before) others
levels_in before (Refused fault ∷ others) = levels_in before others
levels_in before (Ends time ∷ others) = levels_in before others

-- what is said of the stamp beside a verdict
abbrev pub said_beside : Asked → ConfigValue → Verdict → List ℕ
said_beside asked config verdict = said_of_stamp asked.as_json config asked.zone (zero_of verdict.first)

-- samples are judged to their end: what is shown is the word on the stamp, and the verdict on the
-- channels that are judged, by all the levels that the samples say of them
pub record JudgedSamples (asked : Asked) (config : ConfigValue) (samples : List ℕ) (judged : Judged) : Type 0 where
  pub places : List ℕ
  pub said : List Said
  pub end : ℕ
  pub says : SamplesSay asked config samples places (said ++ Ends end ∷ [])
  pub verdict : IsVerdictOn (said_beside asked config) asked (length places) (levels_in [] said) judged

-- a record is judged to its end, by what its configuration says
abbrev pub JudgedRecord : Asked → (text samples : List ℕ) → Judged → Type 0
JudgedRecord asked text samples judged =
    (config : ConfigValue) × (configured text ≡ Ok config) × JudgedSamples asked config samples judged

-- ---- what is refused

-- this is the fault of an analog channel without a threshold
abbrev pub OfThreshold : (place : ℕ) → JudgeFault → Type 0
OfThreshold place (NoThreshold other name unit) = other ≡ place
OfThreshold place _ = ⊥

-- channels at some places are not read: an analog one has no threshold, or no factor or addend that can be read
abbrev pub IsNoSamples : Option Threshold → ConfigValue → (places : List ℕ) → JudgeFault → Type 0
IsNoSamples threshold config places (Config fault) = chosen_by threshold config places ≡ Err (line_fault.Config fault)
IsNoSamples threshold config places (NoThreshold place name unit) =
    chosen_by threshold config places ≡ Err (line_fault.NoThreshold place)
IsNoSamples threshold config places Memory = ⊤
IsNoSamples threshold config places _ = ⊥

-- so those that are judged
abbrev pub IsNoLine : Asked → ConfigValue → JudgeFault → Type 0
IsNoLine asked config fault =
    (places : List ℕ) × (record_places asked config ≡ Ok places) × IsNoSamples asked.threshold config places fault

-- a configuration is refused before any sample is read
abbrev pub ConfigRefused : Asked → ConfigValue → JudgeFault → Type 0
ConfigRefused asked config (Digitals fault there) = record_places asked config ≡ Err fault
ConfigRefused asked config Memory = ⊤
ConfigRefused asked config fault = IsNoLine asked config fault

-- samples are refused by a configuration
abbrev pub SamplesRefused : Asked → ConfigValue → (samples : List ℕ) → JudgeFault → Type 0
SamplesRefused asked config samples (Sample fault) =
    (places : List ℕ) × (said : List Said) × SamplesSay asked config samples places (said ++ Refused fault ∷ [])
SamplesRefused asked config samples Endless = 2 ^ 64 - 1 ≤ length samples
SamplesRefused asked config samples Memory = ⊤
SamplesRefused asked config samples _ = ⊥

-- the bytes of a configuration are refused
abbrev pub TextRefused : (text : List ℕ) → JudgeFault → Type 0
TextRefused text (Config fault) = configured text ≡ Err fault
TextRefused text Endless = 2 ^ 64 - 1 ≤ length text
TextRefused text Memory = ⊤
TextRefused text _ = ⊥

-- a record is refused, as far as its bytes are known: by its configuration's text, or by what that
-- says, or by its samples. What can't be read is not refused
abbrev pub RecordRefused : Asked → (text samples : Option (List ℕ)) → JudgeFault → Type 0
RecordRefused asked text samples fault =
    IfSome text (λ t. TextRefused t fault)
    ⊎ (IfSome text (λ t. (config : ConfigValue) × (configured t ≡ Ok config) × ConfigRefused asked config fault)
    ⊎ IfSome text (λ t. IfSome samples (λ s. (config : ConfigValue) × (configured t ≡ Ok config)
    × SamplesRefused asked config s fault)))

-- ---- as far as it was read

-- it says levels alone
abbrev pub AreLevels : List Said → Type 0
AreLevels [] = ⊤
AreLevels (Change levels ∷ others) = AreLevels others
AreLevels (Refused fault ∷ others) = ⊥
AreLevels (Ends time ∷ others) = ⊥

-- these samples were read by a configuration, and the lines that are judged have heard what they
-- say
pub record HasReadSamples (asked : Asked) (config : ConfigValue) (samples : List ℕ) (reader : Record) : Type 0 where
  pub is : value_of reader.config ≡ config
  pub places : List ℕ
  pub said : List Said
  pub says : (more : List ℕ)
      → SamplesSay asked config (samples ++ more) places (said ++ to_come reader.samples more)
  pub levels : AreLevels said
  pub heard : HasHeard asked (length places) (levels_in [] said) reader.hearing

-- samples are refused, whatever follows
abbrev pub SamplesRefusedFrom : Asked → ConfigValue → (samples : List ℕ) → JudgeFault → Type 0
SamplesRefusedFrom asked config samples fault = (more : List ℕ) → SamplesRefused asked config (samples ++ more) fault
