-- What is read of a single file of a disturbance record, and why it is refused.
-- Source: docs/irig.1, judge; the parts of a single file are those of record_single.
use Rattle.std.specs.Prelude.{◌≡◌, ℕ, ◌-◌, ◌^◌, ◌<◌, ◌≤◌, ◌⊎◌, List, [], ◌++◌, length, Option, Some, None, Ok, Err, ⊤, box_value}
use Rattle.record_comtrade.specs.Configs.{ConfigValue, config_of}
use Rattle.record_comtrade.specs.Texts.{lines_to_come}
use Rattle.record_single.specs.declared.parts.Head.{Head}
use Rattle.record_single.specs.Heads.{opened_file, to_find}
use Rattle.record_single.specs.Singles.{Parts, limited, parts_of}
use Rattle.record_single.specs.Singles.Parts.{Whole}
use Rattle.record_single.specs.Singles.Parts.{NoSamples as WithoutSamples}
use Rattle.report_judge.specs.declared.asked.Asked.{Asked}
use Rattle.report_judge.specs.declared.fault.JudgeFault.{JudgeFault}
use Rattle.report_judge.specs.declared.fault.JudgeFault.TheVariants.{Endless, LongLine, Memory, NoSamples}
use Rattle.report_judge.specs.declared.hearing.Judged.{Judged}
use Rattle.report_judge.specs.declared.single.Below.{Below}
use Rattle.report_judge.specs.declared.single.Part.{Part}
use Rattle.report_judge.specs.declared.single.Part.TheVariants as part
use Rattle.report_judge.specs.Records.{HasReadSamples, JudgedRecord, RecordRefused}

-- ---- what is said

-- the parts of a file are judged as the two texts of a record
abbrev pub JudgedParts : Asked → Parts → Judged → Type 0
JudgedParts asked (Whole text count rest) judged = JudgedRecord asked text (limited count rest) judged
JudgedParts asked WithoutSamples judged = ⊥

-- a file is judged to the end of its samples
abbrev pub JudgedSingle : Asked → (file : List ℕ) → Judged → Type 0
JudgedSingle asked file judged = JudgedParts asked (parts_of file) judged

-- ---- what is refused

-- the parts of a file are refused as the two texts of a record
abbrev pub PartsRefused : Asked → Parts → JudgeFault → Type 0
PartsRefused asked (Whole text count rest) fault = RecordRefused asked (Some text) (Some (limited count rest)) fault
PartsRefused asked WithoutSamples fault = ⊥

-- a file has no parts that can be read: it has no samples, or is too long
abbrev pub FileRefused : (file : List ℕ) → JudgeFault → Type 0
FileRefused file NoSamples = parts_of file ≡ WithoutSamples
FileRefused file LongLine = 67108864 < length file
FileRefused file Endless = 2 ^ 64 - 1 ≤ length file
FileRefused file Memory = ⊤
FileRefused file _ = ⊥

-- a file is refused, for that or by its parts
abbrev pub SingleRefused : Asked → (file : List ℕ) → JudgeFault → Type 0
SingleRefused asked file fault = FileRefused file fault ⊎ PartsRefused asked (parts_of file) fault

-- it is refused, whatever follows
abbrev pub SingleRefusedFrom : Asked → (file : List ℕ) → JudgeFault → Type 0
SingleRefusedFrom asked file fault = (more : List ℕ) → SingleRefused asked (file ++ more) fault

-- ---- as far as it was read

-- what is left of so many bytes after so many, if there are only so many
abbrev pub less : (left : Option ℕ) → (count : ℕ) → Option ℕ
less None count = None
less (Some n) count = Some (n - count)

-- a reader above the samples has read this
pub record HasReadHead (file : List ℕ) (head : Head) : Type 0 where
  pub finds : (more : List ℕ) → opened_file (parts_of (file ++ more)) ≡ to_find head more
  pub line : length head.line.items ≤ length file

-- behind this the samples begin, of so many bytes if that is said
abbrev pub IsOpened : (file : List ℕ) → Head → (count : Option ℕ) → Type 0
IsOpened file head count = (more : List ℕ) → opened_file (parts_of (file ++ more))
    ≡ Some (record { lines = lines_to_come head.text []; count = count; rest = more })

-- this was read, and of it these samples
pub record HasOpened (asked : Asked) (file : List ℕ) (below : Below) : Type 0 where
  pub config : ConfigValue
  pub lines : List (List ℕ)
  pub count : Option ℕ
  pub front : List ℕ
  pub finds : (more : List ℕ) → opened_file (parts_of (file ++ more))
      ≡ Some (record { lines = lines; count = count; rest = front ++ more })
  pub says : config_of lines ≡ Ok config
  pub reads : HasReadSamples asked config (limited count front) below.record
  pub left : below.left ≡ less count (length front)

-- this was read
abbrev pub HasReadPart : Asked → (file : List ℕ) → Part → Type 0
HasReadPart asked file (part.Above head) = HasReadHead file head
HasReadPart asked file (part.Below below) = HasOpened asked file (box_value below)
