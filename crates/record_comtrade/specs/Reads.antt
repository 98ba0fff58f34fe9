-- What a reader of a configuration answers.
-- Source: this project's profile.
use Rattle.std.specs.Prelude.{◌≡◌, ℕ, List, ◌++◌, Result, Err, ⊤}
use Rattle.record_comtrade.specs.declared.fault.Fault.{Fault}
use Rattle.record_comtrade.specs.declared.fault.ConfigFault.{ConfigFault}
use Rattle.record_comtrade.specs.declared.fault.ConfigFault.TheVariants.{Memory, Refused}
use Rattle.record_comtrade.specs.declared.parts.Config.{Config}
use Rattle.record_comtrade.specs.declared.reading.ConfigText.{ConfigText}
use Rattle.record_comtrade.specs.Texts.{lines_to_come, texts_of}
use Rattle.record_comtrade.specs.Configs.{ConfigValue}

-- what a configuration has, by its definition
abbrev pub value_of : Config → ConfigValue
value_of config = record {
  lines = texts_of config.lines.items;
  counts = config.counts;
  rates = config.rates.items;
  stamps = config.stamps;
  tail = config.tail;
}

-- what is refused is refused for that reason, unless there was no memory
abbrev pub FaultFits : {A : Type 0} → ConfigFault → Result A Fault → Type 0
FaultFits Memory read = ⊤
FaultFits (Refused fault) read = read ≡ Err fault

-- a reader that takes these bytes is then the next one: so whatever follows
abbrev pub ReadsOn : ConfigText → (taken : List ℕ) → ConfigText → Type 0
ReadsOn read taken next = (more : List ℕ) → lines_to_come read (taken ++ more) ≡ lines_to_come next more
