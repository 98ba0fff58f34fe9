-- Why a recording is refused.
-- Source: docs/irig.1, judge; this project's profile.
use Rattle.record_comtrade.specs.declared.fault.ConfigFault.{ConfigFault}
use Rattle.record_comtrade.specs.declared.fault.ConfigFault.TheVariants as config
use Rattle.record_comtrade.specs.declared.reader.DataFault.{DataFault}
use Rattle.record_comtrade.specs.declared.reader.DataFault.TheVariants as samples
use Rattle.record_single.specs.declared.head.HeadFault.{HeadFault as SingleFault}
use Rattle.record_single.specs.declared.head.HeadFault.TheVariants as single
use Rattle.record_table.specs.declared.head.HeadFault.{HeadFault as TitleFault}
use Rattle.record_table.specs.declared.head.HeadFault.TheVariants as title
use Rattle.record_vcd.specs.declared.changes.HeadFault.{HeadFault}
use Rattle.record_vcd.specs.declared.changes.HeadFault.TheVariants as head
use Rattle.report_judge.specs.declared.fault.JudgeFault.{JudgeFault}
use Rattle.report_judge.specs.declared.fault.JudgeFault.TheVariants.{Config, Head, LongLine, Memory, Sample, Title}

-- the fault of a head
abbrev pub of_head : HeadFault → JudgeFault
of_head head.Memory = Memory
of_head head.Unended = Head head.Unended
of_head head.NoTimescale = Head head.NoTimescale

-- the fault of a head of a table
abbrev pub of_title : TitleFault → JudgeFault
of_title title.Memory = Memory
of_title title.Unended = Title title.Unended
of_title (title.Refused refusal) = Title (title.Refused refusal)

-- the fault of a configuration
abbrev pub of_config : ConfigFault → JudgeFault
of_config config.Memory = Memory
of_config (config.Refused fault) = Config fault

-- the fault of samples
abbrev pub of_samples : DataFault → JudgeFault
of_samples samples.Memory = Memory
of_samples (samples.Refused fault) = Sample fault

-- the fault of a single file above its samples
abbrev pub of_single : SingleFault → JudgeFault
of_single single.Memory = Memory
of_single single.Long = LongLine
