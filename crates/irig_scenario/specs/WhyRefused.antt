-- What explains the refusal of a scenario's line, whatever its plant has.
-- Source: docs/OUTPUT.md; this project's profile.
use Rattle.std.specs.Prelude.{◌≡◌, Option, Some, None, option_map, Result, Ok, Err}
use Rattle.text_faults.specs.declared.refusal.Refusal.{Refusal}
use Rattle.report_run.specs.declared.fault.SceneFault.{SceneFault}
use Rattle.report_run.specs.declared.fault.SceneFault.TheVariants.{Refused, Read, Write, Memory}
use Rattle.irig_scenario.specs.declared.refused.WhyRefused.{WhyRefused}
use Rattle.irig_scenario.specs.declared.refused.WhyRefused.TheVariants as why

-- the refusal that it explains
abbrev pub explained_by : WhyRefused → Refusal
explained_by (why.Line line) = line.refusal
explained_by (why.OfDevices line) = line.refusal
explained_by (why.Cause refusal) = refusal

-- the refusal of an answer, if it is one
abbrev pub refusal_answered : {O : Type 0} → Result O SceneFault → Option Refusal
refusal_answered (Err (Refused line refusal)) = Some refusal
refusal_answered _ = None

-- after an answer that a line is refused, that refusal is explained; after another one stands what
-- stood before
abbrev pub IsExplainedAs : {O : Type 0} → Result O SceneFault → Option WhyRefused
    → Option WhyRefused → Type 0
IsExplainedAs (Err (Refused line refusal)) was is = option_map explained_by is ≡ Some refusal
IsExplainedAs (Ok o) was is = is ≡ was
IsExplainedAs (Err Read) was is = is ≡ was
IsExplainedAs (Err Write) was is = is ≡ was
IsExplainedAs (Err Memory) was is = is ≡ was
