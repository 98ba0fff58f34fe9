-- What explains a refused line.
-- Source: docs/OUTPUT.md; this project's profile.
use Rattle.std.specs.Prelude.{◌≡◌, Option, Some, None, option_map, Result, Ok, Err}
use Rattle.text_faults.specs.declared.refusal.Refusal.{Refusal}
use Rattle.irig_scene.specs.declared.outcome.Outcome.{Outcome}
use Rattle.report_run.specs.declared.fault.SceneFault.{SceneFault}
use Rattle.report_run.specs.declared.fault.SceneFault.TheVariants.{Refused, Read, Write, Memory}
use Rattle.irig_scene.specs.declared.refused_line.RefusedLine.{RefusedLine}

-- the refusal of an answer, if it is one
abbrev pub refusal_said : Result Outcome SceneFault → Option Refusal
refusal_said (Err (Refused line refusal)) = Some refusal
refusal_said _ = None

-- the refusal that is explained, if one is
abbrev pub refusal_in : Option RefusedLine → Option Refusal
refusal_in is = option_map (λ why. why.refusal) is

-- after an answer that a line is refused, that refusal is explained; after another one stands what
-- stood before
abbrev pub IsExplained : Result Outcome SceneFault → Option RefusedLine → Option RefusedLine
    → Type 0
IsExplained (Err (Refused line refusal)) was is = refusal_in is ≡ Some refusal
IsExplained (Ok o) was is = is ≡ was
IsExplained (Err Read) was is = is ≡ was
IsExplained (Err Write) was is = is ≡ was
IsExplained (Err Memory) was is = is ≡ was
