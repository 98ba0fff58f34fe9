-- What explains a refused line is of the refusal that the answer has.
use Rattle.std.proofs.Common.{Bool, ◌≡◌, ℕ, List, Option, Some, None, Result, Ok, Err, refl, sym}
use Rattle.std.proofs.lemmas.Option.{none-some}
use Rattle.irig_scene.specs.declared.outcome.Outcome.{Outcome}
use Rattle.report_run.specs.declared.fault.SceneFault.{SceneFault}
use Rattle.report_run.specs.declared.fault.SceneFault.TheVariants.{Refused, Read, Write, Memory}
use Rattle.irig_scene.specs.declared.refused_line.RefusedLine.{RefusedLine}
use Rattle.irig_scene.specs.Explained.{refusal_said, refusal_in, IsExplained}

nothing_in : (is : Option RefusedLine) → refusal_in is ≡ None → is ≡ None
nothing_in None here = refl
nothing_in (Some why) here = absurd (none-some why.refusal (sym here))

-- what is made for the refusal of an answer explains it
pub explained : (r : Result Outcome SceneFault) (is : Option RefusedLine) → refusal_in is ≡ refusal_said r → IsExplained r None is
explained (Err (Refused line refusal)) is here = here
explained (Ok o) is here = nothing_in is here
explained (Err Read) is here = nothing_in is here
explained (Err Write) is here = nothing_in is here
explained (Err Memory) is here = nothing_in is here
