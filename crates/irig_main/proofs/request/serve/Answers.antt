use Rattle.std.proofs.Common.{◌≡◌, Result, Ok, Err, inl, inr, subst}
use Rattle.std.specs.Prelude.{◌⊎◌}
use Rattle.report_run.specs.declared.fault.SceneFault.{SceneFault}
use Rattle.report_run.specs.declared.fault.SceneFault.TheVariants.{Refused, Read, Write, Memory}
use Rattle.irig_main.specs.declared.fault.Fault.TheVariants.{BadTime, BadFrameText}
use Rattle.irig_main.specs.Serving.{Answer}
use Rattle.irig_main.specs.Status.{result_of}
use Rattle.irig_main.proofs.request.serve.Goals as goal

abbrev NamesNothing : Answer → Type 0
NamesNothing answer = (answer ≡ Err BadTime) ⊎ (answer ≡ Err BadFrameText)

not_of_run : (run : Result (Unit {0}) SceneFault) → ¬ NamesNothing (result_of run)
not_of_run (Ok outcome) h = elim h [ inl e ↦ absurd cc | inr e ↦ absurd cc ]
not_of_run (Err (Refused line refusal)) h = elim h [ inl e ↦ absurd cc | inr e ↦ absurd cc ]
not_of_run (Err Read) h = elim h [ inl e ↦ absurd cc | inr e ↦ absurd cc ]
not_of_run (Err Write) h = elim h [ inl e ↦ absurd cc | inr e ↦ absurd cc ]
not_of_run (Err Memory) h = elim h [ inl e ↦ absurd cc | inr e ↦ absurd cc ]

pub returns-in-Plain-clause-served : goal.returns-in-Plain-clause-served
returns-in-Plain-clause-served g c = rw c.in-Plain.is c.play_input.ensures.played

pub returns-in-Plain-clause-unwritten : goal.returns-in-Plain-clause-unwritten
returns-in-Plain-clause-unwritten g c = λ h.
    let played = c.play_input.ensures.played in
    absurd (not_of_run played.run (subst NamesNothing played.answered h))
