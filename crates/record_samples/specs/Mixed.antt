-- What samples that are numbers say of lines on channels of either kind, one after another.
-- Source: IEEE C37.111-2013, 6.4 to 6.6; that there are levels where a line changes is this project's profile.
use Rattle.std.specs.Prelude.{ℕ, List, [], ◌∷◌}
use Rattle.record_comtrade.specs.declared.now.Now.{Now}
use Rattle.record_comtrade.specs.declared.now.Step.{Step}
use Rattle.record_comtrade.specs.declared.parts.Form.{Form}
use Rattle.record_comtrade.specs.Samples.{Plan, Said, counted, ended, mark_of, said_by, samples_from, start, stays, step_by}
use Rattle.record_samples.specs.declared.lines.Lines.{Lines}
use Rattle.record_samples.specs.Lines.{heard, levels}

-- what a sample makes of the levels of these lines, which are the next ones with it
abbrev pub step_to : Plan → Now → (before after : Lines) → (sample : List ℕ) → Step
step_to plan now before after sample =
    step_by (stays now.count (levels before) (levels after)) plan (counted now (mark_of sample)) (levels after)

-- what samples say, after those that left the lines so
abbrev pub mixed_from : Plan → Form → Now → Lines → (samples : List (List ℕ)) → List Said
mixed_from plan form now lines [] = ended plan now ∷ []
mixed_from plan form now lines (sample ∷ samples) =
    said_by (step_to plan now lines (heard form plan.offset lines sample) sample)
    (λ next. mixed_from plan form next (heard form plan.offset lines sample) samples)

-- what the bytes of samples say
abbrev pub changes_of_mixed : Plan → Form → (size : ℕ) → Lines → (bytes : List ℕ) → List Said
changes_of_mixed plan form size lines bytes = mixed_from plan form start lines (samples_from size [] bytes)
