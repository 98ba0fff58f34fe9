-- Samples of lines on channels of either kind, in pieces.
use Rattle.std.proofs.Common.{◌≡◌, ℕ, ◌+◌, ◌<◌, take, drop, List, [], ◌∷◌, ◌++◌, length, Option, None, append_assoc, sym, ap, ◌∙◌, arith}
use Rattle.std.proofs.Math.Seq.{take-add}
use Rattle.record_levels.specs.declared.levels.Levels.{Levels}
use Rattle.record_comtrade.specs.declared.now.Now.{Now}
use Rattle.record_comtrade.specs.declared.now.SampleFault.{SampleFault}
use Rattle.record_comtrade.specs.declared.now.Step.{Step}
use Rattle.record_comtrade.specs.declared.parts.Form.{Form}
use Rattle.record_comtrade.specs.Samples.{Plan, said_by, samples_from}
use Rattle.record_comtrade.specs.Data.{said, unless_refused}
use Rattle.record_comtrade.proofs.SampleLaws.{ends_one, fills}
use Rattle.record_samples.specs.declared.lines.Lines.{Lines}
use Rattle.record_samples.specs.declared.mixed.Mixed.{Mixed}
use Rattle.record_samples.specs.Lines.{heard}
use Rattle.record_samples.specs.Mixed.{mixed_from, step_to}
use Rattle.record_samples.specs.Readers.{MixedLead, mixed_says, mixed_to_come, numbers_plan}

-- what a whole sample says, and what is said after it
pub hears_sample : (mixed : Mixed) (sample : List ℕ) (after : Lines) (is : Step) (more : List ℕ)
    → mixed.refusal ≡ None → mixed.begun.items ≡ [] → length sample ≡ mixed.size → 0 < mixed.size
    → after ≡ heard mixed.form mixed.offset mixed.lines sample
    → is ≡ step_to (numbers_plan mixed) mixed.here mixed.lines after sample
    → mixed_to_come mixed (sample ++ more)
    ≡ said_by is (λ next. mixed_from (numbers_plan mixed) mixed.form next after (samples_from mixed.size [] more))
hears_sample mixed sample after is more goes none whole some after_is same =
    ap (λ r. unless_refused r (mixed_from (numbers_plan mixed) mixed.form mixed.here mixed.lines (samples_from mixed.size mixed.begun.items (sample ++ more)))) goes
    ∙ ap (λ o. mixed_from (numbers_plan mixed) mixed.form mixed.here mixed.lines (samples_from mixed.size o (sample ++ more))) none
    ∙ ap (mixed_from (numbers_plan mixed) mixed.form mixed.here mixed.lines) (let e : 0 + length sample ≡ mixed.size = omega (arith, whole) in fills mixed.size [] sample more e some)
    ∙ ap (λ l. said_by (step_to (numbers_plan mixed) mixed.here mixed.lines l sample) (λ next. mixed_from (numbers_plan mixed) mixed.form next l (samples_from mixed.size [] more))) (sym after_is)
    ∙ ap (λ s. said_by s (λ next. mixed_from (numbers_plan mixed) mixed.form next after (samples_from mixed.size [] more))) (sym same)

-- a reader that goes on after it
pub goes_on : (plan : Plan) (form : Form) (size : ℕ) (refusal : Option SampleFault) (now : Now) (lines : Lines) (begun more : List ℕ)
    → refusal ≡ None → begun ≡ []
    → mixed_from plan form now lines (samples_from size [] more) ≡ unless_refused refusal (mixed_from plan form now lines (samples_from size begun more))
goes_on plan form size refusal now lines begun more goes none =
    ap (λ o. mixed_from plan form now lines (samples_from size o more)) (sym none)
    ∙ ap (λ r. unless_refused r (mixed_from plan form now lines (samples_from size begun more))) (sym goes)

-- where a front of the bytes has led, the next ones lead on from there
pub leads_on : (first here next : Mixed) (bytes rest : List ℕ) (count n : ℕ) (levels : Option Levels)
    → ((more : List ℕ) → mixed_to_come first (take count bytes ++ more) ≡ mixed_to_come here more)
    → rest ≡ drop count bytes → MixedLead here (take n rest) levels next
    → (more : List ℕ) → mixed_to_come first (take (count + n) bytes ++ more) ≡ said levels ++ mixed_to_come next more
leads_on first here next bytes rest count n levels so_far is leads more =
    ap (λ l. mixed_to_come first (l ++ more)) (take-add count n bytes)
    ∙ ap (mixed_to_come first) (append_assoc (take count bytes) (take n (drop count bytes)) more)
    ∙ so_far (take n (drop count bytes) ++ more)
    ∙ ap (λ l. mixed_to_come here (take n l ++ more)) (sym is)
    ∙ leads more

pub begun_ends : (mixed : Mixed) (bytes sample none : List ℕ) → length mixed.begun.items + length bytes ≡ mixed.size
    → sample ≡ mixed.begun.items ++ bytes → none ≡ [] → (more : List ℕ)
    → mixed_to_come mixed (bytes ++ more) ≡ mixed_says mixed (samples_from mixed.size none (sample ++ more))
begun_ends mixed bytes sample none whole is none_is more =
    ap (mixed_says mixed) (ends_one mixed.size mixed.begun.items bytes sample none more whole mixed.is_begun is none_is)
