-- What is found is written as numbers.
use Rattle.std.proofs.Common.{◌≡◌, ℕ, ◌≤◌, List, [], map, length, inl, inr, Result, Ok, Err, ap, sym, ◌∙◌, arith}
use Rattle.std.proofs.lemmas.List.{length-map}
use Rattle.irig_scenario.specs.Scenarios.{ScenarioEnd}
use Rattle.report_run.specs.declared.fault.SceneFault.{SceneFault}
use Rattle.report_run.specs.declared.fault.SceneFault.TheVariants.{Refused, Read, Write, Memory}
use Rattle.report_found.specs.declared.finding.Finding.{Finding}
use Rattle.report_found.specs.Scenes.{found_of}
use Rattle.report_found.specs.Runs.{FoundIn}
use Rattle.c_scenario.specs.declared.stretch.IrigStretch.{IrigStretch}
use Rattle.c_scenario.specs.Runs.{HasWholeLog, status_of, written_over}
use Rattle.c_scenario.specs.Stretches.{stretch_for, stretches_of}
use Rattle.c_scenario.proofs.WrittenLaws.{nothing_over}

-- without a failure all is found
pub all_found : (answer : Result ScenarioEnd SceneFault) (found : List Finding) (x : List ℕ) → FoundIn answer found x → HasWholeLog (status_of answer) → found ≡ found_of x
all_found (Ok o) found x h whole = h.1
all_found (Err (Refused line refusal)) found x h whole = h.1
all_found (Err Read) found x h (inl none) = absurd (omega (arith, none))
all_found (Err Read) found x h (inr none) = absurd (omega (arith, none))
all_found (Err Write) found x h (inl none) = absurd (omega (arith, none))
all_found (Err Write) found x h (inr none) = absurd (omega (arith, none))
all_found (Err Memory) found x h (inl none) = absurd (omega (arith, none))
all_found (Err Memory) found x h (inr none) = absurd (omega (arith, none))

-- after one nothing is
pub none_found : (answer : Result ScenarioEnd SceneFault) (found : List Finding) (x : List ℕ) → FoundIn answer found x → 4 ≤ status_of answer → found ≡ []
none_found (Ok o) found x h failed = absurd (omega (arith, failed))
none_found (Err (Refused line refusal)) found x h failed = absurd (omega (arith, failed))
none_found (Err Read) found x h failed = h
none_found (Err Write) found x h failed = h
none_found (Err Memory) found x h failed = h

module _ (answer : Result ScenarioEnd SceneFault) (found : List Finding) (x : List ℕ) (h : FoundIn answer found x) where
  pub stretches_are : HasWholeLog (status_of answer) → map stretch_for found ≡ stretches_of x
  stretches_are whole = ap (map stretch_for) (all_found answer found x h whole)

  pub count_is : HasWholeLog (status_of answer) → length found ≡ length (stretches_of x)
  count_is whole = sym (length-map found stretch_for) ∙ ap length (stretches_are whole)

  pub room_stays : (old room : List IrigStretch) → 4 ≤ status_of answer → room ≡ written_over old (map stretch_for found) → room ≡ old
  room_stays old room failed is = is ∙ ap (λ fs. written_over old (map stretch_for fs)) (none_found answer found x h failed) ∙ nothing_over old
