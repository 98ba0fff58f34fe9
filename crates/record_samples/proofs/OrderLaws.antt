-- The order of levels: a step says none before those that were said last.
use Rattle.std.proofs.Common.{◌≡◌, ◌≤◌, ℕ, Bool, true, false, List, [], ◌∷◌, drop, Option, Some, None, Result, Ok, Err, refl, subst}
use Rattle.std.specs.Prelude.{if◌then◌else◌, ⊤}
use Rattle.record_levels.specs.declared.limits.TimeFault.{TimeFault}
use Rattle.record_levels.proofs.LimitLaws.{allowed}
use Rattle.record_text.specs.Lines.{Line}
use Rattle.record_comtrade.specs.declared.clock.Reason.{Reason}
use Rattle.record_comtrade.specs.declared.clock.RowField.{RowField}
use Rattle.record_comtrade.specs.declared.now.Now.{Now}
use Rattle.record_comtrade.specs.declared.parts.Form.{Form}
use Rattle.record_comtrade.specs.declared.now.SampleFault.{SampleFault}
use Rattle.record_comtrade.specs.declared.now.Step.{Step}
use Rattle.record_comtrade.specs.declared.now.Step.TheVariants.{Goes, Says, Refuses}
use Rattle.record_comtrade.specs.Configs.{ConfigValue}
use Rattle.record_comtrade.specs.Times.{time_of}
use Rattle.record_comtrade.specs.Samples.{Plan, Said, come_to, counted, ended, ended_at, ended_by, fault_of, high_of, is_before, last_of, mark_of, next_count, said_at, said_by, said_by_time, said_from, samples_from, start, stays, step, step_by}
use Rattle.record_comtrade.specs.Samples.Said.{Change, Refused, Ends}
use Rattle.record_comtrade.specs.Records.{are_numbers, size_of}
use Rattle.record_comtrade.specs.Records.{plan_by as plan_of_numbers, samples_say as numbers_say}
use Rattle.record_samples.specs.declared.lines.Lines.{Lines}
use Rattle.record_samples.specs.declared.row.Row.{Row}
use Rattle.record_samples.specs.Rows.{line_says, lines_after, rows_from, rows_say, said_of, step_of}
use Rattle.record_samples.specs.Lines.{heard}
use Rattle.record_samples.specs.Lines.{levels as levels_of_lines}
use Rattle.record_samples.specs.Mixed.{mixed_from, step_to}
use Rattle.record_samples.specs.Records.{Chosen, fields_of, mixed_by_config, plan_by, rows_by_config, samples_say}
use Rattle.record_samples.specs.Records.Chosen.{OfDigitals, OfLines}
use Rattle.record_samples.specs.Order.{AreLater}

-- a step says levels that do not come before the last time, and is then at theirs
abbrev StepIsLater : (last : ℕ) → Step → Type 0
StepIsLater last (Goes next) = come_to next.levels_ns ≡ last
StepIsLater last (Says levels next) = (last ≤ levels.time_ns) × (come_to next.levels_ns ≡ levels.time_ns)
StepIsLater last (Refuses fault) = ⊤

later-at : (now : Now) (high time : ℕ) (fault : Option TimeFault) → fault_of now time ≡ fault → StepIsLater (come_to now.levels_ns) (said_at now high time fault)
later-at now high time (Some fault) is = tt
later-at now high time None is = let fits = allowed (come_to now.levels_ns) now.levels_ns time is in (fits.0, refl)

later-by-time : (now : Now) (high : ℕ) (time : Result ℕ Reason) → StepIsLater (come_to now.levels_ns) (said_by_time now high time)
later-by-time now high (Err reason) = tt
later-by-time now high (Ok time) = later-at now high time (fault_of now time) refl

later-by : (stays : Bool) (plan : Plan) (now : Now) (high : ℕ) → StepIsLater (come_to now.levels_ns) (step_by stays plan now high)
later-by true plan now high = refl
later-by false plan now high = later-by-time now high (time_of plan.rates plan.clock now.first now.here)

end-at : (last : ℕ) (now : Now) (time : ℕ) (fault : Option TimeFault) → AreLater last (ended_at now time fault ∷ [])
end-at last now time (Some fault) = tt
end-at last now time None = tt

end-by : (last : ℕ) (now : Now) (time : Result ℕ Reason) → AreLater last (ended_by now time ∷ [])
end-by last now (Err reason) = tt
end-by last now (Ok time) = end-at last now time (fault_of now time)

end-is : (cut : Bool) (last : ℕ) (now : Now) (fault : SampleFault) (time : Result ℕ Reason) → AreLater last ((if cut then Refused fault else ended_by now time) ∷ [])
end-is true last now fault time = tt
end-is false last now fault time = end-by last now time

later-on : (last : ℕ) (of : Step) (others : Now → List Said) → StepIsLater last of → ((next : Now) → AreLater (come_to next.levels_ns) (others next)) → AreLater last (said_by of others)
later-on last (Goes next) others is then_later = subst (λ l. AreLater l (others next)) is (then_later next)
later-on last (Says levels next) others is then_later = (is.0, subst (λ l. AreLater l (others next)) is.1 (then_later next))
later-on last (Refuses fault) others is then_later = tt

end-later : (plan : Plan) (now : Now) → AreLater (come_to now.levels_ns) (ended plan now ∷ [])
end-later plan now = end-is (is_before now (last_of plan.rates)) (come_to now.levels_ns) now _ (time_of plan.rates plan.clock now.first now.here)

-- whatever samples that are numbers say is in order
numbers-later : (plan : Plan) (now : Now) (digital : List ℕ) (bytes : List (List ℕ)) → AreLater (come_to now.levels_ns) (said_from plan now digital bytes)
numbers-later plan now digital [] = end-later plan now
numbers-later plan now digital (sample ∷ bytes) =
    later-on (come_to now.levels_ns) (step plan now digital sample) (λ next. said_from plan next (drop plan.offset sample) bytes)
    (later-by (stays now.count (high_of plan.chosen digital) (high_of plan.chosen (drop plan.offset sample))) plan (counted now (mark_of sample)) (high_of plan.chosen (drop plan.offset sample)))
    (λ next. numbers-later plan next (drop plan.offset sample) bytes)

-- so is what they say of lines on channels of either kind
mixed-later : (plan : Plan) (form : Form) (now : Now) (lines : Lines) (bytes : List (List ℕ)) → AreLater (come_to now.levels_ns) (mixed_from plan form now lines bytes)
mixed-later plan form now lines [] = end-later plan now
mixed-later plan form now lines (sample ∷ bytes) =
    later-on (come_to now.levels_ns) (step_to plan now lines (heard form plan.offset lines sample) sample)
    (λ next. mixed_from plan form next (heard form plan.offset lines sample) bytes)
    (later-by (stays now.count (levels_of_lines lines) (levels_of_lines (heard form plan.offset lines sample))) plan (counted now (mark_of sample)) (levels_of_lines (heard form plan.offset lines sample)))
    (λ next. mixed-later plan form next (heard form plan.offset lines sample) bytes)

-- so is what rows of a text say
row-later : (plan : Plan) (now : Now) (high : ℕ) (mixed : Option Lines) (line : Line) (says : Result (Option Row) RowField) (others : Now → (high : ℕ) → Option Lines → List Said)
    → ((next : Now) (levels : ℕ) (after : Option Lines) → AreLater (come_to next.levels_ns) (others next levels after))
    → AreLater (come_to now.levels_ns) (said_of plan now high mixed line says others)
row-later plan now high mixed line (Err field) others then_later = tt
row-later plan now high mixed line (Ok None) others then_later = then_later now high mixed
row-later plan now high mixed line (Ok (Some row)) others then_later =
    later-on (come_to now.levels_ns) (step_of plan now high row) (λ next. others next row.high (lines_after plan mixed line.text))
    (later-by (stays now.count high row.high) plan (counted now row.mark) row.high)
    (λ next. then_later next row.high (lines_after plan mixed line.text))

rows-later : (plan : Plan) (fields : ℕ) (now : Now) (high : ℕ) (mixed : Option Lines) (lines : List Line) → AreLater (come_to now.levels_ns) (rows_say plan fields now high mixed lines)
rows-later plan fields now high mixed [] = end-later plan now
rows-later plan fields now high mixed (line ∷ lines) =
    row-later plan now high mixed line (line_says plan fields (next_count now) mixed line.text) (λ next levels after. rows_say plan fields next levels after lines)
    (λ next levels after. rows-later plan fields next levels after lines)

-- of both forms
digitals-later : (numbers : Bool) (config : ConfigValue) (places bytes : List ℕ)
    → AreLater 0 (if numbers then numbers_say places bytes config else rows_by_config places None bytes config)
digitals-later true config places bytes = numbers-later (plan_of_numbers config places) start [] (samples_from (size_of config) [] bytes)
digitals-later false config places bytes = rows-later (plan_by config places) (fields_of config) start 0 None (rows_from false 1 [] bytes)

lines-later : (numbers : Bool) (config : ConfigValue) (lines : Lines) (bytes : List ℕ)
    → AreLater 0 (if numbers then mixed_by_config lines bytes config else rows_by_config [] (Some lines) bytes config)
lines-later true config lines bytes = mixed-later (plan_of_numbers config []) config.tail.form start lines (samples_from (size_of config) [] bytes)
lines-later false config lines bytes = rows-later (plan_by config []) (fields_of config) start 0 (Some lines) (rows_from false 1 [] bytes)

pub in-order : (config : ConfigValue) (chosen : Chosen) (bytes : List ℕ) → AreLater 0 (samples_say chosen bytes config)
in-order config (OfDigitals places) bytes = digitals-later (are_numbers config.tail.form) config places bytes
in-order config (OfLines lines) bytes = lines-later (are_numbers config.tail.form) config lines bytes
