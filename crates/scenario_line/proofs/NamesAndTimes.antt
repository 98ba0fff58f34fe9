-- What a plant line that is not refused says of its readers' names and of its timeline.
use Rattle.std.proofs.Common.{◌≡◌, ℕ, Bool, true, false, cond, List, map, Option, Some, None, Result, Ok, Err, refl, ap, subst, ◌∙◌, codes}
use Rattle.std.proofs.lemmas.Option.{option_and_then_some}
use Rattle.serde_json.specs.Data.{Data}
use Rattle.serde_json.specs.Find.{as_object}
use Rattle.irig_time.specs.Timelines.{TimelineValue}
use Rattle.irig_plant.specs.Schedule.{Setup}
use Rattle.text_faults.specs.declared.refusal.Refusal.{Refusal}
use Rattle.text_faults.specs.declared.refusal.Refusal.TheVariants as refusal
use Rattle.text_faults.specs.Refusals.{or_else, holds_or, ◌>>=◌}
use Rattle.scenario_json.specs.Json.{json_of, all_of, whole_at}
use Rattle.scenario_values.specs.declared.plant_shape.Version.{Version}
use Rattle.scenario_values.specs.PlantShape.{version_of, is_plant}
use Rattle.scenario_values.specs.Names.{are_names, name_in, names_in}
use Rattle.scenario_values.specs.PlantValues.{PlantValues, start_of, leaps_of, rules_of, generators_of, reader_of, readers_in, plant_values}
use Rattle.scenario_line.specs.PlantLine.{values_refusal, setup_with, refused_or, setup_result, Plan, plan_in_object, plan_in_line}
use Rattle.scenario_line.specs.NamesAndTimes.{HasNamesAndTimes}

pub step_of : {A B C : Type 0} (f : A → Result B Refusal) (o : Result A Refusal) (b : B) → (o >>= f) ≡ Ok b → ((a : A) → o ≡ Ok a → f a ≡ Ok b → C) → C
step_of f (Err k) b e next = absurd cc
step_of f (Ok a) b e next = next a refl e

pub found_is : {A : Type 0} (k : Refusal) (o : Option A) (x : A) → or_else k o ≡ Ok x → o ≡ Some x
found_is k None x e = absurd cc
found_is k (Some y) x e = cc

if_named : (b : Bool) (given names : List (List ℕ)) → cond b (Ok given) (Err refusal.Names) ≡ Ok names → names ≡ given
if_named true given names e = cc
if_named false given names e = absurd cc

names_are : (readers : List Data) (names : List (List ℕ)) → names_in readers ≡ Ok names → names ≡ map name_in readers
unfolding names_in
names_are readers names e = if_named (are_names (map name_in readers)) (map name_in readers) names e

made_is : (k : Option Refusal) (made s : Setup) → refused_or k made ≡ Ok s → made ≡ s
made_is None made s e = cc
made_is (Some k) made s e = absurd cc

-- what a line's value says of names and times
record SaysNamesAndTimes (d : Data) (names : List (List ℕ)) (times : TimelineValue) : Type 0 where
  pub named : names ≡ map name_in (readers_in d)
  pub start : start_of d ≡ Some times.start
  pub leaps : leaps_of d ≡ Some times.leaps

values_say : (version : Version) (d : Data) (v : PlantValues) → plant_values version d ≡ Some v → (start_of d ≡ Some v.start) × (leaps_of d ≡ Some v.leaps)
unfolding plant_values
values_say version d v e =
    option_and_then_some _ (start_of d) v e (λ start started e1.
    option_and_then_some _ (leaps_of d) v e1 (λ leaps leapt e2.
    option_and_then_some _ (rules_of d) v e2 (λ rules ruled e3.
    option_and_then_some _ (generators_of version d) v e3 (λ generators generated e4.
    option_and_then_some _ (all_of reader_of (readers_in d)) v e4 (λ readers read made.
    let same : ◌≡◌ {A = PlantValues} (record { start = start; leaps = leaps; rules = rules; generators = generators; readers = readers }) v = cc in
    (started ∙ ap (λ (v : PlantValues). Some v.start) same, leapt ∙ ap (λ (v : PlantValues). Some v.leaps) same))))))

value_says : (d : Data) (plan : Plan) → plan_in_object d ≡ Ok plan → SaysNamesAndTimes d plan.names plan.setup.times
unfolding plan_in_object
value_says d plan e =
    step_of _ (or_else refusal.Shape (as_object d)) plan e (λ object is e1.
    step_of _ (or_else refusal.Shape (whole_at (codes "version") d)) plan e1 (λ number is e2.
    step_of _ (or_else refusal.Version (version_of number)) plan e2 (λ version is e3.
    step_of _ (holds_or refusal.Shape (is_plant version d)) plan e3 (λ shaped is e4.
    step_of _ (or_else refusal.Value (plant_values version d)) plan e4 (λ values valued e5.
    step_of _ (names_in (readers_in d)) plan e5 (λ names named e6.
    step_of _ (setup_result values) plan e6 (λ setup made is.
    let says = values_say version d values (found_is refusal.Value (plant_values version d) values valued) in
    let same : ◌≡◌ {A = Plan} (record { setup = setup; names = names }) plan = cc in
    subst (λ (plan : Plan). SaysNamesAndTimes d plan.names plan.setup.times) same
    (subst (λ (s : Setup). SaysNamesAndTimes d names s.times) (made_is (values_refusal values) (setup_with values) setup made)
    (record { named = names_are (readers_in d) names named; start = says.0; leaps = says.1 })))))))))

pub plan_has : (line : List ℕ) (plan : Plan) → plan_in_line line ≡ Ok plan → HasNamesAndTimes line plan.names plan.setup.times
unfolding plan_in_line
plan_has line plan e =
    step_of _ (or_else refusal.Json (json_of line)) plan e (λ d read is.
    let says = value_says d plan is in
    record { value = d; read = found_is refusal.Json (json_of line) d read; named = says.named; start = says.start; leaps = says.leaps })
