-- What a plant line that is not refused says of its plant.
use Rattle.std.proofs.Common.{◌≡◌, ◌⊎◌, ℕ, Bool, true, false, cond, List, [], ◌∷◌, ◌++◌, length, map, All, Option, Some, None, Result, Ok, Err, refl, ap, sym, ◌∙◌, subst, arith, rules, nat_lt, ℤ, codes}
use Rattle.std.specs.Prelude.{option_and_then, is_some}
use Rattle.std.specs.Option.{option_or}
use Rattle.std.proofs.lemmas.List.{length-map}
use Rattle.std.proofs.lemmas.List.Elements.{All-nil, All-cons, All-map, All-weaker}
use Rattle.irig_time.specs.declared.second.UtcSecond.{UtcSecond}
use Rattle.irig_time.specs.declared.leap.Leap.{Leap}
use Rattle.irig_time.specs.declared.timeline.TimelineFault.{TimelineFault}
use Rattle.irig_time.specs.declared.timeline.TimelineFault.TheVariants as timeline
use Rattle.irig_time.specs.declared.rules.Rules.{Rules}
use Rattle.irig_time.specs.Days.{is_month_end}
use Rattle.irig_time.specs.Timelines.{leap_of, day_length}
use Rattle.irig_time.specs.TimelineFaults.{leap_fault, first_leap_fault, start_fault, timeline_fault, IsTimeline}
use Rattle.irig_gen.specs.declared.generator.GenRefusal.TheVariants as generator
use Rattle.irig_gen.specs.Zones.{all_fit, in_order}
use Rattle.irig_gen.specs.Refusals.{IsGenerator}
use Rattle.irig_reader.specs.Rules.{IsReaderRules}
use Rattle.irig_plant.specs.History.{AreReaders}
use Rattle.irig_plant.specs.Health.{HasGenerators}
use Rattle.text_faults.specs.declared.refusal.Refusal.{Refusal}
use Rattle.scenario_values.specs.PlantValues.{GeneratorValues, PlantValues, readers_in, plant_values}
use Rattle.serde_json.specs.Data.{Data, Members}
use Rattle.serde_json.specs.Find.{as_object}
use Rattle.scenario_values.specs.declared.plant_shape.Version.{Version}
use Rattle.text_faults.specs.declared.refusal.Refusal.TheVariants as refusal
use Rattle.scenario_json.specs.Json.{json_of, whole_at}
use Rattle.text_faults.specs.Refusals.{of_timeline, of_generator, ◌>>=◌, or_else, holds_or}
use Rattle.scenario_values.specs.PlantShape.{version_of, is_plant}
use Rattle.scenario_values.specs.Names.{name_in, are_names, names_in}
use Rattle.scenario_line.specs.PlantLine.{refusal_of, timeline_refusal, generator_refusal, reader_refusal, values_refusal, first_of, generator_with, reader_with, setup_with, refused_or, setup_result, Plan, plan_in_line, plan_in_object}
use Rattle.scenario_line.proofs.BuildLaws.{values_refused, are_generators, are_readers}
use Rattle.scenario_values.proofs.NameCounts.{counted}
use Rattle.scenario_values.proofs.ValueLaws.{AreInRange, values_in_range}

-- its timeline has no fault, its generators and readers are as a plant may have them, and each
-- reader has a name
pub record IsSound (plan : Plan) : Type 0 where
  pub timeline : IsTimeline plan.setup.times
  pub generators : HasGenerators plan.setup
  pub readers : AreReaders plan.setup.readers
  pub names : are_names plan.names ≡ true
  pub named : length plan.names ≡ length plan.setup.readers

-- ---- what a timeline is refused for is never a lack of memory

pub neither_first : {A : Type 0} (o p : Option A) → option_or o p ≡ None → o ≡ None
neither_first None p h = refl
neither_first (Some a) p h = h

pub neither_next : {A : Type 0} (o p : Option A) → option_or o p ≡ None → p ≡ None
neither_next None p h = h
neither_next (Some a) p h = absurd cc

-- a fault with a number
abbrev NamesFault : Option TimelineFault → Type 0
NamesFault o = option_and_then (λ fault. refusal_of (of_timeline fault)) o ≡ None → o ≡ None

leap_named : (a b c d : Bool) → NamesFault (cond a (Some timeline.OutOfYears) (cond b (Some timeline.OutOfYears) (cond c (cond d (Some timeline.LeapTwice) None) (Some timeline.LeapNotMonthEnd))))
leap_named true b c d h = absurd cc
leap_named false true c d h = absurd cc
leap_named false false true true h = absurd cc
leap_named false false true false h = refl
leap_named false false false d h = absurd cc

start_named : (a b c : Bool) → NamesFault (cond a (Some timeline.BadStart) (cond b (Some timeline.BadStart) (cond c None (Some timeline.BadStart))))
start_named true b c h = absurd cc
start_named false true c h = absurd cc
start_named false false true h = refl
start_named false false false h = absurd cc

or_named : (o p : Option TimelineFault) → NamesFault o → NamesFault p → NamesFault (option_or o p)
or_named None p f g = g
or_named (Some a) p f g = f

leaps_named : (before leaps : List (ℕ × Leap)) → NamesFault (first_leap_fault before leaps)
leaps_named before [] = λ h. refl
leaps_named before (x ∷ xs) =
    or_named (leap_fault before x.0) (first_leap_fault (before ++ x ∷ []) xs)
    (leap_named (nat_lt x.0 1) (nat_lt 36523 x.0) (is_month_end x.0) (is_some (leap_of before x.0))) (leaps_named (before ++ x ∷ []) xs)

pub timeline_named : (start : UtcSecond) (leaps : List (ℕ × Leap)) → NamesFault (timeline_fault start leaps)
timeline_named start leaps =
    or_named (first_leap_fault [] leaps) (start_fault leaps start) (leaps_named [] leaps)
    (start_named (nat_lt start.day 1) (nat_lt 36523 start.day) (nat_lt start.sod (day_length leaps start.day)))

-- ---- nor is what a generator is refused for

none_of_all : {A : Type 0} (refusal : A → Option Refusal) (xs : List A) → first_of (map refusal xs) ≡ None → All (λ x. refusal x ≡ None) xs
none_of_all refusal [] h = All-nil (λ x. refusal x ≡ None)
none_of_all refusal (x ∷ xs) h =
    All-cons (λ x. refusal x ≡ None) x xs (neither_first (refusal x) (first_of (map refusal xs)) h)
    (none_of_all refusal xs (neither_next (refusal x) (first_of (map refusal xs)) h))

generator_named : (fit ordered : Bool) → option_and_then (λ fault. refusal_of (of_generator fault)) (cond fit (cond ordered None (Some generator.Changes)) (Some generator.Offset)) ≡ None
    → cond fit (cond ordered None (Some generator.Changes)) (Some generator.Offset) ≡ None
generator_named true true h = refl
generator_named true false h = absurd cc
generator_named false ordered h = absurd cc

zones_sound : (rules : Rules) (g : GeneratorValues) → generator_refusal g ≡ None → IsGenerator (generator_with rules g)
zones_sound rules g h = record { sound = generator_named (all_fit g.zone g.changes) (in_order 0 g.changes) h }

-- ---- what a plant line gives

-- the values are in range, and there are as many names as readers
pub record AreValues (v : PlantValues) (names : List (List ℕ)) : Type 0 where
  pub generators : (length v.generators ≡ 3) ⊎ (length v.generators ≡ 5)
  pub range : All (λ x. IsReaderRules x.rules) v.readers
  pub named : length names ≡ length v.readers

sound_setup : (v : PlantValues) (names : List (List ℕ)) → AreValues v names → are_names names ≡ true → values_refusal v ≡ None → IsSound (record { setup = setup_with v; names = names })
sound_setup v names are named h =
    let e = sym (values_refused v) ∙ h in
    let first = neither_first (timeline_refusal v) (option_or (first_of (map generator_refusal v.generators)) (first_of (map reader_refusal v.readers))) e in
    let others = neither_next (timeline_refusal v) (option_or (first_of (map generator_refusal v.generators)) (first_of (map reader_refusal v.readers))) e in
    let zones = neither_first (first_of (map generator_refusal v.generators)) (first_of (map reader_refusal v.readers)) others in
    let count = counted names named in
    record {
      timeline = record { sound = timeline_named v.start v.leaps first };
      generators = record {
        new = are_generators v.rules v.generators (map (generator_with v.rules) v.generators) refl are.generators;
        zones = All-map IsGenerator (generator_with v.rules) v.generators
            (All-weaker (λ g. generator_refusal g ≡ None) (λ g. IsGenerator (generator_with v.rules g)) (λ g none. zones_sound v.rules g none) v.generators (none_of_all generator_refusal v.generators zones));
      };
      readers = are_readers v.readers (map reader_with v.readers) refl are.range (omega (arith, count.0, are.named)) (omega (arith, count.1, are.named));
      names = named;
      named = are.named ∙ sym (length-map v.readers reader_with);
    }

-- ---- one step of a plant line after another

with_setup : (v : PlantValues) (names : List (List ℕ)) (plan : Plan) (k : Option Refusal) → AreValues v names → are_names names ≡ true → values_refusal v ≡ k
    → (refused_or k (setup_with v) >>= (λ setup. Ok (record { setup = setup; names = names }))) ≡ Ok plan → IsSound plan
with_setup v names plan (Some k) are named e h = absurd cc
with_setup v names plan None are named e h =
    let same : ◌≡◌ {A = Plan} (record { setup = setup_with v; names = names }) plan = cc in
    subst IsSound same (sound_setup v names are named e)

abbrev planned_by : PlantValues → List (List ℕ) → Result Plan Refusal
planned_by v names = setup_result v >>= (λ setup. Ok (record { setup = setup; names = names }))

-- names are given if they are names, and then one for each reader's object
named_if : (b : Bool) (given names : List (List ℕ)) → are_names given ≡ b → cond b (Ok given) (Err refusal.Names) ≡ Ok names → (are_names names ≡ true) × (given ≡ names)
named_if true given names e h = let same : given ≡ names = cc in (subst (λ names. are_names names ≡ true) same e, same)
named_if false given names e h = absurd cc

pub named : (readers : List Data) (names : List (List ℕ)) → names_in readers ≡ Ok names → (are_names names ≡ true) × (length names ≡ length readers)
unfolding names_in
named readers names h =
    let is = named_if (are_names (map name_in readers)) (map name_in readers) names refl h in
    (is.0, ap length (sym is.1) ∙ length-map readers name_in)

with_names : (v : PlantValues) (plan : Plan) (d : Data) (o : Result (List (List ℕ)) Refusal) → AreInRange d v → names_in (readers_in d) ≡ o → (o >>= planned_by v) ≡ Ok plan → IsSound plan
with_names v plan d (Err k) are e h = absurd cc
with_names v plan d (Ok names) are e h =
    let is = named (readers_in d) names e in
    with_setup v names plan (values_refusal v) (record { generators = are.generators; range = are.range; named = is.1 ∙ sym are.readers }) is.0 refl h

abbrev values_planned : Data → PlantValues → Result Plan Refusal
values_planned d v = names_in (readers_in d) >>= planned_by v

with_values : (d : Data) (plan : Plan) (o : Option PlantValues) → ((v : PlantValues) → o ≡ Some v → AreInRange d v) → (or_else refusal.Value o >>= values_planned d) ≡ Ok plan → IsSound plan
with_values d plan None are h = absurd cc
with_values d plan (Some v) are h = with_names v plan d (names_in (readers_in d)) (are v refl) refl h

abbrev shape_planned : Version → Data → Unit {0} → Result Plan Refusal
shape_planned version d shaped = or_else refusal.Value (plant_values version d) >>= values_planned d

with_shape : (version : Version) (d : Data) (plan : Plan) (b : Bool) → (holds_or refusal.Shape b >>= shape_planned version d) ≡ Ok plan → IsSound plan
with_shape version d plan false h = absurd cc
with_shape version d plan true h = with_values d plan (plant_values version d) (values_in_range version d) h

abbrev version_planned : Data → Version → Result Plan Refusal
version_planned d version = holds_or refusal.Shape (is_plant version d) >>= shape_planned version d

with_version : (d : Data) (plan : Plan) (o : Option Version) → (or_else refusal.Version o >>= version_planned d) ≡ Ok plan → IsSound plan
with_version d plan None h = absurd cc
with_version d plan (Some version) h = with_shape version d plan (is_plant version d) h

abbrev number_planned : Data → ℤ → Result Plan Refusal
number_planned d number = or_else refusal.Version (version_of number) >>= version_planned d

with_number : (d : Data) (plan : Plan) (o : Option ℤ) → (or_else refusal.Shape o >>= number_planned d) ≡ Ok plan → IsSound plan
with_number d plan None h = absurd cc
with_number d plan (Some number) h = with_version d plan (version_of number) h

with_members : (d : Data) (plan : Plan) (o : Option Members) → (or_else refusal.Shape o >>= (λ ms. or_else refusal.Shape (whole_at (codes "version") d) >>= number_planned d)) ≡ Ok plan → IsSound plan
with_members d plan None h = absurd cc
with_members d plan (Some ms) h = with_number d plan (whole_at (codes "version") d) h

with_data : (plan : Plan) (o : Option Data) → (or_else refusal.Json o >>= (λ d. plan_in_object d)) ≡ Ok plan → IsSound plan
unfolding plan_in_object
with_data plan None h = absurd cc
with_data plan (Some d) h = with_members d plan (as_object d) h

pub plan_is_sound : (line : List ℕ) (plan : Plan) → plan_in_line line ≡ Ok plan → IsSound plan
unfolding plan_in_line
plan_is_sound line plan h = with_data plan (json_of line) h
