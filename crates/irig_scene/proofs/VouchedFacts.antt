-- Instances of what a log vouches for by its plant line that hold, and instances that do not.
use Rattle.std.proofs.Common.{◌≡◌, ◌≢◌, ℕ, List, [], ◌∷◌, ◌++◌, length, All, Option, Some, None, refl, sym, ap, subst, ◌∙◌, arith, codes}
use Rattle.std.specs.Prelude.{slice_get, unwrap_or}
use Rattle.std.specs.Fmt.{digits}
use Rattle.std.proofs.lemmas.List.{append_cancel_left, length-append}
use Rattle.std.proofs.lemmas.List.Elements.{recursion_from_All, All-from_recursion}
use Rattle.irig_time.specs.declared.second.UtcSecond.{UtcSecond}
use Rattle.irig_time.specs.Timelines.{TimelineValue, second_at}
use Rattle.irig_time.specs.TextValues.{day_text, second_text}
use Rattle.irig_time.specs.Texts.{time_text}
use Rattle.scenario_line.proofs.NamesAndTimes.{plan_has}
use Rattle.scenario_line.proofs.PlainLines.{plant_line, plan, makes_plan}
use Rattle.report_run.specs.Lines.{lines}
use Rattle.scenario_values.specs.Names.{is_name, are_names}
use Rattle.report_log.specs.LogLines.{whole_lines, Shows}
use Rattle.report_log.proofs.LogLaws.{shown_once}
use Rattle.report_log.proofs.WordLaws.{AreNames}
use Rattle.irig_scene.specs.LogLines.{IsTimeOf}
use Rattle.irig_scene.specs.VouchedLines.{plant_line_of, IsPlantLineOf, ShowsTruth, AreTrueOf, VouchesByPlantLine}
use Rattle.irig_scene.proofs.NameLaws.{are_names_named}
use Rattle.irig_scene.proofs.HealthyFacts.{at_2, text_2}
use Rattle.irig_scene.proofs.PlantLines.{one_plant_line}

-- ---- a blank line, and the plain plant: from 2016-12-31T12:00:00Z on, with the reader r1

abbrev pub bytes : List ℕ
bytes = codes " \n" ++ (plant_line ++ codes "\n")

found : plant_line_of bytes ≡ Some plant_line
unfolding lines
found = refl

pub plant : IsPlantLineOf bytes plan.names plan.setup.times
plant = record { line = plant_line; first = found; says = plan_has plant_line plan makes_plan }

-- no other names and no other timeline
pub only_plant : (names : List (List ℕ)) (times : TimelineValue) → IsPlantLineOf bytes names times → (names ≡ plan.names) × (times ≡ plan.setup.times)
only_plant names times h = one_plant_line bytes names plan.names times plan.setup.times h plant

none_in_nothing : (names : List (List ℕ)) (times : TimelineValue) → ¬ IsPlantLineOf (codes " \n\t") names times
unfolding lines
none_in_nothing names times h = let none : None ≡ Some h.line = h.first in absurd cc

-- ---- lines

abbrev pub time : List ℕ
time = codes "2016-12-31T12:00:02Z"

pub named : AreNames plan.names
unfolding are_names is_name
named = are_names_named plan.names refl

no_blank : All (λ b. b ≢ 32) time
no_blank = All-from_recursion (λ b. b ≢ 32) time (search arith)

pub no_dash : time ≢ codes "-"
no_dash e = omega (arith, ap length e)

pub is_time_of_2 : IsTimeOf plan.setup.times 2 time
unfolding second_at
is_time_of_2 = record { second = at_2; is_true = refl; written = text_2 }

-- T(3) is 12:00:03
abbrev at_3 : UtcSecond
at_3 = record { day = 6209; sod = 43203 }

seconds_apart : ¬ (second_text at_2 ≡ second_text at_3)
unfolding second_text
seconds_apart e = omega (arith, ap (λ (text : List ℕ). unwrap_or (slice_get text 8) 0) (append_cancel_left (day_text 6209) (time_text 12 0 2) (time_text 12 0 3) e))

pub not_time_of_3 : ¬ IsTimeOf plan.setup.times 3 time
unfolding second_at
not_time_of_3 h =
    let is : ◌≡◌ {A = Option UtcSecond} (Some at_3) (Some h.second) = h.is_true in
    let same : ◌≡◌ {A = UtcSecond} h.second at_3 = cc in
    seconds_apart (sym text_2 ∙ h.written ∙ ap second_text same)

abbrev pub right_line : List ℕ
right_line = codes "2 r1 2016-12-31T12:00:02Z locked voted"

abbrev pub wrong_line : List ℕ
wrong_line = codes "3 r1 2016-12-31T12:00:02Z locked voted"

pub right_shows : Shows plan.names right_line 0 2 time
unfolding digits
right_shows = record { number = omega arith; named = omega arith; word = no_blank; more = codes "locked voted"; is = refl }

pub wrong_shows : Shows plan.names wrong_line 0 3 time
unfolding digits
wrong_shows = record { number = omega arith; named = omega arith; word = no_blank; more = codes "locked voted"; is = refl }

pub right_is_true : ShowsTruth plan.names plan.setup.times right_line
right_is_true r n text s apart =
    let one = shown_once plan.names right_line r n 0 2 text time named s right_shows in
    subst (λ m. IsTimeOf plan.setup.times m text) (sym one.edge) (subst (λ l. IsTimeOf plan.setup.times 2 l) (sym one.time_is) is_time_of_2)

pub wrong_is_false : ¬ ShowsTruth plan.names plan.setup.times wrong_line
wrong_is_false h = not_time_of_3 (h 0 3 time wrong_shows no_dash)

pub wrong_log : ¬ AreTrueOf bytes (wrong_line ∷ [])
wrong_log h =
    let only = only_plant h.names h.times h.plant in
    wrong_is_false (subst (λ t. ShowsTruth plan.names t wrong_line) only.1 (subst (λ ns. ShowsTruth ns h.times wrong_line) only.0 (recursion_from_All (ShowsTruth h.names h.times) (wrong_line ∷ []) h.lines).0))

-- ---- logs

vouches : VouchesByPlantLine bytes (codes "2 r1 2016-12-31T12:00:02Z locked voted\npremises kept\n")
unfolding whole_lines
vouches [] is = absurd (omega (arith, ap length is))
vouches (a ∷ []) is =
    let same : right_line ≡ a = ap (λ (ls : List (List ℕ)). unwrap_or (slice_get ls 0) []) is in
    record { names = plan.names; times = plan.setup.times; plant = plant; lines = All-from_recursion (ShowsTruth plan.names plan.setup.times) (a ∷ []) (subst (ShowsTruth plan.names plan.setup.times) same right_is_true, tt) }
vouches (a ∷ b ∷ ls) is = absurd (omega (arith, ap length is, length-append ls (codes "premises kept" ∷ [])))

not_vouches : ¬ VouchesByPlantLine bytes (codes "3 r1 2016-12-31T12:00:02Z locked voted\npremises kept\n")
unfolding whole_lines
not_vouches h = wrong_log (h (wrong_line ∷ []) refl)

-- without a plant line there is no log that vouches for itself
no_plant_vouches : ¬ VouchesByPlantLine [] (codes "premises kept\n")
unfolding whole_lines lines
no_plant_vouches h = let none : None ≡ Some (h [] refl).plant.line = (h [] refl).plant.first in absurd cc
