-- What is made of a list of values, by what a loop over them has made and what is left.
use Rattle.std.proofs.Common.{◌≡◌, ◌≤◌, ◌⊎◌, All, List, [], ◌∷◌, ◌++◌, length, Option, Some, None, refl, ap, map}
use Rattle.std.specs.Option.{option_or}
use Rattle.std.proofs.lemmas.List.{length-map}
use Rattle.std.proofs.lemmas.List.Elements.{All-nil, All-cons, All-map}
use Rattle.irig_time.specs.declared.rules.Rules.{Rules}
use Rattle.irig_gen.specs.Frames.{GeneratorValue}
use Rattle.irig_reader.specs.Rules.{IsReaderRules}
use Rattle.irig_plant.specs.declared.setup.ReaderSetup.{ReaderSetup}
use Rattle.irig_plant.specs.History.{IsNew, AreGenerators, AreReaders}
use Rattle.text_faults.specs.declared.refusal.Refusal.{Refusal}
use Rattle.scenario_values.specs.PlantValues.{GeneratorValues, ReaderValues, PlantValues}
use Rattle.scenario_line.specs.PlantLine.{first_of, timeline_refusal, generator_refusal, reader_refusal, values_refusal, generator_with, reader_with}

-- nothing was refused so far, `front` is made, and `rest` is left
pub record BuildsAt {A B : Type 0} (refusal : A → Option Refusal) (make : A → B) (front : List B) (rest all : List A) : Type 0 where
  pub refused : first_of (map refusal rest) ≡ first_of (map refusal all)
  pub made : front ++ map make rest ≡ map make all

pub first_of_both : (os ps : List (Option Refusal)) → first_of (os ++ ps) ≡ option_or (first_of os) (first_of ps)
first_of_both [] ps = refl
first_of_both (None ∷ os) ps = first_of_both os ps
first_of_both (Some k ∷ os) ps = refl

pub values_refused : (v : PlantValues)
    → values_refusal v ≡ option_or (timeline_refusal v) (option_or (first_of (map generator_refusal v.generators)) (first_of (map reader_refusal v.readers)))
values_refused v = ap (option_or (timeline_refusal v)) (first_of_both (map generator_refusal v.generators) (map reader_refusal v.readers))

all_new : (rules : Rules) (gs : List GeneratorValues) → All (IsNew rules) (map (generator_with rules) gs)
all_new rules [] = All-nil (IsNew rules)
all_new rules (g ∷ gs) =
    All-cons (IsNew rules) (generator_with rules g) (map (generator_with rules) gs) (record { edge = refl; fault = refl; ruled = refl }) (all_new rules gs)

-- generators and readers that a plant may have
pub are_generators : (rules : Rules) (gs : List GeneratorValues) (xs : List GeneratorValue) → xs ≡ map (generator_with rules) gs
    → (length gs ≡ 3) ⊎ (length gs ≡ 5) → AreGenerators rules xs
are_generators rules gs xs e n =
    rw e (record {
      count = rw (length-map gs (generator_with rules)) n;
      new = all_new rules gs;
    })

pub are_readers : (rs : List ReaderValues) (xs : List ReaderSetup) → xs ≡ map reader_with rs
    → All (λ x. IsReaderRules x.rules) rs → 1 ≤ length rs → length rs ≤ 16 → AreReaders xs
are_readers rs xs e range least most =
    rw e (record {
      count = rw (length-map rs reader_with) (least, most);
      range = All-map (λ x. IsReaderRules x.rules) reader_with rs range;
    })
