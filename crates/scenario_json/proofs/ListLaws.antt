-- Lists of JSON values and of their data.
use Rattle.std.proofs.Common.{◌≡◌, List, [], ◌∷◌, ◌++◌, Bool, Option, option_map, refl, ap, sym, map, is_some}
use Rattle.std.specs.List.{list_all}
use Rattle.std.proofs.lemmas.List.Folds.{list_all-map}
use Rattle.serde_json.specs.Data.{Data}
use Rattle.serde_json.specs.View.{view, items_of}
use Rattle.serde_json.specs.declared.value.Value.{Value}
use Rattle.scenario_json.specs.Json.{whole_of, list_of, all_of}
use Rattle.scenario_json.specs.Keys.{are_wholes}

-- the data of a list in order
pub list_of_items : (ds : List Data) → list_of (items_of ds) ≡ ds
list_of_items [] = refl
list_of_items (d ∷ ds) = ap (λ es. d ∷ es) (list_of_items ds)

-- what is asked of the data of each value
pub all_of_map : (p : Data → Bool) (vs : List Value) → list_all (λ v. p (view v)) vs ≡ list_all p (map view vs)
all_of_map p vs = sym (list_all-map p view vs)

pub all_wholes : (vs : List Value) → list_all (λ v. is_some (whole_of (view v))) vs ≡ are_wholes (map view vs)
all_wholes vs = all_of_map (λ d. is_some (whole_of d)) vs

-- ---- a loop, by what it has and what is left

-- `front` is done, and `rest` is left
pub record Found {A : Type 0} (f : Data → Option A) (front : List A) (rest all : List Value) : Type 0 where
  pub is : option_map (λ xs. front ++ xs) (all_of f (map view rest)) ≡ all_of f (map view all)
