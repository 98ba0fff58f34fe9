-- The items of a list of values, and of their data.
use Rattle.std.proofs.Common.{◌≡◌, ℕ, zero, suc, List, [], ◌∷◌, ◌||◌, map, option_map, take, is_some, Option, Some, None, refl, ap}
use Rattle.std.specs.List.{list_any, slice_get}
use Rattle.std.specs.Str.{bytes_eq}
use Rattle.scenario_values.specs.Names.{name_in}
use Rattle.std.proofs.lemmas.Option.{slice_get-map}
use Rattle.serde_json.specs.declared.value.Value.{Value}
use Rattle.serde_json.specs.View.{view}

pub viewed_item : (vs : List Value) (i : ℕ) → slice_get (map view vs) i ≡ option_map view (slice_get vs i)
viewed_item vs i = slice_get-map view vs i

pub named_before : (name : List ℕ) (vs : List Value) (i : ℕ) → list_any (λ v. bytes_eq (name_in (view v)) name) (take i vs) ≡ list_any (λ d. bytes_eq (name_in d) name) (take i (map view vs))
named_before name vs zero = refl
named_before name [] (suc i) = refl
named_before name (v ∷ vs) (suc i) = ap (λ b. bytes_eq (name_in (view v)) name || b) (named_before name vs i)

pub is_some_map : {A B : Type 0} (f : A → B) (o : Option A) → is_some (option_map f o) ≡ is_some o
is_some_map f None = refl
is_some_map f (Some x) = refl
