-- What is asked at each key of a line.
use Rattle.std.proofs.Common.{◌≡◌, ℕ, ◌&&◌, ◌||◌, List, [], ◌∷◌, String, string_bytes, map, refl, ap, ◌∙◌}
use Rattle.std.specs.List.{list_all, list_any}
use Rattle.std.proofs.lemmas.List.Folds.{list_all-map}
use Rattle.std.specs.Str.{bytes_eq}
use Rattle.std.specs.declared.alloc.Global.{Global}
use Rattle.serde_json.specs.declared.value.Value.{Value}
use Rattle.serde_json.specs.View.{members_view}
use Rattle.serde_json.specs.Data.{Data}
use Rattle.serde_json.specs.Find.{get}
use Rattle.scenario_json.specs.declared.key.Key.{Key}
use Rattle.scenario_json.specs.Json.{keys_of, has_only}
use Rattle.scenario_json.specs.Keys.{key_value, names_of}
use Rattle.scenario_json.specs.Fields.{fits}

any_named : (k : List ℕ) (keys : List Key) → list_any (λ n. bytes_eq n.name.now k) keys ≡ list_any (λ n. bytes_eq n k) (names_of (map key_value keys))
any_named k [] = refl
any_named k (n ∷ ns) = ap (λ b. bytes_eq n.name.now k || b) (any_named k ns)

-- the keys of an object, by the map that it is
pub only_keys : (keys : List Key) (es : List (String Global × Value))
    → list_all (λ k. list_any (λ n. bytes_eq n.name.now (string_bytes k)) keys) (map (λ e. e.0) es) ≡ has_only (names_of (map key_value keys)) (members_view es)
unfolding has_only
only_keys keys [] = refl
only_keys keys (e ∷ es) =
    ap (λ b. list_any (λ n. bytes_eq n.name.now (string_bytes e.0)) keys && b) (only_keys keys es)
    ∙ ap (λ b. b && list_all (λ k. list_any (λ n. bytes_eq n k) (names_of (map key_value keys))) (keys_of (members_view es))) (any_named (string_bytes e.0) keys)

-- what fits at the code's keys, and at the definition's
pub all_fit : (d : Data) (keys : List Key)
    → list_all (λ key. fits key (get key.name d)) (map key_value keys) ≡ list_all (λ key. fits (key_value key) (get key.name.now d)) keys
all_fit d keys = list_all-map (λ key. fits key (get key.name d)) key_value keys
