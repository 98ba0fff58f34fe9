-- Lists of JSON values, by what is asked of their data.
use Rattle.std.proofs.Common.{◌≡◌, List, map}
use Rattle.std.specs.List.{list_all}
use Rattle.serde_json.specs.View.{view}
use Rattle.serde_json.specs.declared.value.Value.{Value}
use Rattle.scenario_json.proofs.ListLaws.{all_of_map}
use Rattle.scenario_json.specs.Keys.{KeyValue}
use Rattle.scenario_json.specs.Fields.{has_form}
use Rattle.scenario_values.specs.PlantShape.{is_generator, is_reader}
use Rattle.scenario_values.specs.declared.plant_shape.Version.{Version}

pub all_formed : (keys : List KeyValue) (vs : List Value) → list_all (λ v. has_form keys (view v)) vs ≡ list_all (has_form keys) (map view vs)
all_formed keys vs = all_of_map (has_form keys) vs

pub all_generators : (vs : List Value) → list_all (λ v. is_generator (view v)) vs ≡ list_all is_generator (map view vs)
all_generators vs = all_of_map is_generator vs

pub all_readers : (version : Version) (vs : List Value) → list_all (λ v. is_reader version (view v)) vs ≡ list_all (is_reader version) (map view vs)
all_readers version vs = all_of_map (is_reader version) vs
