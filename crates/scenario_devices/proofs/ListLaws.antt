-- Lists of devices' objects, by what is asked of their data.
use Rattle.std.proofs.Common.{◌≡◌, List, map}
use Rattle.std.specs.List.{list_all}
use Rattle.serde_json.specs.View.{view}
use Rattle.serde_json.specs.declared.value.Value.{Value}
use Rattle.scenario_json.proofs.ListLaws.{all_of_map}
use Rattle.scenario_devices.specs.StationShape.{is_device_object}

pub all_devices : (vs : List Value) → list_all (λ v. is_device_object (view v)) vs ≡ list_all is_device_object (map view vs)
all_devices vs = all_of_map is_device_object vs
