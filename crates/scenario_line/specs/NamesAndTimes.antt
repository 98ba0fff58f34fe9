-- What a plant line says of its readers' names and of its timeline, whatever else it says.
-- Source: docs/SCENARIOS.md.
use Rattle.std.specs.Prelude.{◌≡◌, ℕ, List, map, Some}
use Rattle.serde_json.specs.Data.{Data}
use Rattle.irig_time.specs.Timelines.{TimelineValue}
use Rattle.scenario_json.specs.Json.{json_of}
use Rattle.scenario_values.specs.Names.{name_in}
use Rattle.scenario_values.specs.PlantValues.{start_of, leaps_of, readers_in}

-- the line is a JSON value whose readers have these names, and whose start and leaps are those of
-- this timeline
pub record HasNamesAndTimes (line : List ℕ) (names : List (List ℕ)) (times : TimelineValue)
    : Type 0 where
  pub value : Data
  pub read : json_of line ≡ Some value
  pub named : names ≡ map name_in (readers_in value)
  pub start : start_of value ≡ Some times.start
  pub leaps : leaps_of value ≡ Some times.leaps
