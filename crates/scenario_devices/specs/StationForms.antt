-- The forms of the lines after a plant line of version 4: which keys stand in each, and what may
-- stand at a key.
-- Source: docs/SCENARIOS.md, a plant of devices.
use Rattle.std.specs.Prelude.{ℕ, List, [], ◌∷◌, codes, if◌then◌else◌, Option, Some, None, option_map, option_and_then}
use Rattle.std.specs.Str.{bytes_eq}
use Rattle.serde_json.specs.Data.{Data}
use Rattle.scenario_json.specs.declared.key.Kind.TheVariants as kind
use Rattle.scenario_json.specs.Json.{text_at}
use Rattle.scenario_json.specs.Keys.{KeyValue, key}
use Rattle.scenario_values.specs.Forms.{action_key, g, r, width, n, fault_in, fault_keys_of}
use Rattle.scenario_devices.specs.declared.station_form.StationAction.{StationAction}
use Rattle.scenario_devices.specs.declared.station_form.StationAction.TheVariants as action
use Rattle.scenario_devices.specs.StationShape.{most_late}

-- ---- the words

-- what happens, by its word, if it is no fault
abbrev pub station_action_named : List ℕ → Option StationAction
station_action_named word =
    if bytes_eq word (codes "pass") then Some action.Pass
    else (if bytes_eq word (codes "seconds") then Some action.Seconds
    else (if bytes_eq word (codes "repair") then Some action.Repair
    else (if bytes_eq word (codes "pull") then Some action.Pull
    else (if bytes_eq word (codes "plug") then Some action.Plug
    else (if bytes_eq word (codes "late") then Some action.Late
    else (if bytes_eq word (codes "pulse") then Some action.Pulse
    else (if bytes_eq word (codes "tick") then Some action.Tick
    else (if bytes_eq word (codes "restart") then Some action.Restart
    else (if bytes_eq word (codes "stamp") then Some action.Stamp
    else None)))))))))

-- ---- the keys

-- how much time passes, in microseconds
abbrev pub passing_us : KeyValue
passing_us = key (codes "us") (kind.Natural 1 1000000000)

-- how late a line is, in microseconds
abbrev pub lateness_us : KeyValue
lateness_us = key (codes "us") (kind.Natural 0 most_late)

-- how many microseconds ago the instant of a stamp was
abbrev pub ago_key : KeyValue
ago_key = key (codes "ago") (kind.Natural 0 4000000)

-- ---- the forms

-- of any line, each of which must be there, and no other
abbrev pub station_keys_of : StationAction → List KeyValue
station_keys_of action.Pass = action_key ∷ passing_us ∷ []
station_keys_of action.Seconds = action_key ∷ n ∷ []
station_keys_of (action.Fault kind) = fault_keys_of kind
station_keys_of action.Repair = action_key ∷ g ∷ []
station_keys_of action.Pull = action_key ∷ g ∷ r ∷ []
station_keys_of action.Plug = action_key ∷ g ∷ r ∷ []
station_keys_of action.Late = action_key ∷ g ∷ r ∷ lateness_us ∷ []
station_keys_of action.Pulse = action_key ∷ g ∷ r ∷ width ∷ []
station_keys_of action.Tick = action_key ∷ r ∷ []
station_keys_of action.Restart = action_key ∷ r ∷ []
station_keys_of action.Stamp = action_key ∷ r ∷ ago_key ∷ []

-- ---- what a line asks for

-- the action of this word
abbrev pub station_action_by : List ℕ → Data → Option StationAction
station_action_by word d =
    if bytes_eq word (codes "fault") then option_map (λ kind. action.Fault kind) (fault_in d)
    else station_action_named word

-- by what stands at `do`
unfoldable pub station_action_of : Data → Option StationAction
station_action_of d =
    option_and_then (λ word. station_action_by word d) (text_at action_key.name d)
