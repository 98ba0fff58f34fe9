-- The forms of the lines after the plant line: which keys stand in each, and what may stand at a
-- key. The rows are those of docs/SCENARIOS.md, "Events".
use Rattle.std.specs.Prelude.{ℕ, pos, neg_ℤ, List, [], ◌∷◌, codes, if◌then◌else◌, Option, Some, None, option_map, option_and_then}
use Rattle.std.specs.Str.{bytes_eq}
use Rattle.scenario_json.specs.declared.key.Kind.TheVariants as kind
use Rattle.scenario_json.specs.declared.key.Text.TheVariants as text
use Rattle.scenario_values.specs.declared.form.Action.{Action}
use Rattle.scenario_values.specs.declared.form.Action.TheVariants as action
use Rattle.scenario_values.specs.declared.form.FaultKind.{FaultKind}
use Rattle.scenario_values.specs.declared.form.FaultKind.TheVariants as fault
use Rattle.scenario_json.specs.Keys.{KeyValue, key}
use Rattle.scenario_json.specs.Json.{text_at}
use Rattle.serde_json.specs.Data.{Data}

-- ---- the words

-- what happens, by its word, if it is no fault
abbrev pub action_named : List ℕ → Option Action
action_named word =
    if bytes_eq word (codes "carry") then Some action.Carry
    else (if bytes_eq word (codes "tick") then Some action.Tick
    else (if bytes_eq word (codes "step") then Some action.Step
    else (if bytes_eq word (codes "seconds") then Some action.Seconds
    else (if bytes_eq word (codes "damage") then Some action.Damage
    else (if bytes_eq word (codes "replay") then Some action.Replay
    else (if bytes_eq word (codes "raw") then Some action.Raw
    else (if bytes_eq word (codes "repair") then Some action.Repair
    else (if bytes_eq word (codes "restart") then Some action.Restart
    else None))))))))

-- which fault it is, by its word
abbrev pub fault_named : List ℕ → Option FaultKind
fault_named word =
    if bytes_eq word (codes "silent") then Some fault.Silent
    else (if bytes_eq word (codes "stuck") then Some fault.Stuck
    else (if bytes_eq word (codes "skew") then Some fault.Skew
    else (if bytes_eq word (codes "no_pending") then Some fault.NoPending
    else (if bytes_eq word (codes "false_pending") then Some fault.FalsePending
    else (if bytes_eq word (codes "quality") then Some fault.Quality
    else (if bytes_eq word (codes "wrong_offset") then Some fault.WrongOffset
    else None))))))

-- ---- the keys

-- what happens
abbrev pub action_key : KeyValue
action_key = key (codes "do") (kind.Text text.Any)

-- which fault it is
abbrev pub kind_key : KeyValue
kind_key = key (codes "kind") (kind.Text text.Any)

-- a generator's number
abbrev pub g : KeyValue
g = key (codes "g") (kind.Natural 0 255)

-- a reader's name
abbrev pub r : KeyValue
r = key (codes "r") (kind.Text text.Reader)

-- an element of a frame
abbrev pub at : KeyValue
at = key (codes "at") (kind.Natural 0 99)

-- the width of a pulse in microseconds
abbrev pub width : KeyValue
width = key (codes "width") (kind.Natural 0 4294967295)

-- at most 1,000 widths of pulses in microseconds
abbrev pub widths : KeyValue
widths = key (codes "widths") (kind.Naturals 1000 4294967295)

-- an edge of a generator
abbrev pub edge : KeyValue
edge = key (codes "edge") (kind.Natural 0 18446744073709551615)

-- a count of seconds
abbrev pub n : KeyValue
n = key (codes "n") (kind.Natural 0 100000)

-- by how many edges a generator is ahead, or with a negative number behind
abbrev pub edges_by : KeyValue
edges_by = key (codes "by") (kind.Integer (neg_ℤ (pos 2147483648)) (pos 2147483647))

-- by how many half hours an offset is too far
abbrev pub half_hours_by : KeyValue
half_hours_by = key (codes "by") (kind.Integer (neg_ℤ (pos 62)) (pos 62))

-- `insert` or `delete`
abbrev pub leap : KeyValue
leap = key (codes "leap") (kind.Text text.Leap)

-- a time quality
abbrev pub q : KeyValue
q = key (codes "q") (kind.Natural 0 15)

-- ---- the forms

-- of a line that sets a fault
abbrev pub fault_keys_of : FaultKind → List KeyValue
fault_keys_of fault.Silent = action_key ∷ g ∷ kind_key ∷ []
fault_keys_of fault.Stuck = action_key ∷ g ∷ kind_key ∷ []
fault_keys_of fault.Skew = action_key ∷ g ∷ kind_key ∷ edges_by ∷ []
fault_keys_of fault.NoPending = action_key ∷ g ∷ kind_key ∷ []
fault_keys_of fault.FalsePending = action_key ∷ g ∷ kind_key ∷ leap ∷ []
fault_keys_of fault.Quality = action_key ∷ g ∷ kind_key ∷ q ∷ []
fault_keys_of fault.WrongOffset = action_key ∷ g ∷ kind_key ∷ half_hours_by ∷ []

-- of any line, each of which must be there, and no other
abbrev pub keys_of : Action → List KeyValue
keys_of action.Carry = action_key ∷ g ∷ r ∷ []
keys_of action.Tick = action_key ∷ r ∷ []
keys_of action.Step = action_key ∷ g ∷ []
keys_of action.Seconds = action_key ∷ n ∷ []
keys_of action.Damage = action_key ∷ g ∷ r ∷ at ∷ width ∷ []
keys_of action.Replay = action_key ∷ g ∷ r ∷ edge ∷ []
keys_of action.Raw = action_key ∷ g ∷ r ∷ widths ∷ []
keys_of (action.Fault kind) = fault_keys_of kind
keys_of action.Repair = action_key ∷ g ∷ []
keys_of action.Restart = action_key ∷ r ∷ []

-- ---- what a line asks for

-- which fault, by what stands at `kind`
abbrev pub fault_in : Data → Option FaultKind
fault_in d = option_and_then fault_named (text_at kind_key.name d)

-- a fault as what happens
abbrev pub fault_action : Data → Option Action
fault_action d = option_map (λ kind. action.Fault kind) (fault_in d)

-- the action of this word
abbrev pub action_by : List ℕ → Data → Option Action
action_by word d = if bytes_eq word (codes "fault") then fault_action d else action_named word

-- by what stands at `do`
unfoldable pub action_of : Data → Option Action
action_of d = option_and_then (λ word. action_by word d) (text_at action_key.name d)
