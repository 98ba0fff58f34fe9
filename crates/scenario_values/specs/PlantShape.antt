-- The objects of a plant line: which keys stand in each, and what may stand at a key. The rows are
-- those of docs/SCENARIOS.md, "The plant line".
use Rattle.std.specs.Prelude.{ℤ, pos, negsuc, neg_ℤ, Bool, true, ◌&&◌, List, [], ◌∷◌, ◌==◌, if◌then◌else◌, codes, Option, Some, None}
use Rattle.serde_json.specs.Data.{Data}
use Rattle.serde_json.specs.Find.{get}
use Rattle.scenario_values.specs.declared.plant_shape.Version.{Version}
use Rattle.scenario_values.specs.declared.plant_shape.Version.TheVariants.{One, Two, Three}
use Rattle.scenario_json.specs.declared.key.Kind.TheVariants as kind
use Rattle.scenario_json.specs.declared.key.Text.TheVariants as text
use Rattle.scenario_json.specs.Keys.{KeyValue, key, optional_key}
use Rattle.scenario_json.specs.Fields.{has_form, each_item}

-- the version of a number
abbrev pub version_of : ℤ → Option Version
version_of (pos n) =
    if n == 1 then Some One
    else (if n == 2 then Some Two
    else (if n == 3 then Some Three
    else None))
version_of (negsuc n) = None

-- ---- the keys that have a range

-- the leaps that come, at most 1,200
abbrev pub leaps : KeyValue
leaps = key (codes "leaps") (kind.Few 1200)

-- the half hours of an offset
abbrev pub local : KeyValue
local = key (codes "local") (kind.Integer (neg_ℤ (pos 128)) (pos 127))

-- the changes of a generator's zone, at most 400
abbrev pub changes : KeyValue
changes = optional_key (codes "changes") (kind.Few 400)

-- insert or delete
abbrev pub leap_kind : KeyValue
leap_kind = key (codes "kind") (kind.Text text.Leap)

-- after how many votes a reader locks, 1 to 60
abbrev pub lock_after : KeyValue
lock_after = key (codes "lock_after") (kind.Natural 1 60)

-- for how many seconds it counts on alone, 0 to 1,000,000
abbrev pub holdover : KeyValue
holdover = key (codes "holdover") (kind.Natural 0 1000000)

-- ---- the objects, by their keys

-- of a plant line whose last key is this
abbrev pub keys_with : KeyValue → List KeyValue
keys_with last =
    key (codes "version") kind.Whole
    ∷ key (codes "start") (kind.Text text.Second)
    ∷ leaps
    ∷ key (codes "parity") (kind.Text text.Parity)
    ∷ key (codes "sense") (kind.Text text.Sense)
    ∷ key (codes "sbs") (kind.Text text.SbsUse)
    ∷ key (codes "generators") kind.List
    ∷ last
    ∷ []

-- of a plant line
abbrev pub plant_keys : List KeyValue
plant_keys = keys_with (key (codes "readers") kind.List)

-- of a leap, in a plant line or in a table
abbrev pub leap_keys : List KeyValue
leap_keys = key (codes "day") (kind.Text text.Day) ∷ leap_kind ∷ []

-- of a generator
abbrev pub generator_keys : List KeyValue
generator_keys = local ∷ optional_key (codes "dst") kind.Truth ∷ changes ∷ []

-- of a change of a generator's zone
abbrev pub change_keys : List KeyValue
change_keys = key (codes "at") (kind.Text text.Second) ∷ local ∷ key (codes "dst") kind.Truth ∷ []

-- of a reader of the first version
abbrev pub plain_reader_keys : List KeyValue
plain_reader_keys = key (codes "name") (kind.Text text.Name) ∷ lock_after ∷ holdover ∷ []

-- of a reader of a later version, which may have a table
abbrev pub later_reader_keys : List KeyValue
later_reader_keys =
    key (codes "name") (kind.Text text.Name)
    ∷ lock_after
    ∷ holdover
    ∷ optional_key (codes "table") kind.Object
    ∷ []

-- of a reader
abbrev pub reader_keys : Version → List KeyValue
reader_keys One = plain_reader_keys
reader_keys Two = later_reader_keys
reader_keys Three = later_reader_keys

-- of a table of leaps
abbrev pub table_keys : List KeyValue
table_keys = key (codes "until") (kind.Text text.Day) ∷ key (codes "leaps") kind.List ∷ []

-- ---- the objects, from the smallest

-- a leap
abbrev pub is_leap : Data → Bool
is_leap d = has_form leap_keys d

-- a change of a generator's zone
abbrev pub is_change : Data → Bool
is_change d = has_form change_keys d

-- a generator
unfoldable pub is_generator : Data → Bool
is_generator d = has_form generator_keys d && each_item (codes "changes") is_change d

-- a table of leaps
unfoldable pub is_table : Data → Bool
is_table d = has_form table_keys d && each_item (codes "leaps") is_leap d

-- a table, or none
abbrev pub is_table_if : Option Data → Bool
is_table_if None = true
is_table_if (Some d) = is_table d

-- a reader
unfoldable pub is_reader : Version → Data → Bool
is_reader version d = has_form (reader_keys version) d && is_table_if (get (codes "table") d)

-- a plant line
unfoldable pub is_plant : Version → Data → Bool
is_plant version d =
    has_form plant_keys d
    && (each_item (codes "leaps") is_leap d
    && (each_item (codes "generators") is_generator d
    && each_item (codes "readers") (is_reader version) d))
