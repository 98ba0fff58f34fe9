-- The keys of JSON objects, for the tables of what stands in a line.
-- Source: docs/SCENARIOS.md; this project's profile.
use Rattle.std.specs.Prelude.{ℕ, Bool, true, false, List, map, is_some, String, string_bytes}
use Rattle.std.specs.declared.alloc.Global.{Global}
use Rattle.std.specs.List.{list_all}
use Rattle.serde_json.specs.Data.{Data}
use Rattle.serde_json.specs.Find.{as_array, as_bool, as_object, as_str}
use Rattle.scenario_json.specs.declared.key.Kind.{Kind}
use Rattle.scenario_json.specs.declared.key.Kind.TheVariants as kind
use Rattle.scenario_json.specs.declared.key.Key.{Key}
use Rattle.scenario_json.specs.Json.{whole_of, items_in, is_there}

-- a key of an object, what may stand there, and whether it must be there
pub record KeyValue : Type 0 where
  pub name : List ℕ
  pub kind : Kind
  pub required : Bool

-- a key that must be there
abbrev pub key : List ℕ → Kind → KeyValue
key name kind = record { name = name; kind = kind; required = true }

-- a key that may be left out
abbrev pub optional_key : List ℕ → Kind → KeyValue
optional_key name kind = record { name = name; kind = kind; required = false }

-- a key of the code's tables
abbrev pub key_value : Key → KeyValue
key_value k = record { name = k.name.now; kind = k.kind; required = k.required }

-- the texts of some strings
abbrev pub texts_of : List (String Global) → List (List ℕ)
texts_of strings = map string_bytes strings

-- the names of some keys
abbrev pub names_of : List KeyValue → List (List ℕ)
names_of keys = map (λ key. key.name) keys

-- ---- the type of a value, by the kind of its key

-- whole numbers
abbrev pub are_wholes : List Data → Bool
are_wholes ds = list_all (λ d. is_some (whole_of d)) ds

-- a text, a number, a truth, a list or an object
abbrev pub has_type : Kind → Data → Bool
has_type (kind.Text form) d = is_some (as_str d)
has_type kind.Whole d = is_some (whole_of d)
has_type kind.Truth d = is_some (as_bool d)
has_type kind.List d = is_some (as_array d)
has_type (kind.Few count) d = is_some (as_array d)
has_type kind.Object d = is_some (as_object d)
has_type (kind.Natural least most) d = is_some (whole_of d)
has_type (kind.Integer least most) d = is_some (whole_of d)
has_type (kind.Naturals count most) d = is_there are_wholes (items_in d)
