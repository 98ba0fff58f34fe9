-- What stands at the keys of an object: whether it has its form, and the values in their ranges.
-- Source: docs/SCENARIOS.md; this project's profile.
use Rattle.std.specs.Prelude.{ℕ, ℤ, pos, Bool, not, ◌&&◌, List, [], Option, Some, None, option_and_then, unwrap_or}
use Rattle.std.specs.List.{list_all, position}
use Rattle.std.specs.Str.{bytes_eq}
use Rattle.serde_json.specs.Data.{Data}
use Rattle.serde_json.specs.Find.{get, as_object}
use Rattle.irig_time.specs.declared.leap.Leap.{Leap}
use Rattle.scenario_json.specs.declared.key.Kind.{Kind}
use Rattle.scenario_json.specs.declared.key.Kind.TheVariants as kind
use Rattle.scenario_json.specs.Json.{whole_of, whole_at, text_at, items_at, at_most, all_of, natural_within, integer_within, has_only, is_there}
use Rattle.scenario_json.specs.Keys.{KeyValue, names_of, has_type}
use Rattle.scenario_json.specs.Keywords.{leap_named}

-- ---- the form of an object, which asks for types alone

-- nothing at a key that may be left out, or a value of the right type
abbrev pub fits : KeyValue → Option Data → Bool
fits key None = not key.required
fits key (Some d) = has_type key.kind d

-- an object with no other keys than these, and what fits at each
unfoldable pub has_form : List KeyValue → Data → Bool
has_form keys d =
    is_there (has_only (names_of keys)) (as_object d)
    && list_all (λ key. fits key (get key.name d)) keys

-- each item of the list at a key, if there is one
unfoldable pub each_item : List ℕ → (Data → Bool) → Data → Bool
each_item key p d = list_all p (unwrap_or (items_at key d) [])

-- ---- the ranges of the kinds

-- the least natural number of a kind
abbrev pub natural_least : Kind → ℕ
natural_least (kind.Natural least most) = least
natural_least _ = 0

-- the greatest natural number of a kind
abbrev pub natural_most : Kind → ℕ
natural_most (kind.Natural least most) = most
natural_most _ = 0

-- the least number of a kind, which may be negative
abbrev pub integer_least : Kind → ℤ
integer_least (kind.Integer least most) = least
integer_least _ = pos 0

-- the greatest number of a kind, which may be negative
abbrev pub integer_most : Kind → ℤ
integer_most (kind.Integer least most) = most
integer_most _ = pos 0

-- ---- what stands at a key of a form, if it is in range

-- the natural number of a kind
abbrev pub natural_of : Kind → ℤ → Option ℕ
natural_of (kind.Natural least most) z = natural_within least most z
natural_of _ z = None

-- the number of a kind
abbrev pub integer_of : Kind → ℤ → Option ℤ
integer_of (kind.Integer least most) z = integer_within least most z
integer_of _ z = None

-- the natural number at a key
abbrev pub natural_at : KeyValue → Data → Option ℕ
natural_at key d = option_and_then (natural_of key.kind) (whole_at key.name d)

-- the number at a key
abbrev pub integer_at : KeyValue → Data → Option ℤ
integer_at key d = option_and_then (integer_of key.kind) (whole_at key.name d)

-- the kind of leap at a key
abbrev pub leap_at : KeyValue → Data → Option Leap
leap_at key d = option_and_then leap_named (text_at key.name d)

-- the number of the reader whose name stands at a key
abbrev pub reader_at : List (List ℕ) → KeyValue → Data → Option ℕ
reader_at names key d =
    option_and_then (λ name. position (λ n. bytes_eq name n) names) (text_at key.name d)

-- the items of a list, if they are no more than its kind allows
abbrev pub few_items : Kind → List Data → Option (List Data)
few_items (kind.Few count) ds = at_most count ds
few_items _ ds = None

-- the natural number that a value is, from 0 to this
abbrev pub natural_in : ℕ → Data → Option ℕ
natural_in most d = option_and_then (natural_within 0 most) (whole_of d)

-- the natural numbers of a list of a kind
abbrev pub naturals_of : Kind → List Data → Option (List ℕ)
naturals_of (kind.Naturals count most) ds =
    option_and_then (all_of (natural_in most)) (at_most count ds)
naturals_of _ ds = None

-- the natural numbers of the list at a key
unfoldable pub naturals_at : KeyValue → Data → Option (List ℕ)
naturals_at key d = option_and_then (naturals_of key.kind) (items_at key.name d)
