-- Whether what stands at a key is in its range.
-- Source: docs/SCENARIOS.md; this project's profile.
use Rattle.std.specs.Prelude.{ℕ, Bool, true, not, ◌&&◌, ◌||◌, is_some, List}
use Rattle.std.specs.List.{list_all}
use Rattle.serde_json.specs.Data.{Data}
use Rattle.serde_json.specs.Find.{get}
use Rattle.irig_time.specs.TextValues.{day_read, second_read}
use Rattle.scenario_json.specs.declared.key.Kind.{Kind}
use Rattle.scenario_json.specs.declared.key.Kind.TheVariants as kind
use Rattle.scenario_json.specs.declared.key.Text.{Text}
use Rattle.scenario_json.specs.declared.key.Text.TheVariants as text
use Rattle.scenario_json.specs.Json.{text_at, items_at, at_most, is_there}
use Rattle.scenario_json.specs.Keys.{KeyValue}
use Rattle.scenario_json.specs.Fields.{natural_at, integer_at, few_items, natural_in}
use Rattle.scenario_json.specs.Keywords.{parity_of, sense_of, sbs_use_of, leap_named}

-- a text of this form
abbrev pub is_text : Text → List ℕ → Bool
is_text text.Second t = is_some (second_read t)
is_text text.Day t = is_some (day_read t)
is_text text.Parity t = is_some (parity_of t)
is_text text.Sense t = is_some (sense_of t)
is_text text.SbsUse t = is_some (sbs_use_of t)
is_text text.Leap t = is_some (leap_named t)
is_text text.Any t = true
is_text text.Reader t = true
is_text text.Name t = true

-- no more items than these, each a number from 0 to that
abbrev pub are_naturals : ℕ → ℕ → List Data → Bool
are_naturals count most ds =
    is_some (at_most count ds) && list_all (λ d. is_some (natural_in most d)) ds

-- what stands at a key of this kind is in its range
unfoldable pub in_range : Kind → KeyValue → Data → Bool
in_range (kind.Natural least most) key d = is_some (natural_at key d)
in_range (kind.Integer least most) key d = is_some (integer_at key d)
in_range (kind.Few count) key d =
    is_there (λ ds. is_some (few_items (kind.Few count) ds)) (items_at key.name d)
in_range (kind.Naturals count most) key d =
    is_there (are_naturals count most) (items_at key.name d)
in_range (kind.Text form) key d = is_there (is_text form) (text_at key.name d)
in_range kind.Whole key d = true
in_range kind.Truth key d = true
in_range kind.List key d = true
in_range kind.Object key d = true

-- nothing stands at a key, or what is in its range
unfoldable pub has_value : KeyValue → Data → Bool
has_value key d = not (is_some (get key.name d)) || in_range key.kind key d

-- so at each of these
unfoldable pub have_values : List KeyValue → Data → Bool
have_values keys d = list_all (λ key. has_value key d) keys
