-- The names of a plant's readers.
-- Source: docs/SCENARIOS.md; this project's profile.
use Rattle.std.specs.Prelude.{ℕ, Bool, true, not, ◌&&◌, ◌||◌, ◌==◌, nat_le, if◌then◌else◌, List, [], ◌∷◌, length, map, codes, unwrap_or, Result, Ok, Err}
use Rattle.std.specs.List.{list_all, list_any}
use Rattle.std.specs.Str.{bytes_eq}
use Rattle.serde_json.specs.Data.{Data}
use Rattle.text_faults.specs.declared.refusal.Refusal.{Refusal}
use Rattle.text_faults.specs.declared.refusal.Refusal.TheVariants.{Names}
use Rattle.scenario_json.specs.Json.{text_at}

-- a to z, 0 to 9, _ and -
abbrev pub is_name_byte : ℕ → Bool
is_name_byte b =
    (nat_le 97 b && nat_le b 122)
    || ((nat_le 48 b && nat_le b 57) || ((b == 95) || (b == 45)))

-- 1 to 16
abbrev pub one_to_sixteen : ℕ → Bool
one_to_sixteen n = nat_le 1 n && nat_le n 16

-- 1 to 16 of these bytes
unfoldable pub is_name : List ℕ → Bool
is_name text = one_to_sixteen (length text) && list_all is_name_byte text

-- no text comes again later
abbrev pub all_different : List (List ℕ) → Bool
all_different [] = true
all_different (t ∷ ts) = not (list_any (bytes_eq t) ts) && all_different ts

-- the name that a reader's object gives; a missing one is empty, and so is no name
unfoldable pub name_in : Data → List ℕ
name_in reader = unwrap_or (text_at (codes "name") reader) []

-- whether these name a plant's readers: 1 to 16 names, none twice
unfoldable pub are_names : List (List ℕ) → Bool
are_names names = one_to_sixteen (length names) && (list_all is_name names && all_different names)

-- the names of a plant's readers, in order
unfoldable pub names_in : List Data → Result (List (List ℕ)) Refusal
names_in readers = if are_names (map name_in readers) then Ok (map name_in readers) else Err Names
