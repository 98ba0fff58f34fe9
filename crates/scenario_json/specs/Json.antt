-- What a JSON value is and has, by what serde_json reads.
-- Source: RFC 8259, as serde_json reads it.
use Rattle.std.specs.Prelude.{ℕ, ℤ, pos, negsuc, Bool, false, ◌&&◌, List, [], ◌∷◌, length, nat_le, int_le, if◌then◌else◌, Option, Some, None, option_map, option_and_then, Result, Ok, Err}
use Rattle.std.specs.List.{list_all, list_any}
use Rattle.std.specs.Str.{bytes_eq, is_utf8}
use Rattle.serde_json.specs.Data.{Num, unsigned, negative, float, Data, Items, no_items, item, Members, no_members, member}
use Rattle.serde_json.specs.Read.{read}
use Rattle.serde_json.specs.Find.{get, as_array, as_number, as_str}

-- the value that serde_json reads of a line
unfoldable pub json_of : List ℕ → Option Data
json_of line = if is_utf8 line then read line else None

-- ---- values by their types

-- a whole number, as far as `as_u64` or `as_i64` gives it
abbrev pub whole : Num → Option ℤ
whole (unsigned n) = Some (pos n)
whole (negative z) = Some z
whole (float x) = None

-- the whole number that a value is
abbrev pub whole_of : Data → Option ℤ
whole_of d = option_and_then whole (as_number d)

-- the whole number at a key
unfoldable pub whole_at : List ℕ → Data → Option ℤ
whole_at key d = option_and_then whole_of (get key d)

-- the text at a key
unfoldable pub text_at : List ℕ → Data → Option (List ℕ)
text_at key d = option_and_then as_str (get key d)

-- the items in order
abbrev pub list_of : Items → List Data
list_of no_items = []
list_of (item d ds) = d ∷ list_of ds

-- ---- lists

-- the items that a value has
abbrev pub items_in : Data → Option (List Data)
items_in d = option_map list_of (as_array d)

-- the items of the list at a key
unfoldable pub items_at : List ℕ → Data → Option (List Data)
items_at key d = option_map list_of (option_and_then as_array (get key d))

-- the list, if it is no longer than that
abbrev pub at_most : ℕ → List Data → Option (List Data)
at_most limit ds = if nat_le (length ds) limit then Some ds else None

-- a value for each, or none at all
abbrev pub all_of : {A : Type 0} → (Data → Option A) → List Data → Option (List A)
all_of f [] = Some []
all_of f (d ∷ ds) = option_and_then (λ x. option_map (λ xs. x ∷ xs) (all_of f ds)) (f d)

-- ---- numbers within their ranges

-- a number from the least to the most, which are natural
abbrev pub natural_within : ℕ → ℕ → ℤ → Option ℕ
natural_within least most (pos n) = if nat_le least n && nat_le n most then Some n else None
natural_within least most (negsuc n) = None

-- a number from the least to the most
abbrev pub integer_within : ℤ → ℤ → ℤ → Option ℤ
integer_within least most z = if int_le least z && int_le z most then Some z else None

-- ---- keys

-- the keys of an object
abbrev pub keys_of : Members → List (List ℕ)
keys_of no_members = []
keys_of (member k d ms) = k ∷ keys_of ms

-- the keys are among these
unfoldable pub has_only : List (List ℕ) → Members → Bool
has_only named ms = list_all (λ k. list_any (λ n. bytes_eq n k) named) (keys_of ms)

-- what is asked of a value that must be there
abbrev pub is_there : {A : Type 0} → (A → Bool) → Option A → Bool
is_there p None = false
is_there p (Some x) = p x
