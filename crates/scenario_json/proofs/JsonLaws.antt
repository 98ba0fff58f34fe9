-- The value of a line, by what a reader of JSON answered.
use Rattle.std.proofs.Common.{◌≡◌, ℕ, List, Bool, true, false, None, refl, cond, IsUtf8}
use Rattle.std.specs.Str.{is_utf8}
use Rattle.std.proofs.lemmas.Str.{IsUtf8-from_is_utf8, is_utf8-from_IsUtf8}
use Rattle.serde_json.specs.Read.{read}
use Rattle.scenario_json.specs.Json.{json_of}

pub json_of_text : (line : List ℕ) → IsUtf8 line → json_of line ≡ read line
unfolding json_of
json_of_text line h = rw (is_utf8-from_IsUtf8 line h) refl

nothing_read : (line : List ℕ) (b : Bool) → is_utf8 line ≡ b → (IsUtf8 line → read line ≡ None) → cond b (read line) None ≡ None
nothing_read line true e h = h (IsUtf8-from_is_utf8 line e)
nothing_read line false e h = refl

pub no_json : (line : List ℕ) → (IsUtf8 line → read line ≡ None) → json_of line ≡ None
unfolding json_of
no_json line h = nothing_read line (is_utf8 line) refl h
