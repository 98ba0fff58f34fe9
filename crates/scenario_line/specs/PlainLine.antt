-- A line that is written plainly, by its tokens: the keys of its form in their order, and nothing
-- else. What such a line says, `EventLine` says.
-- Source: this project's profile.
use Rattle.std.specs.Prelude.{◌≡◌, ℕ, pos, List, [], ◌∷◌, nat_le, if◌then◌else◌, codes, Option, Some, None, option_map, option_and_then, Result, Ok}
use Rattle.std.specs.List.{position}
use Rattle.std.specs.Str.{bytes_eq}
use Rattle.json.specs.Token.{Token}
use Rattle.json.specs.Json.{value, if_last}
use Rattle.serde_json.specs.Data.{Num, unsigned, negative, float}
use Rattle.serde_json.specs.Read.{number_of, of_json, max_depth}
use Rattle.text_faults.specs.declared.refusal.Refusal.{Refusal}
use Rattle.text_faults.specs.declared.refusal.Refusal.TheVariants.{Json}
use Rattle.text_faults.specs.Refusals.{◌>>=◌, or_else}
use Rattle.scenario_json.specs.Keys.{KeyValue}
use Rattle.scenario_json.specs.Fields.{natural_of}
use Rattle.scenario_values.specs.Forms.{g, r, widths}
use Rattle.scenario_line.specs.declared.event_line.Command.{Command}
use Rattle.scenario_line.specs.EventLine.{command_in_object}

-- ---- numbers

-- a natural number of 32 bits
abbrev pub plain_number : Num → Option ℕ
plain_number (unsigned n) = if nat_le n 4294967295 then Some n else None
plain_number (negative z) = None
plain_number (float x) = None

-- the same, by its text
abbrev pub width_of : List ℕ → Option ℕ
width_of text = option_and_then plain_number (number_of text)

-- a width before some others, and what follows these
abbrev pub with_width : Option ℕ → Option (List ℕ × List Token) → Option (List ℕ × List Token)
with_width o more = option_and_then (λ n. option_map (λ p. (n ∷ p.0, p.1)) more) o

-- the widths up to the end of their list, and what follows it
unfoldable pub plain_widths : List Token → Option (List ℕ × List Token)
plain_widths [] = None
plain_widths (Token.begin_object ∷ ts) = None
plain_widths (Token.end_object ∷ ts) = None
plain_widths (Token.begin_array ∷ ts) = None
plain_widths (Token.end_array ∷ ts) = Some ([], ts)
plain_widths (Token.key s ∷ ts) = None
plain_widths (Token.string s ∷ ts) = None
plain_widths (Token.number s ∷ ts) = with_width (width_of s) (plain_widths ts)
plain_widths (Token.boolean b ∷ ts) = None
plain_widths (Token.null ∷ ts) = None
plain_widths (Token.bad ∷ ts) = None

-- ---- keys with their values: the first tokens `old` are these, and `new` follow

-- a number in the range of its key
pub record IsNatural (k : KeyValue) (old : List Token) (n : ℕ) (new : List Token) : Type 0 where
  pub text : List ℕ
  pub is : old ≡ Token.key k.name ∷ Token.number text ∷ new
  pub number : width_of text ≡ Some n
  pub range : natural_of k.kind (pos n) ≡ Some n

-- the word of a fault
abbrev pub IsKind : List Token → List ℕ → List Token → Type 0
IsKind old word new = old ≡ Token.key (codes "kind") ∷ Token.string word ∷ new

-- a reader that there is, by its name
pub record IsReader (names : List (List ℕ)) (old : List Token) (place : ℕ) (new : List Token)
    : Type 0 where
  pub name : List ℕ
  pub is : old ≡ Token.key r.name ∷ Token.string name ∷ new
  pub placed : position (λ n. bytes_eq name n) names ≡ Some place

-- what stands before the widths of a line of these
pub record IsRawHead (names : List (List ℕ)) (old : List Token) (n place : ℕ) (new : List Token)
    : Type 0 where
  pub at_reader : List Token
  pub at_list : List Token
  pub generator : IsNatural g old n at_reader
  pub reader : IsReader names at_reader place at_list
  pub list : at_list ≡ Token.key widths.name ∷ Token.begin_array ∷ new

-- ---- lines

-- what a line says, by its tokens
unfoldable pub command_of_tokens : List (List ℕ) → List Token → Result Command Refusal
command_of_tokens names ts =
    or_else Json (option_and_then of_json (option_and_then (λ p. if_last p.0 p.1) (value max_depth ts)))
    >>= command_in_object names

-- a line that asks for this, before its other keys
abbrev pub do_and : List ℕ → List Token → List Token
do_and word ts =
    Token.begin_object ∷ Token.key (codes "do") ∷ Token.string word ∷ ts

-- a line with `old` after the word is this command if it ends where only `new` is left
abbrev pub Gives : List (List ℕ) → List ℕ → List Token → List Token → Command → Type 0
Gives names word old new c =
    new ≡ Token.end_object ∷ [] → command_of_tokens names (do_and word old) ≡ Ok c
