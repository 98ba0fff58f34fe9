-- The values that the lines of events are: what they are as a text, and that they are read of it.
use Rattle.std.proofs.Common.{◌≡◌, ℕ, ◌≤◌, true, false, List, [], ◌∷◌, ◌++◌, Some, refl, ap, sym, ◌∙◌, arith, codes, append_assoc, append-nil}
use Rattle.std.specs.Prelude.{option_map, option_and_then}
use Rattle.std.specs.List.{AllByRecursion}
use Rattle.std.specs.Fmt.{decimal}
use Rattle.json.specs.Json as json
use Rattle.json.specs.Print.{escape, escape_byte}
use Rattle.json.specs.Tree as tree
use Rattle.json.proofs.Printed.Decimals.{IsNumber-decimal}
use Rattle.json.proofs.Printed.Tokens.{tokens-print}
use Rattle.json.proofs.Printed.Trees.{value-json_tokens, ArePrintable-json_tokens}
use Rattle.serde_json.specs.Data.{Data, Items}
use Rattle.serde_json.specs.Data as value
use Rattle.serde_json.specs.Read.{of_json, of_items, read, max_depth}
use Rattle.serde_json.specs.Written.{outline, items_outline, compact_text, items_text}
use Rattle.serde_json.proofs.Numbers.{number_of-decimal}
use Rattle.serde_json.proofs.Texts.{print-outline}
use Rattle.report_flat.specs.EventText.{after_commas, numbers_text}

-- ---- a value is read of its text

-- a value of which this crate's lines are made: its outline is JSON that says it, not too deep
pub record IsReadBack (d : Data) : Type 0 where
  pub numbers : tree.HasNumbers (outline d)
  pub shallow : tree.depth (outline d) ≤ max_depth
  pub same : of_json (outline d) ≡ Some d

pub reads_text : (d : Data) (text : List ℕ) → IsReadBack d → text ≡ compact_text d → read text ≡ Some d
reads_text d text h e =
    let j = outline d in
    let tokens = tokens-print (tree.json_tokens j) (ArePrintable-json_tokens j h.numbers) ∙ sym (append-nil (tree.json_tokens j)) in
    ap read (e ∙ sym (print-outline d))
    ∙ ap (λ ts. option_and_then of_json (option_and_then (λ p. json.if_last p.0 p.1) (json.value max_depth ts))) tokens
    ∙ ap (λ o. option_and_then of_json (option_and_then (λ p. json.if_last p.0 p.1) o)) (value-json_tokens j max_depth [] h.shallow)
    ∙ h.same

-- ---- numbers

abbrev pub number : ℕ → Data
number n = value.number (value.unsigned n)

abbrev pub items_of : List ℕ → Items
items_of [] = value.no_items
items_of (n ∷ ns) = value.item (number n) (items_of ns)

abbrev pub AreWidths : List ℕ → Type 0
AreWidths ns = AllByRecursion (λ n. n ≤ 4294967295) ns

number_read : (n : ℕ) → n ≤ 4294967295 → of_json (json.number (decimal n)) ≡ Some (number n)
number_read n h = ap (option_map value.number) (number_of-decimal n (omega (arith, h)))

items_numbers : (ns : List ℕ) → AreWidths ns → tree.ItemsHaveNumbers (items_outline (items_of ns))
items_numbers [] h = tt
items_numbers (n ∷ ns) h = (IsNumber-decimal n (omega (arith, h.0)), items_numbers ns h.1)

items_depth : (ns : List ℕ) → tree.items_depth (items_outline (items_of ns)) ≤ 0
items_depth [] = omega arith
items_depth (n ∷ ns) = omega (arith, items_depth ns)

items_read : (ns : List ℕ) → AreWidths ns → of_items (items_outline (items_of ns)) ≡ Some (items_of ns)
items_read [] h = refl
items_read (n ∷ ns) h =
    ap (option_and_then (λ d. option_map (value.item d) (of_items (items_outline (items_of ns))))) (number_read n h.0) ∙ ap (option_map (value.item (number n))) (items_read ns h.1)

more_text : (ns rest : List ℕ) → items_text true (items_of ns) ++ rest ≡ after_commas ns ++ (93 ∷ rest)
more_text [] rest = refl
more_text (n ∷ ns) rest =
    append_assoc (44 ∷ decimal n) (items_text true (items_of ns)) rest ∙ ap (λ l. (44 ∷ decimal n) ++ l) (more_text ns rest)
    ∙ sym (append_assoc (44 ∷ decimal n) (after_commas ns) (93 ∷ rest))

list_text : (ns rest : List ℕ) → items_text false (items_of ns) ++ rest ≡ numbers_text ns ++ (93 ∷ rest)
list_text [] rest = refl
list_text (n ∷ ns) rest =
    append_assoc (decimal n) (items_text true (items_of ns)) rest ∙ ap (λ l. decimal n ++ l) (more_text ns rest)
    ∙ sym (append_assoc (decimal n) (after_commas ns) (93 ∷ rest))

-- ---- the values of the lines

abbrev pub pulses : ℕ → List ℕ → List ℕ → Data
pulses g name widths =
    value.object (value.member (codes "do") (value.string (codes "raw")) (value.member (codes "g") (number g)
    (value.member (codes "r") (value.string name) (value.member (codes "widths") (value.array (items_of widths)) value.no_members))))

-- a tick or a restart, by its word
abbrev pub at_reader : List ℕ → List ℕ → Data
at_reader word name = value.object (value.member (codes "do") (value.string word) (value.member (codes "r") (value.string name) value.no_members))

pub pulses_read_back : (g : ℕ) (name widths : List ℕ) → g ≤ 255 → AreWidths widths → IsReadBack (pulses g name widths)
pulses_read_back g name widths low range = record {
  numbers = (tt, (IsNumber-decimal g (omega (arith, low)), (tt, (items_numbers widths range, tt))));
  shallow = omega (arith, items_depth widths);
  same = rw (number_of-decimal g (omega (arith, low)), items_read widths range) refl;
}

pub at_reader_read_back : (word name : List ℕ) → IsReadBack (at_reader word name)
at_reader_read_back word name = record { numbers = (tt, (tt, tt)); shallow = omega arith; same = refl }

-- a name between quotes, with what comes after
name_text : (name rest : List ℕ) → escape name ≡ name → name ++ (34 ∷ rest) ≡ (escape name ++ 34 ∷ []) ++ rest
name_text name rest plain = ap (λ l. l ++ (34 ∷ rest)) (sym plain) ∙ sym (append_assoc (escape name) (34 ∷ []) rest)

pub pulses_text : (g : ℕ) (name widths : List ℕ) → escape name ≡ name
    → codes "{\"do\":\"raw\",\"g\":" ++ (decimal g ++ (codes ",\"r\":\"" ++ (name ++ (codes "\",\"widths\":[" ++ (numbers_text widths ++ codes "]}"))))) ≡ compact_text (pulses g name widths)
unfolding escape_byte
pulses_text g name widths plain =
    ap (λ l. codes "{\"do\":\"raw\",\"g\":" ++ (decimal g ++ (codes ",\"r\":\"" ++ l)))
    (ap (λ l. name ++ (codes "\",\"widths\":[" ++ l)) (sym (list_text widths (125 ∷ []))) ∙ name_text name (codes ",\"widths\":[" ++ (items_text false (items_of widths) ++ 125 ∷ [])) plain)

pub tick_text : (name : List ℕ) → escape name ≡ name → codes "{\"do\":\"tick\",\"r\":\"" ++ (name ++ codes "\"}") ≡ compact_text (at_reader (codes "tick") name)
unfolding escape_byte
tick_text name plain = ap (λ l. codes "{\"do\":\"tick\",\"r\":\"" ++ l) (name_text name (125 ∷ []) plain)

pub restart_text : (name : List ℕ) → escape name ≡ name → codes "{\"do\":\"restart\",\"r\":\"" ++ (name ++ codes "\"}") ≡ compact_text (at_reader (codes "restart") name)
unfolding escape_byte
restart_text name plain = ap (λ l. codes "{\"do\":\"restart\",\"r\":\"" ++ l) (name_text name (125 ∷ []) plain)
