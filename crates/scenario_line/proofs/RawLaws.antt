-- What a plain line of raw widths says, by its tokens.
use Rattle.std.proofs.Common.{◌≡◌, ℕ, ◌-◌, ◌<◌, ◌≤◌, true, List, [], ◌∷◌, length, codes, Option, Some, None, refl, sym, ap, ◌∙◌, subst, arith, le-leb, suc}
use Rattle.std.specs.Prelude.{option_map}
use Rattle.std.proofs.lemmas.Option.{same_Some, option_and_then_some}
use Rattle.json.specs.Token.{Token}
use Rattle.json.specs.Json as json
use Rattle.json.specs.Json.{parse_map}
use Rattle.json.proofs.Grammar.{value_is, value-begin_array, items_end, items_more}
use Rattle.serde_json.specs.Data.{Data}
use Rattle.serde_json.specs.Data as value
use Rattle.serde_json.specs.Read.{of_items}
use Rattle.irig_plant.specs.declared.event.Event.TheVariants as event
use Rattle.scenario_json.specs.Json.{text_at, whole_at, items_at, list_of, all_of, has_only}
use Rattle.scenario_json.specs.Keys.{are_wholes}
use Rattle.scenario_json.specs.Fields.{has_form, natural_in, naturals_at}
use Rattle.scenario_values.specs.declared.form.Action.TheVariants as action
use Rattle.scenario_values.specs.Forms.{action_of, keys_of, g, widths}
use Rattle.scenario_line.specs.declared.event_line.Command.TheVariants as command
use Rattle.scenario_line.specs.PlainLine.{width_of, plain_widths, IsNatural, IsReader, Gives}
use Rattle.scenario_line.proofs.RawNumbers.{width_is}
use Rattle.scenario_line.proofs.PlainLaws.{IsMember, number, line_of, gives, natural_found, pair_and, pair_read}

-- ---- the widths

abbrev numbers : List ℕ → value.Items
numbers [] = value.no_items
numbers (n ∷ ns) = value.item (number n) (numbers ns)

-- the items that the grammar finds, and what serde_json makes of them
record AreWidths (depth n : ℕ) (ts : List Token) (ns : List ℕ) (rest : List Token) : Type 0 where
  pub js : json.Items
  pub found : json.items (json.value depth) n ts ≡ Some (js, rest)
  pub made : of_items js ≡ Some (numbers ns)
  pub ranges : all_of (natural_in 4294967295) (list_of (numbers ns)) ≡ Some ns

no_widths : (depth n : ℕ) (ts : List Token) → length (Token.end_array ∷ ts) ≤ n → AreWidths depth n (Token.end_array ∷ ts) [] ts
no_widths depth n ts enough = record { js = json.no_items; found = items_end (json.value depth) n (Token.end_array ∷ ts) ts enough refl; made = refl; ranges = refl }

in_range : (w : ℕ) → w ≤ 4294967295 → natural_in 4294967295 (number w) ≡ Some w
in_range w most = let least : 0 ≤ w = omega arith in rw (le-leb 0 w least, le-leb w 4294967295 most) refl

module _ (depth n : ℕ) (text : List ℕ) (ts : List Token) (w : ℕ) (is : width_of text ≡ Some w) where
  width_read : (ms : List ℕ) (rest : List Token) → 0 < n → AreWidths depth (n - 1) ts ms rest → AreWidths depth n (Token.number text ∷ ts) (w ∷ ms) rest
  width_read ms rest some h =
      let num = width_is text w is in
      record {
        js = json.item (json.number text) h.js;
        found = items_more (json.value depth) n (Token.number text ∷ ts) ts (json.number text) some refl (value_is depth (Token.number text ∷ ts))
            ∙ ap (parse_map (json.item (json.number text))) h.found;
        made = rw num.0 (rw h.made refl);
        ranges = rw (in_range w num.1) (rw h.ranges refl);
      }

  width_and_more : (ns : List ℕ) (rest : List Token) (o : Option (List ℕ × List Token)) → 0 < n → ((ms : List ℕ) (s : List Token) → o ≡ Some (ms, s) → AreWidths depth (n - 1) ts ms s)
      → option_map {U = List ℕ × List Token} (λ p. (w ∷ p.0, p.1)) o ≡ Some (ns, rest) → AreWidths depth n (Token.number text ∷ ts) ns rest
  width_and_more ns rest None some again e = absurd cc
  width_and_more ns rest (Some p) some again e =
      subst (λ (q : List ℕ × List Token). AreWidths depth n (Token.number text ∷ ts) q.0 q.1) (same_Some (w ∷ p.0, p.1) (ns, rest) e)
      (width_read p.0 p.1 some (again p.0 p.1 refl))

widths_read : (depth n : ℕ) (ts : List Token) (ns : List ℕ) (rest : List Token) → length ts ≤ n → plain_widths ts ≡ Some (ns, rest) → AreWidths depth n ts ns rest
unfolding plain_widths
widths_read depth n [] ns rest enough e = absurd cc
widths_read depth n (Token.begin_object ∷ ts) ns rest enough e = absurd cc
widths_read depth n (Token.end_object ∷ ts) ns rest enough e = absurd cc
widths_read depth n (Token.begin_array ∷ ts) ns rest enough e = absurd cc
widths_read depth n (Token.end_array ∷ ts) ns rest enough e =
    subst (λ (q : List ℕ × List Token). AreWidths depth n (Token.end_array ∷ ts) q.0 q.1) (same_Some ([], ts) (ns, rest) e) (no_widths depth n ts enough)
widths_read depth n (Token.key s ∷ ts) ns rest enough e = absurd cc
widths_read depth n (Token.string s ∷ ts) ns rest enough e = absurd cc
widths_read depth n (Token.number s ∷ ts) ns rest enough e =
    let fewer : length ts ≤ n - 1 = omega (arith, enough) in
    let some : 0 < n = omega (arith, enough) in
    option_and_then_some (λ w. option_map (λ p. (w ∷ p.0, p.1)) (plain_widths ts)) (width_of s) (ns, rest) e (λ w is made.
    width_and_more depth n s ts w is ns rest (plain_widths ts) some (λ ms more found. widths_read depth (n - 1) ts ms more fewer found) made)
widths_read depth n (Token.boolean b ∷ ts) ns rest enough e = absurd cc
widths_read depth n (Token.null ∷ ts) ns rest enough e = absurd cc
widths_read depth n (Token.bad ∷ ts) ns rest enough e = absurd cc

-- ---- the list of the widths, as a key with its value

widths_member : (old ts rest : List Token) (ns : List ℕ) → old ≡ Token.key (codes "widths") ∷ Token.begin_array ∷ ts → plain_widths ts ≡ Some (ns, rest)
    → IsMember old (codes "widths") (value.array (numbers ns)) rest
widths_member old ts rest ns is listed =
    let h = widths_read 125 (length ts) ts ns rest (omega arith) listed in
    subst (λ old. IsMember old (codes "widths") (value.array (numbers ns)) rest) (sym is)
    (record {
      j = json.array h.js;
      after = Token.begin_array ∷ ts;
      keyed = refl;
      read = value-begin_array 126 ts (omega arith) ∙ ap (parse_map json.array) h.found;
      made = ap (option_map value.array) h.made;
    })

wholes : (ns : List ℕ) → are_wholes (list_of (numbers ns)) ≡ true
wholes [] = refl
wholes (n ∷ ns) = wholes ns

count : (ns : List ℕ) → length (list_of (numbers ns)) ≡ length ns
count [] = refl
count (n ∷ ns) = ap suc (count ns)

-- ---- the line

module _ (names : List (List ℕ)) (old at_r new : List Token) (m place : ℕ) (hg : IsNatural g old m at_r) (hr : IsReader names at_r place new) (ns : List ℕ) where
  abbrev of_widths : List (List ℕ × Data)
  of_widths = (codes "widths", value.array (numbers ns)) ∷ []

  abbrev of_raw : List (List ℕ × Data)
  of_raw = pair_and names old at_r new m place hg hr of_widths

  has_shape : has_form (keys_of action.Raw) (line_of (codes "raw") of_raw) ≡ true
  unfolding has_form has_only
  has_shape = rw (wholes ns) refl

  has_widths : length ns ≤ 1000 → all_of (natural_in 4294967295) (list_of (numbers ns)) ≡ Some ns → naturals_at widths (line_of (codes "raw") of_raw) ≡ Some ns
  unfolding naturals_at items_at
  has_widths few ranges = let within : length (list_of (numbers ns)) ≤ 1000 = omega (arith, few, count ns) in rw (le-leb (length (list_of (numbers ns))) 1000 within) ranges

  pub raw_is : (ts rest : List Token) → new ≡ Token.key (codes "widths") ∷ Token.begin_array ∷ ts → plain_widths ts ≡ Some (ns, rest) → length ns ≤ 1000
      → Gives names (codes "raw") old rest (command.Event (event.Raw m place ns))
  unfolding action_of text_at whole_at
  raw_is ts rest is listed few =
      let h = widths_read 125 (length ts) ts ns rest (omega arith) listed in
      gives names (codes "raw") old rest of_raw action.Raw (command.Event (event.Raw m place ns))
      (λ end. pair_read names old at_r new m place hg hr of_widths (rest, (widths_member new ts rest ns is listed, end))) refl has_shape
      (rw (natural_found g (line_of (codes "raw") of_raw) m refl hg.range, has_widths few h.ranges, hr.placed) refl)
