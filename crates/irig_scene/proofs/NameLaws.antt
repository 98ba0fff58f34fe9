-- The names of a plant's readers, as words of a log.
use Rattle.std.proofs.Common.{◌≡◌, ◌≢◌, ℕ, zero, suc, ◌<◌, ◌==◌, Bool, true, false, ◌&&◌, List, [], ◌∷◌, length, refl, ap, sym, ◌∙◌, arith, rules, not, inl, inr, ◌||◌}
use Rattle.std.specs.Prelude.{nat_le, ◌⊎◌}
use Rattle.std.specs.List.{list_all, list_any}
use Rattle.std.specs.Str.{bytes_eq}
use Rattle.std.proofs.lemmas.Bool.{and_parts, or_cases, not-true, both_ways}
use Rattle.std.proofs.lemmas.Slice.Eq.{bytes_eq-Decides}
use Rattle.scenario_values.specs.Names.{is_name_byte, one_to_sixteen, is_name, all_different, are_names}
use Rattle.report_log.specs.Text.{name_at}
use Rattle.report_log.proofs.WordLaws.{IsWord, AreNames}

name_byte_word : (b : ℕ) → is_name_byte b ≡ true → 32 < b
name_byte_word b h = elim (or_cases (nat_le 97 b && nat_le b 122) _ h) [
  | inl letter ↦ let low : nat_le 97 b ≡ true = (and_parts (nat_le 97 b) (nat_le b 122) letter).0 in search rules
  | inr other ↦ elim (or_cases (nat_le 48 b && nat_le b 57) _ other) [
    | inl digit ↦ let low : nat_le 48 b ≡ true = (and_parts (nat_le 48 b) (nat_le b 57) digit).0 in search rules
    | inr mark ↦ elim (or_cases (b == 95) (b == 45) mark) [
      | inl under ↦ let same : (b == 95) ≡ true = under in search rules
      | inr dash ↦ let same : (b == 45) ≡ true = dash in search rules
    ]
  ]
]

name_bytes_word : (text : List ℕ) → list_all is_name_byte text ≡ true → IsWord text
name_bytes_word [] h = tt
name_bytes_word (b ∷ bs) h =
    let parts = and_parts (is_name_byte b) (list_all is_name_byte bs) h in
    (name_byte_word b parts.0, name_bytes_word bs parts.1)

-- a name of one reader
name_word : (text : List ℕ) → is_name text ≡ true → IsWord text
unfolding is_name
name_word text h = name_bytes_word text (and_parts (one_to_sixteen (length text)) (list_all is_name_byte text) h).1

names_word : (names : List (List ℕ)) (r : ℕ) → list_all is_name names ≡ true → IsWord (name_at names r)
names_word [] r h = tt
names_word (t ∷ ts) zero h = name_word t (and_parts (is_name t) (list_all is_name ts) h).0
names_word (t ∷ ts) (suc r) h = names_word ts r (and_parts (is_name t) (list_all is_name ts) h).1

name_some : (text : List ℕ) → is_name text ≡ true → text ≢ []
unfolding is_name
name_some [] h = λ e. absurd cc
name_some (b ∷ bs) h = λ e. absurd cc

-- a text that stands again
pub found_at : (t : List ℕ) (ts : List (List ℕ)) (r : ℕ) → r < length ts → t ≡ name_at ts r → list_any (bytes_eq t) ts ≡ true
found_at t [] r low same = absurd (omega (arith, low))
found_at t (x ∷ xs) zero low same = ap (λ b. b || list_any (bytes_eq t) xs) ((bytes_eq-Decides t x).1 same)
found_at t (x ∷ xs) (suc r) low same = or_right (bytes_eq t x) _ (found_at t xs r (omega (arith, low)) same)
  where
    or_right : (a b : Bool) → b ≡ true → (a || b) ≡ true
    or_right true b e = refl
    or_right false b e = e

one_reader : (names : List (List ℕ)) (r q : ℕ) → all_different names ≡ true → r < length names → q < length names → name_at names r ≡ name_at names q → r ≡ q
one_reader [] r q h low high same = absurd (omega (arith, low))
one_reader (t ∷ ts) zero zero h low high same = refl
one_reader (t ∷ ts) zero (suc q) h low high same = absurd (both_ways (list_any (bytes_eq t) ts) (not-true _ (and_parts (not (list_any (bytes_eq t) ts)) (all_different ts) h).0) (found_at t ts q (omega (arith, high)) same))
one_reader (t ∷ ts) (suc r) zero h low high same = absurd (both_ways (list_any (bytes_eq t) ts) (not-true _ (and_parts (not (list_any (bytes_eq t) ts)) (all_different ts) h).0) (found_at t ts r (omega (arith, low)) (sym same)))
one_reader (t ∷ ts) (suc r) (suc q) h low high same = ap suc (one_reader ts r q (and_parts (not (list_any (bytes_eq t) ts)) (all_different ts) h).1 (omega (arith, low)) (omega (arith, high)) same)

named_or_past : (names : List (List ℕ)) (q : ℕ) → (q < length names) ⊎ (name_at names q ≡ [])
named_or_past [] q = inr refl
named_or_past (t ∷ ts) zero = inl (omega arith)
named_or_past (t ∷ ts) (suc q) = elim (named_or_past ts q) [ inl low ↦ inl (omega (arith, low)) | inr past ↦ inr past ]

name_not_empty : (names : List (List ℕ)) (r : ℕ) → list_all is_name names ≡ true → r < length names → name_at names r ≢ []
name_not_empty [] r h low = absurd (omega (arith, low))
name_not_empty (t ∷ ts) zero h low = name_some t (and_parts (is_name t) (list_all is_name ts) h).0
name_not_empty (t ∷ ts) (suc r) h low = name_not_empty ts r (and_parts (is_name t) (list_all is_name ts) h).1 (omega (arith, low))

name_of_one : (names : List (List ℕ)) (r q : ℕ) → list_all is_name names ≡ true → all_different names ≡ true → r < length names → name_at names r ≡ name_at names q → r ≡ q
name_of_one names r q words different low same = elim (named_or_past names q) [
  | inl high ↦ one_reader names r q different low high same
  | inr past ↦ absurd (name_not_empty names r words low (same ∙ past))
]

-- what a plant line takes as names
pub are_names_named : (names : List (List ℕ)) → are_names names ≡ true → AreNames names
unfolding are_names
are_names_named names h =
    let parts = and_parts (one_to_sixteen (length names)) (list_all is_name names && all_different names) h in
    let rest = and_parts (list_all is_name names) (all_different names) parts.1 in
    record { words = λ r. names_word names r rest.0; one = λ r q low same. name_of_one names r q rest.0 rest.1 low same }
