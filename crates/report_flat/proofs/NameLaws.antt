-- The names of a plant's readers, as they stand in a line: texts without an escape, each of one reader.
use Rattle.std.proofs.Common.{◌≡◌, ◌≢◌, ℕ, zero, suc, ◌+◌, ◌<◌, ◌≤◌, ◌==◌, Bool, true, false, ◌&&◌, cond, not, List, [], ◌∷◌, ◌++◌, length, Some, None, refl, ap, ap₂, sym, ◌∙◌, arith, inl, inr}
use Rattle.std.specs.Prelude.{nat_le, nat_lt}
use Rattle.std.specs.List.{AllByRecursion, list_all, list_any, prefix_len, position}
use Rattle.std.specs.Str.{bytes_eq}
use Rattle.std.proofs.lemmas.Bool.{and_parts, or_cases, not-true, both_ways, false_from_ne_true, leb-true, eqb-true, lt-ltb, ltb-true}
use Rattle.std.proofs.lemmas.Slice.Eq.{bytes_eq-Decides}
use Rattle.json.specs.Print.{escape}
use Rattle.json.proofs.Printed.Strings.{escape_byte_plain}
use Rattle.scenario_values.specs.Names.{is_name_byte, one_to_sixteen, is_name, all_different, are_names}
use Rattle.report_log.specs.Text.{name_at}
use Rattle.irig_scene.proofs.NameLaws.{found_at}

-- ---- the bytes

-- a byte that stands for itself: ASCII above the blank, 32, and neither a quote, 34, nor a backslash, 92
pub record IsPlain (b : ℕ) : Type 0 where
  pub low : 32 < b
  pub high : b < 128
  pub unquoted : b ≢ 34
  pub unescaped : b ≢ 92

plain_between : (least most b : ℕ) → 34 < least → most < 128 → (92 < least) → (nat_le least b && nat_le b most) ≡ true → IsPlain b
plain_between least most b low high over h =
    let parts = and_parts (nat_le least b) (nat_le b most) h in
    let from : least ≤ b = leb-true least b parts.0 in
    let to : b ≤ most = leb-true b most parts.1 in
    record { low = omega arith; high = omega arith; unquoted = λ e. omega arith; unescaped = λ e. omega arith }

digit_plain : (b : ℕ) → (nat_le 48 b && nat_le b 57) ≡ true → IsPlain b
digit_plain b h =
    let parts = and_parts (nat_le 48 b) (nat_le b 57) h in
    let from : 48 ≤ b = leb-true 48 b parts.0 in
    let to : b ≤ 57 = leb-true b 57 parts.1 in
    record { low = omega arith; high = omega arith; unquoted = λ e. omega arith; unescaped = λ e. omega arith }

mark_plain : (a b : ℕ) → 34 < a → a < 128 → a ≢ 92 → (b == a) ≡ true → IsPlain b
mark_plain a b low high other h =
    let same : b ≡ a = eqb-true b a h in
    record { low = omega arith; high = omega arith; unquoted = λ e. omega arith; unescaped = λ e. other (sym same ∙ e) }

byte_plain : (b : ℕ) → is_name_byte b ≡ true → IsPlain b
byte_plain b h = elim (or_cases (nat_le 97 b && nat_le b 122) _ h) [
  | inl letter ↦ plain_between 97 122 b (omega arith) (omega arith) (omega arith) letter
  | inr other ↦ elim (or_cases (nat_le 48 b && nat_le b 57) _ other) [
    | inl digit ↦ digit_plain b digit
    | inr mark ↦ elim (or_cases (b == 95) (b == 45) mark) [
      | inl under ↦ mark_plain 95 b (omega arith) (omega arith) (λ e. omega arith) under
      | inr dash ↦ mark_plain 45 b (omega arith) (omega arith) (λ e. omega arith) dash
    ]
  ]
]

bytes_plain : (text : List ℕ) → list_all is_name_byte text ≡ true → AllByRecursion IsPlain text
bytes_plain [] h = tt
bytes_plain (b ∷ bs) h =
    let parts = and_parts (is_name_byte b) (list_all is_name_byte bs) h in
    (byte_plain b parts.0, bytes_plain bs parts.1)

-- 1 to 16 plain bytes
pub record IsPlainName (text : List ℕ) : Type 0 where
  pub short : length text ≤ 16
  pub plain : AllByRecursion IsPlain text

is_plain_name : (text : List ℕ) → is_name text ≡ true → IsPlainName text
unfolding is_name
is_plain_name text h =
    let parts = and_parts (one_to_sixteen (length text)) (list_all is_name_byte text) h in
    let counts = and_parts (nat_le 1 (length text)) (nat_le (length text) 16) parts.0 in
    record { short = leb-true (length text) 16 counts.1; plain = bytes_plain text parts.1 }

names_plain : (names : List (List ℕ)) (r : ℕ) → list_all is_name names ≡ true → IsPlainName (name_at names r)
names_plain [] r h = record { short = omega arith; plain = tt }
names_plain (t ∷ ts) zero h = is_plain_name t (and_parts (is_name t) (list_all is_name ts) h).0
names_plain (t ∷ ts) (suc r) h = names_plain ts r (and_parts (is_name t) (list_all is_name ts) h).1

-- the name of a reader, or none past the last
pub reader_name : (names : List (List ℕ)) (r : ℕ) → are_names names ≡ true → IsPlainName (name_at names r)
unfolding are_names
reader_name names r h =
    let parts = and_parts (one_to_sixteen (length names)) (list_all is_name names && all_different names) h in
    names_plain names r (and_parts (list_all is_name names) (all_different names) parts.1).0

pub without_escape : (text : List ℕ) → AllByRecursion IsPlain text → escape text ≡ text
without_escape [] h = refl
without_escape (b ∷ bs) h =
    let above : 32 < b = h.0.low in
    ap₂ (λ (front back : List ℕ). front ++ back) (escape_byte_plain b h.0.unquoted h.0.unescaped (omega arith)) (without_escape bs h.1)

-- ---- the place of a name

-- how many stand before the first that is this name
abbrev before : List ℕ → List (List ℕ) → ℕ
before name names = prefix_len (λ n. not (bytes_eq name n)) names

first_place : (name : List ℕ) (names : List (List ℕ)) (r : ℕ) → all_different names ≡ true → r < length names → name ≡ name_at names r → before name names ≡ r
first_place name [] r different low same = absurd (omega (arith, low))
first_place name (t ∷ ts) zero different low same = ap (λ b. cond (not b) (1 + before name ts) 0) ((bytes_eq-Decides name t).1 same)
first_place name (t ∷ ts) (suc r) different low same =
    let parts = and_parts (not (list_any (bytes_eq t) ts)) (all_different ts) different in
    let apart : bytes_eq name t ≡ false =
    false_from_ne_true (bytes_eq name t) (λ is. both_ways (list_any (bytes_eq t) ts) (not-true _ parts.0) (found_at t ts r (omega (arith, low)) (sym ((bytes_eq-Decides name t).0 is) ∙ same))) in
    ap (λ b. cond (not b) (1 + before name ts) 0) apart ∙ omega (arith, first_place name ts r parts.1 (omega (arith, low)) same)

-- a reader is found by its name
pub reader_found : (names : List (List ℕ)) (r : ℕ) → are_names names ≡ true → r < length names → position (λ n. bytes_eq (name_at names r) n) names ≡ Some r
unfolding are_names
reader_found names r h low =
    let parts = and_parts (one_to_sixteen (length names)) (list_all is_name names && all_different names) h in
    let different = (and_parts (list_all is_name names) (all_different names) parts.1).1 in
    ap (λ k. cond (nat_lt k (length names)) (Some k) None) (first_place (name_at names r) names r different low refl)
    ∙ ap (λ b. cond b (Some r) None) (lt-ltb r (length names) low)

if_found : (k n r : ℕ) (b : Bool) → nat_lt k n ≡ b → cond b (Some k) None ≡ Some r → r < n
if_found k n r true test e = let same : k ≡ r = cc in let low : k < n = ltb-true k n test in omega arith
if_found k n r false test e = absurd cc

-- what is found is there
pub found_within : (p : List ℕ → Bool) (names : List (List ℕ)) (r : ℕ) → position p names ≡ Some r → r < length names
found_within p names r e = if_found (prefix_len (λ n. not (p n)) names) (length names) r _ refl e
