-- The number of a text of digits, as JSON reads it.
use Rattle.std.proofs.Common.{◌≡◌, ℕ, ◌+◌, ◌*◌, ◌^◌, ◌<◌, ◌≤◌, Bool, true, false, List, [], ◌∷◌, ◌++◌, length, get_or, cond, Some, None, refl, sym, ap, ◌∙◌, arith, append-nil, lt-ltb, le-leb, ne_eqb, subst}
use Rattle.std.specs.Prelude.{◌-◌, nat_le, slice_index}
use Rattle.std.specs.Int.{IsInRange}
use Rattle.std.proofs.lemmas.Option.{same_Some, option_and_then_some}
use Rattle.std.proofs.lemmas.Bool.{leb-true}
use Rattle.std.proofs.lemmas.Str.{digit_value_digit}
use Rattle.std.proofs.lemmas.Float.Parse.{scan_numeral-text_of}
use Rattle.std.specs.Char.{digit_value}
use Rattle.std.specs.Float.Numeral.{Parts, IsWellFormed}
use Rattle.std.specs.Str.Parse.{AllDigits, IsNumeral, digits_value, without_leading_plus}
use Rattle.serde_json.specs.Data.{Num, unsigned, negative, float}
use Rattle.serde_json.specs.Read.{number_of, number_from}
use Rattle.scenario_line.specs.PlainLine.{plain_number, width_of}

no_minus : (ds rest : List ℕ) → AllDigits 10 ds → 0 < length ds → get_or (ds ++ rest) 0 0 ≡ 45 → ⊥
no_minus [] rest h some e = omega arith
no_minus (d ∷ ds) rest h some e = let digit : digit_value d < 10 = h.0 in let is : d ≡ 45 = e in grind arith

abbrev parts_of : List ℕ → Parts
parts_of ds = record { whole = ds; point = false; fraction = []; exponent_negative = false; exponent = []; len = length (ds ++ []) }

well_formed : (ds : List ℕ) → AllDigits 10 ds → IsWellFormed (parts_of ds)
well_formed ds h = record { whole_digits = h; fraction_digits = tt; exponent_digits = tt; no_point = λ _. refl; no_exponent = λ _. refl; len_is = refl }

scanned : (ds : List ℕ) → AllDigits 10 ds → 0 < length ds → number_of (ds ++ []) ≡ number_from false (parts_of ds)
unfolding number_of
scanned ds h some = rw (ne_eqb (get_or (ds ++ []) 0 0) 45 (no_minus ds [] h some)) (ap (number_from false) (scan_numeral-text_of (parts_of ds) (well_formed ds h)))

pub number_of_digits : (ds : List ℕ) → IsNumeral 10 ds → digits_value 10 ds < 2 ^ 64 → number_of ds ≡ Some (unsigned (digits_value 10 ds))
number_of_digits ds h fits =
    ap number_of (sym (append-nil ds)) ∙ scanned ds h.1 h.0 ∙ rw (lt-ltb _ _ h.0) (rw append-nil (rw (lt-ltb _ _ fits) refl))

pub width_of_digits : (ds : List ℕ) → IsNumeral 10 ds → digits_value 10 ds < 2 ^ 32 → width_of ds ≡ Some (digits_value 10 ds)
width_of_digits ds h fits =
    let small : digits_value 10 ds ≤ 4294967295 = omega arith in
    let fits64 : digits_value 10 ds < 2 ^ 64 = omega arith in
    rw (number_of_digits ds h fits64) (rw (le-leb _ _ small) refl)

-- a width is a natural number of 32 bits
pub record IsWidth (x : Num) (n : ℕ) : Type 0 where
  pub is : x ≡ unsigned n
  pub most : n ≤ 4294967295

small : (m n : ℕ) (b : Bool) → nat_le m 4294967295 ≡ b → cond b (Some m) None ≡ Some n → IsWidth (unsigned m) n
small m n false is e = absurd cc
small m n true is e = let same : m ≡ n = same_Some m n e in record { is = ap unsigned same; most = omega (arith, same, leb-true m 4294967295 is) }

plain_is : (x : Num) (n : ℕ) → plain_number x ≡ Some n → IsWidth x n
plain_is (unsigned m) n e = small m n (nat_le m 4294967295) refl e
plain_is (negative z) n e = absurd cc
plain_is (float x) n e = absurd cc

pub width_is : (text : List ℕ) (n : ℕ) → width_of text ≡ Some n → (number_of text ≡ Some (unsigned n)) × (n ≤ 4294967295)
width_is text n e =
    option_and_then_some plain_number (number_of text) n e (λ x is rest.
    let w = plain_is x n rest in (is ∙ ap (λ y. Some y) w.is, w.most))

-- ---- what the readers of digits give

pub four : (a b c d : ℕ) → IsInRange 48 57 a → IsInRange 48 57 b → IsInRange 48 57 c → IsInRange 48 57 d
    → width_of (a ∷ b ∷ c ∷ d ∷ []) ≡ Some ((a - 48) * 1000 + (b - 48) * 100 + (c - 48) * 10 + (d - 48))
four a b c d ha hb hc hd =
    let ea : digit_value a + 48 ≡ a = digit_value_digit a ha in
    let eb : digit_value b + 48 ≡ b = digit_value_digit b hb in
    let ec : digit_value c + 48 ≡ c = digit_value_digit c hc in
    let ed : digit_value d + 48 ≡ d = digit_value_digit d hd in
    let da : digit_value a < 10 = omega (arith, ea, ha.1) in
    let db : digit_value b < 10 = omega (arith, eb, hb.1) in
    let dc : digit_value c < 10 = omega (arith, ec, hc.1) in
    let dd : digit_value d < 10 = omega (arith, ed, hd.1) in
    let some : 0 < 4 = omega arith in
    let fits : (((0 * 10 + digit_value a) * 10 + digit_value b) * 10 + digit_value c) * 10 + digit_value d < 2 ^ 32 = omega (arith, da, db, dc, dd) in
    let same : (((0 * 10 + digit_value a) * 10 + digit_value b) * 10 + digit_value c) * 10 + digit_value d ≡ (a - 48) * 1000 + (b - 48) * 100 + (c - 48) * 10 + (d - 48) = omega (arith, ea, eb, ec, ed) in
    width_of_digits (a ∷ b ∷ c ∷ d ∷ []) (some, (da, (db, (dc, (dd, tt))))) fits ∙ ap (λ n. Some n) same

pub parsed : (text : List ℕ) (n : ℕ) → (slice_index text 0 ≡ 43 → ⊥)
    → (IsNumeral 10 (without_leading_plus text) × (digits_value 10 (without_leading_plus text) < 2 ^ 32)) × (n ≡ digits_value 10 (without_leading_plus text)) → width_of text ≡ Some n
parsed text n plain h =
    let same : without_leading_plus text ≡ text = rw (ne_eqb (slice_index text 0) 43 plain) refl in
    let numeral : IsNumeral 10 text = subst (IsNumeral 10) same h.0.0 in
    let fits : digits_value 10 text < 2 ^ 32 = subst (λ t. digits_value 10 t < 2 ^ 32) same h.0.1 in
    width_of_digits text numeral fits ∙ ap (λ n. Some n) (sym (h.1 ∙ ap (digits_value 10) same))
