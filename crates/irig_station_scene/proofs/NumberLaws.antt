-- A number in a line is read in one way.
use Rattle.std.proofs.Common.{◌≡◌, ◌≢◌, ℕ, zero, suc, ◌+◌, ◌-◌, ◌/◌, ◌%◌, ◌^◌, ◌<◌, ◌≤◌, ◌==◌, false, ℤ, pos, negsuc, unsigned_abs, List, [], ◌∷◌, ◌++◌, length, replicate, Option, Some, None, refl, ap, sym, subst, ◌∙◌, arith, codes, inl, inr, pow-suc}
use Rattle.std.specs.Prelude.{IfSome}
use Rattle.std.specs.Fmt.{decimal, digit_glyph, digits, digits_onto}
use Rattle.std.specs.Str.Parse.{digits_value}
use Rattle.std.proofs.lemmas.Bool.{cases_lt}
use Rattle.std.proofs.lemmas.Bool.Decides.{eqb_tells}
use Rattle.std.proofs.lemmas.Fmt.{decimal_is_IsNumeral_wide, length-decimal-le}
use Rattle.report_log.proofs.WordLaws.{IsNumber, IsWord, decimal_number, decimal_word, word_by_test, words_join}
use Rattle.irig_station_scene.specs.StationText.{instant_text, six_digits}
use Rattle.irig_station_scene.specs.StationLines.{bound_word, signed_word}

-- ---- decimals

power : (k : ℕ) → 1 ≤ 10 ^ k
power zero = omega arith
power (suc k) = omega (arith, pow-suc 10 k, power k)

not_none : (n : ℕ) → 1 ≤ n → (n == 0) ≡ false
not_none n some = elim (eqb_tells n 0) [ inl e ↦ absurd (omega (arith, some, e.1)) | inr e ↦ e.0 ]

-- a number with more digits fills so many
filled : (k n : ℕ) (acc : List ℕ) → 10 ^ k ≤ n → length (digits_onto k 10 false n acc) ≡ k + length acc
filled zero n acc h = omega arith
filled (suc k) n acc h =
    let more : 10 ^ k ≤ n / 10 = omega (arith, h, pow-suc 10 k) in
    let goes_on : (n / 10 == 0) ≡ false = not_none (n / 10) (omega (arith, power k, more)) in
    let rest = filled k (n / 10) (digit_glyph false (n % 10) ∷ acc) more in
    rw goes_on (omega (arith, rest))

longest : (n : ℕ) → 10 ^ 64 ≤ n → length (decimal n) ≡ 64
unfolding digits
longest n h = filled 64 n [] h

-- a number below 2^64 is the only one that is written so
pub one_decimal : (m n : ℕ) → m < 2 ^ 64 → decimal m ≡ decimal n → m ≡ n
one_decimal m n few same = elim (cases_lt n (10 ^ 64)) [
  | inl small ↦ sym (decimal_is_IsNumeral_wide m (omega (arith, few))).1 ∙ ap (digits_value 10) same ∙ (decimal_is_IsNumeral_wide n small).1
  | inr large ↦ absurd (omega (arith, length-decimal-le 20 m (omega arith) (omega (arith, few)) few, longest n large, ap length same))
]

-- ---- with a sign, or a dash in its place

pub no_dash : (n : ℕ) → decimal n ≢ codes "-"
no_dash n e = let dash : IsNumber (45 ∷ []) = subst IsNumber e (decimal_number n) in omega (arith, dash.0.0)

pub signed_is_word : (z : ℤ) → IsWord (signed_word z)
signed_is_word (pos n) = words_join (codes "+") (decimal n) (word_by_test (codes "+") refl) (decimal_word n)
signed_is_word (negsuc n) = words_join (codes "-") (decimal (suc n)) (word_by_test (codes "-") refl) (decimal_word (suc n))

pub one_signed : (a b : ℤ) → unsigned_abs a < 2 ^ 64 → signed_word a ≡ signed_word b → a ≡ b
one_signed (pos m) (pos n) few e = (let same : decimal m ≡ decimal n = cc in ap pos (one_decimal m n few same))
one_signed (pos m) (negsuc n) few e = absurd (let apart : ◌≡◌ {A = ℕ} 43 45 = cc in omega (arith, apart))
one_signed (negsuc m) (pos n) few e = absurd (let apart : ◌≡◌ {A = ℕ} 45 43 = cc in omega (arith, apart))
one_signed (negsuc m) (negsuc n) few e =
    let same : decimal (suc m) ≡ decimal (suc n) = cc in
    ap negsuc (omega (arith, one_decimal (suc m) (suc n) few same))

pub one_bound : (a b : Option ℕ) → IfSome a (λ bound. bound < 2 ^ 64) → bound_word a ≡ bound_word b → a ≡ b
one_bound None None few e = refl
one_bound None (Some n) few e = absurd (no_dash n (sym e))
one_bound (Some m) None few e = absurd (no_dash m e)
one_bound (Some m) (Some n) few e = ap Some (one_decimal m n few e)

-- ---- an instant

zeros_add_nothing : (k : ℕ) (ds : List ℕ) → digits_value 10 (replicate k 48 ++ ds) ≡ digits_value 10 ds
zeros_add_nothing zero ds = refl
zeros_add_nothing (suc k) ds = zeros_add_nothing k ds

six_value : (n : ℕ) → n < 1000000 → digits_value 10 (six_digits n) ≡ n
six_value n few = zeros_add_nothing (6 - length (decimal n)) (decimal n) ∙ (decimal_is_IsNumeral_wide n (omega (arith, few))).1

one_six : (m n : ℕ) → m < 1000000 → n < 1000000 → six_digits m ≡ six_digits n → m ≡ n
one_six m n few small e = sym (six_value m few) ∙ ap (digits_value 10) e ∙ six_value n small

-- what stands before the first point, and after it
split_point : (a b s t : List ℕ) → IsNumber a → IsNumber b → a ++ (46 ∷ s) ≡ b ++ (46 ∷ t) → (a ≡ b) × (s ≡ t)
split_point [] [] s t h k e = (refl, cc)
split_point [] (y ∷ ys) s t h k e = let same : y ≡ 46 = cc in absurd (omega (arith, same, k.0.0))
split_point (x ∷ xs) [] s t h k e = let same : x ≡ 46 = cc in absurd (omega (arith, same, h.0.0))
split_point (x ∷ xs) (y ∷ ys) s t h k e =
    let first : x ≡ y = cc in
    let others : xs ++ (46 ∷ s) ≡ ys ++ (46 ∷ t) = cc in
    let r = split_point xs ys s t h.1 k.1 others in
    (ap (λ z. z ∷ xs) first ∙ ap (λ zs. y ∷ zs) r.0, r.1)

pub one_instant : (a b : ℕ) → a < 2 ^ 64 → instant_text a ≡ instant_text b → a ≡ b
one_instant a b few e =
    let parts = split_point (decimal (a / 1000000)) (decimal (b / 1000000)) (six_digits (a % 1000000)) (six_digits (b % 1000000)) (decimal_number (a / 1000000)) (decimal_number (b / 1000000)) e in
    let seconds : a / 1000000 ≡ b / 1000000 = one_decimal (a / 1000000) (b / 1000000) (omega (arith, few)) parts.0 in
    let rest : a % 1000000 ≡ b % 1000000 = one_six (a % 1000000) (b % 1000000) (omega arith) (omega arith) parts.1 in
    omega (arith, seconds, rest)
