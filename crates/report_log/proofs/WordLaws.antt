-- Words: texts without a blank or a newline, of which the lines of a log are made.
use Rattle.std.proofs.Common.{◌≡◌, ℕ, zero, suc, ◌<◌, ◌==◌, ◌/◌, ◌%◌, true, false, cond, List, [], ◌∷◌, ◌++◌, length, Option, Some, None, refl, arith, rules, nat_lt, codes}
use Rattle.std.specs.Prelude.{unwrap_or}
use Rattle.std.specs.Option.{option_map}
use Rattle.std.specs.List.{AllByRecursion, list_all, find}
use Rattle.std.specs.Fmt.{digits_onto, digits, digit_glyph, decimal}
use Rattle.std.proofs.lemmas.Bool.{and_parts}
use Rattle.irig_time.specs.declared.second.UtcSecond.{UtcSecond}
use Rattle.irig_time.specs.Texts.{date_text, time_text}
use Rattle.irig_time.specs.Seconds.{minute_of, second_of}
use Rattle.irig_time.specs.TextValues.{dates, is_date_of, day_text, second_text}
use Rattle.irig_reader.specs.declared.report.Lock.{Lock}
use Rattle.irig_reader.specs.declared.report.Lock.TheVariants.{Unlocked, Acquiring, Locked, Holdover}
use Rattle.irig_reader.specs.declared.report.Cause.{Cause}
use Rattle.irig_reader.specs.declared.report.Cause.TheVariants as cause
use Rattle.report_log.specs.Text.{lock_text, cause_text, name_at}

-- each byte is above 32, the blank
abbrev pub IsWord : List ℕ → Type 0
IsWord text = AllByRecursion (λ b. 32 < b) text

pub words_join : (a b : List ℕ) → IsWord a → IsWord b → IsWord (a ++ b)
words_join [] b h k = k
words_join (x ∷ xs) b h k = (h.0, words_join xs b h.1 k)

pub word_by_test : (l : List ℕ) → list_all (nat_lt 32) l ≡ true → IsWord l
word_by_test [] h = tt
word_by_test (b ∷ bs) h =
    let parts = and_parts (nat_lt 32 b) (list_all (nat_lt 32) bs) h in
    let test : nat_lt 32 b ≡ true = parts.0 in
    (search rules, word_by_test bs parts.1)

-- ---- numbers

-- 48 is the letter 0, and 57 is 9
abbrev pub IsNumber : List ℕ → Type 0
IsNumber text = AllByRecursion (λ b. (47 < b) × (b < 58)) text

digit_glyph_is : (n : ℕ) → (47 < digit_glyph false (n % 10)) × (digit_glyph false (n % 10) < 58)
digit_glyph_is n = let low : nat_lt (n % 10) 10 ≡ true = search rules in rw low (omega arith, omega arith)

digits_number : (k n : ℕ) (acc : List ℕ) → IsNumber acc → IsNumber (digits_onto k 10 false n acc)
digits_number zero n acc h = h
digits_number (suc k) n acc h = elim (n / 10 == 0) as (λ b. IsNumber (cond b (digit_glyph false (n % 10) ∷ acc) (digits_onto k 10 false (n / 10) (digit_glyph false (n % 10) ∷ acc)))) [
  | true ↦ (digit_glyph_is n, h)
  | false ↦ digits_number k (n / 10) (digit_glyph false (n % 10) ∷ acc) (digit_glyph_is n, h)
]

pub decimal_number : (n : ℕ) → IsNumber (decimal n)
unfolding digits
decimal_number n = digits_number 64 n [] tt

number_word : (text : List ℕ) → IsNumber text → IsWord text
number_word [] h = tt
number_word (b ∷ bs) h = (omega (arith, h.0.0), number_word bs h.1)

pub decimal_word : (n : ℕ) → IsWord (decimal n)
decimal_word n = number_word (decimal n) (decimal_number n)

-- ---- times

date_word : (year month day : ℕ) → IsWord (date_text year month day)
date_word year month day = (omega arith, (omega arith, (omega arith, (omega arith, (omega arith, (omega arith, (omega arith, (omega arith, (omega arith, (omega arith, tt))))))))))

time_word : (hour minute second : ℕ) → IsWord (time_text hour minute second)
time_word hour minute second = (omega arith, (omega arith, (omega arith, (omega arith, (omega arith, (omega arith, (omega arith, (omega arith, (omega arith, (omega arith, tt))))))))))

found_word : (o : Option (ℕ × ℕ × ℕ)) → IsWord (unwrap_or (option_map (λ d. date_text d.0 d.1 d.2) o) [])
found_word None = tt
found_word (Some d) = date_word d.0 d.1 d.2

pub second_word : (u : UtcSecond) → IsWord (second_text u)
unfolding second_text day_text
second_word u = words_join (day_text u.day) _ (found_word (find (is_date_of u.day) dates)) (time_word (minute_of u / 60) (minute_of u % 60) (second_of u))

-- ---- locks and causes

pub lock_word : (lock : Lock) → IsWord (lock_text lock)
lock_word Unlocked = word_by_test (codes "unlocked") refl
lock_word (Acquiring votes) = words_join (codes "acquiring:") _ (word_by_test (codes "acquiring:") refl) (decimal_word votes)
lock_word Locked = word_by_test (codes "locked") refl
lock_word (Holdover age) = words_join (codes "holdover:") _ (word_by_test (codes "holdover:") refl) (decimal_word age)

pub cause_word : (cause : Cause) → IsWord (cause_text cause)
cause_word cause.Voted = word_by_test (codes "voted") refl
cause_word cause.Held = word_by_test (codes "held") refl
cause_word cause.Acquiring = word_by_test (codes "acquiring") refl
cause_word cause.NoVote = word_by_test (codes "no-vote") refl
cause_word cause.Expired = word_by_test (codes "expired") refl
cause_word cause.LeapGuard = word_by_test (codes "leap-guard") refl
cause_word cause.Jump = word_by_test (codes "jump") refl
cause_word cause.RangeEnd = word_by_test (codes "range-end") refl

-- ---- names

-- names are words, and a name is of one reader alone
pub record AreNames (names : List (List ℕ)) : Type 0 where
  pub words : (r : ℕ) → IsWord (name_at names r)
  pub one : (r q : ℕ) → r < length names → name_at names r ≡ name_at names q → r ≡ q

pub name_is_word : (names : List (List ℕ)) (r : ℕ) → AreNames names → IsWord (name_at names r)
name_is_word names r h = h.words r

pub name_of_one : (names : List (List ℕ)) (r q : ℕ) → AreNames names → r < length names → name_at names r ≡ name_at names q → r ≡ q
name_of_one names r q h low same = h.one r q low same
