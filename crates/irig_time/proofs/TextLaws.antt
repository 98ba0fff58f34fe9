-- What the texts of days and seconds say.
use Rattle.std.proofs.Common.{◌≡◌, ℕ, ◌+◌, ◌*◌, ◌/◌, ◌%◌, ◌<◌, ◌≤◌, List, ◌++◌, get_or, take, pos, refl, sym, ap, ◌∙◌, arith, inl, inr}
use Rattle.jiff_core.proofs.SignedLemmas.{signed_arith}
use Rattle.jiff_core.proofs.CalendarLemmas.{days_in_month_bounds}
use Rattle.irig_time.specs.declared.second.UtcSecond.{UtcSecond}
use Rattle.irig_time.specs.Days.{IsDateOf}
use Rattle.irig_time.specs.Seconds.{IsValid, minute_of, second_of}
use Rattle.irig_time.specs.Texts.{date_text, time_text, IsDayText, IsText}
use Rattle.irig_time.proofs.Dates.{date_of_parts, parts_are}

-- r is what the two digits there say, if they are such
abbrev pub IsTwoAt : List ℕ → ℕ → ℕ → Type 0
IsTwoAt bytes at r = (n : ℕ) → n < 100 → get_or bytes at 0 ≡ 48 + n / 10 → get_or bytes (at + 1) 0 ≡ 48 + n % 10 → r ≡ n

read_two : (bytes other : List ℕ) (at r n : ℕ) → IsTwoAt bytes at r → bytes ≡ other → n < 100 → get_or other at 0 ≡ 48 + n / 10 → get_or other (at + 1) 0 ≡ 48 + n % 10 → r ≡ n
read_two bytes other at r n is e lt tens units = is n lt (ap (λ (b : List ℕ). get_or b at 0) e ∙ tens) (ap (λ (b : List ℕ). get_or b (at + 1) 0) e ∙ units)

-- the digits of a date are read as its year, month and day
pub date_read : (day : ℕ) (bytes : List ℕ) (a b m d : ℕ) → IsDayText day bytes → IsTwoAt bytes 0 a → IsTwoAt bytes 2 b → IsTwoAt bytes 5 m → IsTwoAt bytes 8 d → IsDateOf day (pos (a * 100 + b)) m d
date_read day bytes a b m d h ra rb rm rd =
    let other = date_text h.year h.month h.day_of_month in
    let long = days_in_month_bounds (pos h.year) h.month in
    let year : h.year < 10000 = omega (arith, signed_arith, h.date.0.0.1) in
    let ea : a ≡ h.year / 100 = read_two bytes other 0 a (h.year / 100) ra h.text (omega (arith, year)) refl refl in
    let eb : b ≡ h.year % 100 = read_two bytes other 2 b (h.year % 100) rb h.text (omega arith) refl refl in
    let em : m ≡ h.month = read_two bytes other 5 m h.month rm h.text (omega (arith, h.date.0.1)) refl refl in
    let ed : d ≡ h.day_of_month = read_two bytes other 8 d h.day_of_month rd h.text (omega (arith, h.date.0.2, long)) refl refl in
    let ey : a * 100 + b ≡ h.year = omega (arith, ea, eb) in
    rw (ey, em, ed) h.date

-- the digits of a time are read as its second of the day
pub time_read : (u : UtcSecond) (bytes : List ℕ) (h m s : ℕ) → IsValid u → IsText u bytes → IsTwoAt bytes 11 h → IsTwoAt bytes 14 m → IsTwoAt bytes 17 s → h * 3600 + m * 60 + s ≡ u.sod
time_read u bytes h m s valid t rh rm rs =
    let other = date_text t.year t.month t.day_of_month ++ time_text (minute_of u / 60) (minute_of u % 60) (second_of u) in
    let low : u.sod ≤ 86400 = elim valid.sod [ inl k ↦ omega (arith, k) | inr k ↦ omega (arith, k.0) ] in
    let eh : h ≡ minute_of u / 60 = read_two bytes other 11 h (minute_of u / 60) rh t.text (omega arith) refl refl in
    let em : m ≡ minute_of u % 60 = read_two bytes other 14 m (minute_of u % 60) rm t.text (omega arith) refl refl in
    let es : s ≡ second_of u = read_two bytes other 17 s (second_of u) rs t.text (omega (arith, low)) refl refl in
    omega (arith, eh, em, es, low)

-- the text of a second begins with that of its day
pub day_first : (u : UtcSecond) (bytes : List ℕ) → IsText u bytes → IsDayText u.day (take 10 bytes)
day_first u bytes h = record {
  year = h.year;
  month = h.month;
  day_of_month = h.day_of_month;
  date = h.date;
  text = ap (λ (b : List ℕ). take 10 b) h.text;
}

-- a day has one date
pub one_date : (day : ℕ) (y m d y' m' d' : ℕ) → IsDateOf day (pos y) m d → IsDateOf day (pos y') m' d' → (y ≡ y') × (m ≡ m') × (d ≡ d')
unfolding date_of_parts
one_date day y m d y' m' d' a b =
    let same = parts_are (date_of_parts (pos y) m d a.0) (pos y') m' d' b.0 (a.1 ∙ sym b.1) in
    (omega (arith, signed_arith, same.0), same.1, same.2)

-- a day has one text
pub day_text_unique : (day : ℕ) (a b : List ℕ) → IsDayText day a → IsDayText day b → a ≡ b
day_text_unique day a b h k =
    let same = one_date day h.year h.month h.day_of_month k.year k.month k.day_of_month h.date k.date in
    h.text ∙ rw (same.0, same.1, same.2) (sym k.text)

-- a second has one text
pub text_unique : (u : UtcSecond) (a b : List ℕ) → IsText u a → IsText u b → a ≡ b
text_unique u a b h k =
    let same = one_date u.day h.year h.month h.day_of_month k.year k.month k.day_of_month h.date k.date in
    h.text ∙ rw (same.0, same.1, same.2) (sym k.text)

made : (u : UtcSecond) (d s : ℕ) → d ≡ u.day → s ≡ u.sod → ◌≡◌ {A = UtcSecond} (record { day = d; sod = s }) u
made u d s ed es = rw (ed, es) refl

-- a second's text is read as the second, if its day is read
pub second_read : (u : UtcSecond) (bytes : List ℕ) (day h m s : ℕ) → IsValid u → IsText u bytes → day ≡ u.day → IsTwoAt bytes 11 h → IsTwoAt bytes 14 m → IsTwoAt bytes 17 s
    → ◌≡◌ {A = UtcSecond} (record { day = day; sod = h * 3600 + m * 60 + s }) u
second_read u bytes day h m s valid t same rh rm rs = made u day (h * 3600 + m * 60 + s) same (time_read u bytes h m s valid t rh rm rs)
