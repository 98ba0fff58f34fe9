-- A second has one coded time.
use Rattle.std.proofs.Common.{◌≡◌, ℕ, ◌*◌, ◌/◌, ◌%◌, ◌≤◌, eqb, refl, sym, ap, ◌∙◌, arith, inl, inr, ℤ, unsigned_abs}
use Rattle.std.proofs.lemmas.Bool.{cases_Bool, eqb-true, eqb-false}
use Rattle.irig_frame.specs.declared.coded.Coded.{Coded}
use Rattle.irig_time.specs.declared.second.UtcSecond.{UtcSecond}
use Rattle.irig_time.specs.CodedTime.{IsCodedOf, coded_minute}
use Rattle.irig_time.specs.Days.{day_number, year_length}

-- the year of a day by its number
year_of : (y d : ℕ) → 1 ≤ d → d ≤ year_length y → y ≡ 4 * day_number y d / 1461
year_of y d low high =
    elim (cases_Bool (eqb (y % 4) 0)) [
      | inl e ↦ let four = eqb-true (y % 4) 0 e in let most : d ≤ 366 = rw e at high in omega (arith, four, most)
      | inr e ↦ let odd = eqb-false (y % 4) 0 e in let most : d ≤ 365 = rw e at high in omega (arith, odd, most)
    ]

same_coded : (c d : Coded) → c.second ≡ d.second → c.minute ≡ d.minute → c.hour ≡ d.hour → c.day ≡ d.day → c.year ≡ d.year → c.control ≡ d.control → c.sbs ≡ d.sbs → c ≡ d
same_coded c d a b e f g h i =
    let same : ◌≡◌ {A = Coded} (record { second = c.second; minute = c.minute; hour = c.hour; day = c.day; year = c.year; control = c.control; sbs = c.sbs }) (record { second = d.second; minute = d.minute; hour = d.hour; day = d.day; year = d.year; control = d.control; sbs = d.sbs }) = rw (a, b, e, f, g, h, i) refl in same

pub one_coded : (u : UtcSecond) (h : ℤ) (c d : Coded) → IsCodedOf u h c → IsCodedOf u h d → c ≡ d
one_coded u h c d a b =
    let minutes : coded_minute c ≡ coded_minute d = ap unsigned_abs (a.time ∙ sym b.time) in
    let days : day_number c.year c.day ≡ day_number d.year d.day = omega (arith, minutes, a.hour, a.minute, b.hour, b.minute) in
    let hour : c.hour ≡ d.hour = omega (arith, minutes, days, a.minute, b.minute) in
    let minute : c.minute ≡ d.minute = omega (arith, minutes, days, hour) in
    let year : c.year ≡ d.year = year_of c.year c.day a.day.0 a.day.1 ∙ ap (λ (n : ℕ). 4 * n / 1461) days ∙ sym (year_of d.year d.day b.day.0 b.day.1) in
    let day : c.day ≡ d.day = omega (arith, days, year, a.day.0, b.day.0) in
    let second : c.second ≡ d.second = a.second ∙ sym b.second in
    same_coded c d second minute hour day year (a.control ∙ sym b.control) (omega (arith, a.sbs, b.sbs, hour, minute, second))
