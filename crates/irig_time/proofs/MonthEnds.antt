-- The test of a month's end agrees with the calendar.
use Rattle.std.proofs.Common.{◌≡◌, ◌↔◌, ◌==◌, ℕ, zero, suc, ◌+◌, ◌-◌, ◌*◌, ◌/◌, ◌%◌, ◌<◌, ◌≤◌, Bool, true, false, cond, List, [], ◌∷◌, length, get_or, sym, ap, ◌∙◌, refl, arith, inl, inr, pos, nat_lt, eqb-true}
use Rattle.std.specs.Prelude.{nat_le, ◌&&◌}
use Rattle.std.specs.List.{list_all, range_with_len}
use Rattle.std.proofs.lemmas.Bool.{or_cases, and_parts, and_from, cases_lt, ltb-true, leb-true, le-leb}
use Rattle.jiff_core.proofs.SignedLemmas.{signed_arith}
use Rattle.jiff_core.specs.declared.civil.date.Date.{Date}
use Rattle.jiff_core.specs.Calendar.{days_from_civil, IsCivilDate}
use Rattle.jiff_core.specs.Date.{epoch_day}
use Rattle.jiff_core.proofs.CalendarLemmas.{days_in_month_bounds, days_from_civil-day_count, day_count-day_of_year, days_of_months_table}
use Rattle.jiff_core.proofs.MarchLemmas.{leap_day, days_in_year-leap_day}
use Rattle.jiff_core.proofs.DateLemmas.{civil}
use Rattle.irig_time.specs.Days.{IsDateOf, IsMonthEnd, year_length, four_years, ends_one, is_month_end}
use Rattle.irig_time.proofs.Dates.{date_of_parts, month_end_is, year_day, year_length_is, parts_of_date}

-- ---- the months of four years

-- the days of the first so many months
days_in : ℕ → List ℕ → ℕ
days_in zero months = 0
days_in (suc n) [] = 0
days_in (suc n) (month ∷ months) = month + days_in n months

-- what ends one of some months ends the first so many
ended : (day : ℕ) (months : List ℕ) → ends_one day months ≡ true → (n : ℕ) × (n < length months) × (day ≡ days_in (suc n) months)
unfolding days_in
ended day [] h = absurd cc
ended day (month ∷ months) h =
    elim (or_cases (day == month) _ h) [
      | inl first ↦ let is = eqb-true day month first in (0, omega arith, omega (arith, is))
      | inr later ↦
          let both = and_parts (nat_lt month day) (ends_one (day - month) months) later in
          let rest = ended (day - month) months both.1 in
          let more = ltb-true month day both.0 in
          (suc rest.0, omega (arith, rest.1), omega (arith, rest.2, more))
    ]

all_here : (p : ℕ → Bool) (a n k : ℕ) → list_all p (range_with_len a n) ≡ true → a ≤ k → k < a + n → p k ≡ true
all_here p a zero k h low high = absurd (omega (arith, low, high))
all_here p a (suc n) k h low high =
    let both = and_parts (p a) (list_all p (range_with_len (a + 1) n)) h in
    elim (cases_lt a k) [
      | inl later ↦ all_here p (a + 1) n k both.1 (omega (arith, later)) (omega (arith, high))
      | inr here ↦ let is : k ≡ a = omega (arith, here, low) in ap p is ∙ both.0
    ]

-- the days of a year before one of its months, from 0, if its February has 28 and so many more
before : ℕ → ℕ → ℕ
before more month =
    get_or (0 ∷ 31 ∷ 59 ∷ 90 ∷ 120 ∷ 151 ∷ 181 ∷ 212 ∷ 243 ∷ 273 ∷ 304 ∷ 334 ∷ []) month 0 + cond (nat_lt 1 month) more 0

-- by how many days such a February is longer, in a year from 2000
more_in : ℕ → ℕ
more_in yy = cond (yy % 4 == 0) 1 0

-- each month's first day, by its year and its place in it
abbrev is_first_day : ℕ → Bool
is_first_day k = days_in k four_years == (365 * (k / 12) + (k / 12 + 3) / 4 + before (more_in (k / 12)) (k % 12))

known_first_days : list_all is_first_day (range_with_len 0 49) ≡ true
unfolding four_years days_in before more_in
known_first_days = refl

known_ends : list_all (λ k. ends_one (days_in k four_years) four_years) (range_with_len 1 48) ≡ true
unfolding four_years days_in
known_ends = refl

first_day : (k : ℕ) → k ≤ 48 → days_in k four_years ≡ 365 * (k / 12) + (k / 12 + 3) / 4 + before (more_in (k / 12)) (k % 12)
first_day k h = eqb-true (days_in k four_years) _ (all_here is_first_day 0 49 k known_first_days (omega arith) (omega (arith, h)))

-- the first ends within four years, and after their first day
known_bounds : list_all (λ k. nat_lt 0 (days_in k four_years) && nat_lt (days_in k four_years) 1461) (range_with_len 1 47) ≡ true
unfolding four_years days_in
known_bounds = refl

bounds : (k : ℕ) → 1 ≤ k → k ≤ 47 → (1 ≤ days_in k four_years) × (days_in k four_years < 1461)
bounds k low high =
    let both = and_parts (nat_lt 0 (days_in k four_years)) _ (all_here (λ k. nat_lt 0 (days_in k four_years) && nat_lt (days_in k four_years) 1461) 1 47 k known_bounds low (omega (arith, high))) in
    (omega (arith, ltb-true 0 (days_in k four_years) both.0), ltb-true (days_in k four_years) 1461 both.1)

-- ---- the calendar

-- the first day of a month, counted from 2000-01-01
abbrev month_start : ℕ → ℕ → ℕ
month_start yy month = 365 * yy + (yy + 3) / 4 + before (more_in yy) month

leap_is : (yy : ℕ) → yy < 100 → leap_day (pos (2000 + yy)) ≡ more_in yy
unfolding more_in
leap_is yy h =
    let both : 365 + leap_day (pos (2000 + yy)) ≡ year_length yy = sym (days_in_year-leap_day (pos (2000 + yy))) ∙ year_length_is yy h in
    by (yy % 4 == 0) (leap_day (pos (2000 + yy))) both
  where
    by : (b : Bool) (n : ℕ) → 365 + n ≡ cond b 366 365 → n ≡ cond b 1 0
    by true n e = omega (arith, e)
    by false n e = omega (arith, e)

month_day : (yy m : ℕ) → yy < 100 → 1 ≤ m → m ≤ 12 → days_from_civil (pos (2000 + yy)) m 1 ≡ pos (10957 + month_start yy (m - 1))
unfolding before
month_day yy m year low high =
    let here = days_from_civil-day_count (pos (2000 + yy)) m 1 in
    let first = days_from_civil-day_count (pos (2000 + yy)) 1 1 in
    let months = days_of_months_table (pos (2000 + yy)) (m - 1) (omega (arith, low, high)) ∙ ap (λ x. get_or (0 ∷ 31 ∷ 59 ∷ 90 ∷ 120 ∷ 151 ∷ 181 ∷ 212 ∷ 243 ∷ 273 ∷ 304 ∷ 334 ∷ []) (m - 1) 0 + cond (nat_lt 1 (m - 1)) x 0) (leap_is yy year) in
    omega (arith, signed_arith, here, first, year_day yy (omega (arith, year)), months, day_count-day_of_year (pos (2000 + yy)) m 1 (omega arith))

-- four years later each month begins 1461 days later
cycle : (q k : ℕ) → k ≤ 48 → month_start (4 * q + k / 12) (k % 12) ≡ 1461 * q + days_in k four_years
unfolding more_in
cycle q k h =
    let year : (4 * q + k / 12) % 4 ≡ (k / 12) % 4 = omega arith in
    let same : before (cond ((4 * q + k / 12) % 4 == 0) 1 0) (k % 12) ≡ before (cond ((k / 12) % 4 == 0) 1 0) (k % 12) = ap (λ n. before (cond (n == 0) 1 0) (k % 12)) year in
    omega (arith, first_day k h, same)

-- the day before a month's first passes the test
month_end_before : (day yy month : ℕ) → day ≤ 36523 → month < 12 → day + 1 ≡ month_start yy month → is_month_end day ≡ true
unfolding is_month_end days_in four_years
month_end_before day yy month served low is =
    and_from (nat_le day 36523) _ (le-leb day 36523 served)
    (elim (cases_lt 0 k) [
      | inl later ↦
          let near = bounds k (omega (arith, later)) (omega (arith, low)) in
          at k (omega (arith, later)) (omega (arith, low)) (omega (arith, cycled, near))
      | inr first ↦
          let none : k ≡ 0 = omega (arith, first) in
          let start : days_in k four_years ≡ 0 = ap (λ n. days_in n four_years) none in
          at 48 (omega arith) (omega arith) (omega (arith, cycled, start))
    ])
  where
    k : ℕ
    k = 12 * (yy % 4) + month

    cycled : day + 1 ≡ 1461 * (yy / 4) + days_in k four_years
    cycled =
        let year : 4 * (yy / 4) + k / 12 ≡ yy = omega (arith, low) in
        let place : k % 12 ≡ month = omega (arith, low) in
        let start : month_start (4 * (yy / 4) + k / 12) (k % 12) ≡ month_start yy month = ap (λ y. month_start y (k % 12)) year ∙ ap (month_start yy) place in
        omega (arith, is, start, cycle (yy / 4) k (omega (arith, low)))

    at : (n : ℕ) → 1 ≤ n → n ≤ 48 → day % 1461 + 1 ≡ days_in n four_years → ends_one (day % 1461 + 1) four_years ≡ true
    at n low high e = ap (λ d. ends_one d four_years) e ∙ all_here (λ k. ends_one (days_in k four_years) four_years) 1 48 n known_ends low (omega (arith, high))

-- a month of a year before 2100 begins on the day after one that passes the test
record HasMonthAfter (day : ℕ) : Type 0 where
  year : ℕ
  month : ℕ
  served : day ≤ 36523
  date : IsDateOf (day + 1) (pos year) month 1

month_at : (day n : ℕ) → day ≤ 36523 → n < 48 → day % 1461 + 1 ≡ days_in (suc n) four_years → HasMonthAfter day
unfolding four_years days_in
month_at day n served low is = record { year = 2000 + yy; month = month; served = served; date = (date, month_day yy month early (omega arith) (omega arith) ∙ ap (λ n. pos n) (omega (arith, start, is, place))) }
  where
    k : ℕ
    k = suc n

    yy : ℕ
    yy = 4 * (day / 1461) + k / 12

    month : ℕ
    month = k % 12 + 1

    early : yy < 100
    early = elim (cases_lt k 48) [
      | inl lt ↦ omega (arith, served, lt)
      | inr ge ↦
          let last : n ≡ 47 = omega (arith, ge, low) in
          let whole : day % 1461 + 1 ≡ 1461 = is ∙ ap (λ n. days_in (suc n) four_years) last in
          omega (arith, served, low, whole)
    ]

    place : month_start yy (month - 1) ≡ month_start yy (k % 12)
    place = ap (month_start yy) (omega arith)

    start : month_start yy (k % 12) ≡ 1461 * (day / 1461) + days_in k four_years
    start = cycle (day / 1461) k (omega (arith, low))

    date : IsCivilDate (pos (2000 + yy)) month 1
    date = let long = days_in_month_bounds (pos (2000 + yy)) month in ((omega (arith, signed_arith, early), omega (arith, signed_arith, early)), (omega arith, omega arith), (omega arith, omega (arith, long)))

month_after : (day : ℕ) → is_month_end day ≡ true → HasMonthAfter day
unfolding is_month_end four_years
month_after day h =
    let both = and_parts (nat_le day 36523) (ends_one (day % 1461 + 1) four_years) h in
    let end = ended (day % 1461 + 1) four_years both.1 in
    month_at day end.0 (leb-true day 36523 both.0) end.1 end.2

-- a day that passes the test is a month's last
pub month_end_from_test : (day : ℕ) → is_month_end day ≡ true → IsMonthEnd day
month_end_from_test day h = let month = month_after day h in (pos month.year, month.month, month.date)

-- and one that is served
pub month_end_served : (day : ℕ) → is_month_end day ≡ true → day ≤ 36523
month_end_served day h = (month_after day h).served

pub month_end_test : (day : ℕ) → day ≤ 36523 → (a : Date) → epoch_day a ≡ pos (day + 1 + 10957) → (is_month_end day ≡ true) ↔ IsMonthEnd day
month_end_test day low a e = (month_end_from_test day, back)
  where
    back : IsMonthEnd day → is_month_end day ≡ true
    back h =
        let one : a.day ≡ 1 = (month_end_is a day e).1 h in
        let f = parts_of_date a (day + 1) (omega (arith, low)) e in
        let yy = f.0 - 2000 in
        let year : f.0 ≡ 2000 + yy = omega (arith, f.4) in
        let first : days_from_civil (pos (2000 + yy)) a.month 1 ≡ pos (day + 1 + 10957) = ap (λ y. days_from_civil (pos y) a.month 1) (sym year) ∙ ap (λ (d : ℕ). days_from_civil (pos f.0) a.month d) (sym one) ∙ f.3.1 in
        let month = (civil a).1 in
        let start = month_day yy a.month (omega (arith, f.2)) (omega (arith, month)) (omega (arith, month)) in
        month_end_before day yy (a.month - 1) low (omega (arith, month)) (omega (arith, signed_arith, start, first))

-- a month's end needs no date to be told by the test
pub month_end_is_test : (day : ℕ) → day ≤ 36523 → IsMonthEnd day → is_month_end day ≡ true
unfolding date_of_parts
month_end_is_test day low h = (month_end_test day low (date_of_parts h.0 h.1 1 h.2.0) h.2.1).1 h
