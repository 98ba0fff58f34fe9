-- The texts as functions are the texts as relations.
use Rattle.std.proofs.Common.{◌≡◌, ◌↔◌, ℕ, zero, suc, ◌+◌, ◌/◌, ◌%◌, ◌<◌, ◌≤◌, Bool, true, false, List, ◌++◌, map, Option, Some, pos, refl, sym, ap, subst, ◌∙◌, arith, inl, inr, if◌then◌else◌}
use Rattle.std.specs.Prelude.{codes}
use Rattle.std.specs.List.{find, flat_map, range_with_len}
use Rattle.std.specs.Str.{bytes_eq}
use Rattle.std.proofs.lemmas.Bool.Decides.{Decides-int_eq}
use Rattle.std.proofs.lemmas.Slice.Eq.{bytes_eq-Decides}
use Rattle.jiff_core.proofs.SignedLemmas.{signed_arith}
use Rattle.jiff_core.specs.Calendar.{days_from_civil, days_in_month, IsCivilDate}
use Rattle.jiff_core.proofs.CalendarLemmas.{days_in_month_bounds}
use Rattle.jiff_core.proofs.DateLemmas.{days_from_civil-day, days_from_civil-next_month, days_from_civil-next_year}
use Rattle.irig_time.proofs.StandardFacts.{known_dates, month_end_6209}
use Rattle.irig_time.proofs.MonthEnds.{month_end_from_test, month_end_is_test}
use Rattle.irig_time.specs.declared.second.UtcSecond.{UtcSecond}
use Rattle.irig_time.specs.Days.{IsDateOf, is_month_end}
use Rattle.irig_time.specs.Seconds.{IsValid, minute_of, second_of}
use Rattle.irig_time.specs.Texts.{date_text, time_text, IsDayText, IsText}
use Rattle.irig_time.specs.TextValues.{Ymd, dates, is_date_of, day_text, second_text, seconds_of, valid_seconds, day_read, second_read}
use Rattle.irig_time.proofs.Dates.{date_of_parts, parts_of_date}
use Rattle.irig_time.proofs.TextLaws.{one_date}
use Rattle.irig_time.proofs.FirstFound.{IsIn, same_or_above, in_map, from_map, in_flat_map, from_flat_map, in_range, from_range, first_is}

abbrev in_month : ℕ → ℕ → List Ymd
in_month year month = map (λ day. (year, month, day)) (range_with_len 1 (days_in_month (pos year) month))

abbrev in_year : ℕ → List Ymd
in_year year = flat_map (in_month year) (range_with_len 1 12)

-- the list has the dates of its years
date_in : (first count y m d : ℕ) → first ≤ y → y < first + count → IsCivilDate (pos y) m d → IsIn (y, m, d) (flat_map in_year (range_with_len first count))
date_in first count y m d low high h =
    in_flat_map in_year y _ (range_with_len first count) (in_range y first count low high)
    (in_flat_map (in_month y) m _ (range_with_len 1 12) (in_range m 1 12 (omega (arith, h.1)) (omega (arith, h.1)))
    (in_map (λ day. (y, m, day)) d (range_with_len 1 (days_in_month (pos y) m)) (in_range d 1 (days_in_month (pos y) m) (omega (arith, h.2)) (omega (arith, h.2)))))

from_dates : (first count : ℕ) (x : Ymd) → IsIn x (flat_map in_year (range_with_len first count)) → first + count ≤ 9999 → IsCivilDate (pos x.0) x.1 x.2
from_dates first count x h most =
    let y = from_flat_map in_year x (range_with_len first count) h in
    let m = from_flat_map (in_month y.0) x (range_with_len 1 12) y.2 in
    let d = from_map (λ day. (y.0, m.0, day)) x (range_with_len 1 (days_in_month (pos y.0) m.0)) m.2 in
    let in_years = from_range y.0 first count y.1 in
    let in_months = from_range m.0 1 12 m.1 in
    let in_days = from_range d.0 1 (days_in_month (pos y.0) m.0) d.1 in
    rw d.2 ((omega (arith, signed_arith, in_years), omega (arith, signed_arith, in_years, most)), (in_months.0, omega (arith, in_months)), (in_days.0, omega (arith, in_days)))

-- ---- each day has a date

record HasDate (day : ℕ) : Type 0 where
  pub year : ℕ
  pub month : ℕ
  pub day_of_month : ℕ
  pub is : IsDateOf day (pos year) month day_of_month

next_in_month : (day y m d : ℕ) → IsDateOf day (pos y) m d → d < days_in_month (pos y) m → HasDate (day + 1)
next_in_month day y m d h lt =
    let step = days_from_civil-day (pos y) m (d + 1) d (omega arith) (omega (arith, h.0.2)) in
    record { year = y; month = m; day_of_month = d + 1; is = ((h.0.0, h.0.1, (omega arith, omega (arith, lt))), omega (arith, signed_arith, step, h.1)) }

next_month : (day y m d : ℕ) → IsDateOf day (pos y) m d → d ≡ days_in_month (pos y) m → m < 12 → HasDate (day + 1)
next_month day y m d h last lt =
    let step = days_from_civil-next_month (pos y) m d (omega (arith, h.0.1)) last in
    let long = days_in_month_bounds (pos y) (m + 1) in
    record { year = y; month = m + 1; day_of_month = 1; is = ((h.0.0, (omega arith, omega (arith, lt)), (omega arith, omega (arith, long))), omega (arith, signed_arith, step, h.1)) }

next_year : (day y m d : ℕ) → IsDateOf day (pos y) m d → d ≡ days_in_month (pos y) m → m ≡ 12 → y < 2100 → HasDate (day + 1)
next_year day y m d h last end low =
    let step = days_from_civil-next_year (pos y) (pos (y + 1)) (omega (arith, signed_arith)) (omega (arith, signed_arith)) in
    let at_end : d ≡ 31 = last ∙ ap (λ k. days_in_month (pos y) k) end in
    let here : days_from_civil (pos y) 12 31 ≡ pos (day + 10957) = rw (← end, ← at_end) h.1 in
    record { year = y + 1; month = 1; day_of_month = 1; is = (((omega (arith, signed_arith), omega (arith, signed_arith, low)), (omega arith, omega arith), (omega arith, omega arith)), omega (arith, signed_arith, step, here)) }

year_below : (day y m d : ℕ) → day ≤ 36524 → IsDateOf day (pos y) m d → (2000 ≤ y) × (y < 2100)
unfolding date_of_parts
year_below day y m d most h =
    let f = parts_of_date (date_of_parts (pos y) m d h.0) day most h.1 in
    (omega (arith, signed_arith, f.1, f.4), omega (arith, signed_arith, f.1, f.2))

next_date : (day : ℕ) → day ≤ 36524 → HasDate day → HasDate (day + 1)
next_date day most h =
    let d = h.is.0 in
    elim (same_or_above (days_in_month (pos h.year) h.month) h.day_of_month d.2.1) [
      | inr lt ↦ next_in_month day h.year h.month h.day_of_month h.is lt
      | inl last ↦ elim (same_or_above 12 h.month d.1.1) [
        | inr lt ↦ next_month day h.year h.month h.day_of_month h.is (sym last) lt
        | inl end ↦ next_year day h.year h.month h.day_of_month h.is (sym last) (sym end) (year_below day h.year h.month h.day_of_month most h.is).1
      ]
    ]

has_date : (day : ℕ) → day ≤ 36524 → HasDate day
has_date zero most = record { year = 2000; month = 1; day_of_month = 1; is = (((omega (arith, signed_arith), omega (arith, signed_arith)), (omega arith, omega arith), (omega arith, omega arith)), known_dates.0) }
has_date (suc day) most =
    let next : day + 1 ≡ suc day = omega arith in
    subst HasDate next (next_date day (omega arith) (has_date day (omega arith)))

-- ---- the texts

found_date : (day y m d : ℕ) → day ≤ 36524 → IsDateOf day (pos y) m d → find (is_date_of day) dates ≡ Some (y, m, d)
unfolding dates
found_date day y m d most h =
    let years = year_below day y m d most h in
    sym (first_is (is_date_of day) (flat_map in_year (range_with_len 2000 100)) (Some (y, m, d)) (λ x. (
      λ e. let same : (y, m, d) ≡ x = cc in subst (λ (k : Ymd). (is_date_of day k ≡ true) × IsIn k (flat_map in_year (range_with_len 2000 100))) same
          ((Decides-int_eq (days_from_civil (pos y) m d) (pos (day + 10957))).1 h.1, date_in 2000 100 y m d years.0 (omega (arith, years)) h.0),
      λ k. let date : IsDateOf day (pos x.0) x.1 x.2 = (from_dates 2000 100 x k.1 (omega arith), (Decides-int_eq (days_from_civil (pos x.0) x.1 x.2) (pos (day + 10957))).0 k.0) in
          let same = one_date day y m d x.0 x.1 x.2 h date in
          rw (same.0, same.1, same.2) refl,
    )))

-- a day's text is that of its date
pub day_text_is : (day : ℕ) (bytes : List ℕ) → day ≤ 36524 → IsDayText day bytes → bytes ≡ day_text day
unfolding day_text
day_text_is day bytes most h = h.text ∙ rw (found_date day h.year h.month h.day_of_month most h.date) refl

pub day_text_spells : (day : ℕ) → day ≤ 36524 → IsDayText day (day_text day)
day_text_spells day most =
    let h = has_date day most in
    let text : IsDayText day (date_text h.year h.month h.day_of_month) = record { year = h.year; month = h.month; day_of_month = h.day_of_month; date = h.is; text = refl } in
    subst (IsDayText day) (day_text_is day _ most text) text

-- a second's text is that of its day and its time
pub second_text_is : (u : UtcSecond) (bytes : List ℕ) → IsValid u → IsText u bytes → bytes ≡ second_text u
unfolding second_text
second_text_is u bytes valid h =
    let day : IsDayText u.day (date_text h.year h.month h.day_of_month) = record { year = h.year; month = h.month; day_of_month = h.day_of_month; date = h.date; text = refl } in
    h.text ∙ ap (λ front. front ++ time_text (minute_of u / 60) (minute_of u % 60) (second_of u)) (day_text_is u.day _ (omega (arith, valid.day)) day)

second_text_spells : (u : UtcSecond) → IsValid u → IsText u (second_text u)
unfolding second_text
second_text_spells u valid =
    let h = day_text_spells u.day (omega (arith, valid.day)) in
    record {
      year = h.year;
      month = h.month;
      day_of_month = h.day_of_month;
      date = h.date;
      text = ap (λ front. front ++ time_text (minute_of u / 60) (minute_of u % 60) (second_of u)) h.text;
    }

-- ---- what is read

-- what is read of exactly the texts of days is what a search finds
pub day_read_is : (text : List ℕ) (o : Option ℕ) → ((d : ℕ) → (o ≡ Some d) ↔ ((d ≤ 36524) × IsDayText d text)) → o ≡ day_read text
unfolding day_read
day_read_is text o h =
    first_is (λ day. bytes_eq (day_text day) text) (range_with_len 0 36525) o (λ d. (
      λ e. let k = (h d).0 e in ((bytes_eq-Decides (day_text d) text).1 (sym (day_text_is d text k.0 k.1)), in_range d 0 36525 (omega arith) (omega (arith, k.0))),
      λ k. let most : d ≤ 36524 = omega (arith, from_range d 0 36525 k.1) in
          (h d).1 (most, subst (IsDayText d) ((bytes_eq-Decides (day_text d) text).0 k.0) (day_text_spells d most)),
    ))

below_end : (u : UtcSecond) → IsValid u → u.sod < 0 + (if is_month_end u.day then 86401 else 86400)
below_end u valid = elim valid.sod [
  | inl k ↦ below_either (is_month_end u.day) k
  | inr k ↦ rw (month_end_is_test u.day valid.day.1 k.1) (omega (arith, k.0))
]
  where
    below_either : (b : Bool) → u.sod ≤ 86399 → u.sod < 0 + (if b then 86401 else 86400)
    below_either true k = omega (arith, k)
    below_either false k = omega (arith, k)

second_in : (first count : ℕ) (u : UtcSecond) → IsValid u → first ≤ u.day → u.day < first + count → IsIn u (flat_map seconds_of (range_with_len first count))
second_in first count u valid low high =
    in_flat_map seconds_of u.day u (range_with_len first count) (in_range u.day first count low high)
    (in_map (λ sod. record { day = u.day; sod = sod }) u.sod (range_with_len 0 (if is_month_end u.day then 86401 else 86400))
    (in_range u.sod 0 (if is_month_end u.day then 86401 else 86400) (omega arith) (below_end u valid)))

valid_by : (day sod : ℕ) (b : Bool) → is_month_end day ≡ b → 1 ≤ day → day ≤ 36523 → sod < 0 + (if b then 86401 else 86400) → IsValid (record { day = day; sod = sod })
valid_by day sod false e low high lt = record { day = (low, high); sod = inl (omega (arith, lt)) }
valid_by day sod true e low high lt = record { day = (low, high); sod = elim (same_or_above 86400 sod (omega (arith, lt))) [ inl last ↦ inr (sym last, month_end_from_test day e) | inr k ↦ inl (omega (arith, k)) ] }

from_seconds : (first count : ℕ) (u : UtcSecond) → 1 ≤ first → first + count ≤ 36524 → IsIn u (flat_map seconds_of (range_with_len first count)) → IsValid u
from_seconds first count u low most h =
    let day = from_flat_map seconds_of u (range_with_len first count) h in
    let sods = range_with_len 0 (if is_month_end day.0 then 86401 else 86400) in
    let sod = from_map (λ sod. record { day = day.0; sod = sod }) u sods day.2 in
    let in_days = from_range day.0 first count day.1 in
    let in_day = from_range sod.0 0 (if is_month_end day.0 then 86401 else 86400) sod.1 in
    subst IsValid (sym sod.2) (valid_by day.0 sod.0 (is_month_end day.0) refl (omega (arith, in_days)) (omega (arith, in_days)) in_day.1)

-- what is read of exactly the texts of valid seconds is what a search finds
pub second_read_is : (text : List ℕ) (o : Option UtcSecond) → ((u : UtcSecond) → (o ≡ Some u) ↔ (IsValid u × IsText u text)) → o ≡ second_read text
unfolding second_read valid_seconds
second_read_is text o h =
    first_is (λ u. bytes_eq (second_text u) text) (flat_map seconds_of (range_with_len 1 36523)) o (λ u. (
      λ e. let k = (h u).0 e in
          ((bytes_eq-Decides (second_text u) text).1 (sym (second_text_is u text k.0 k.1)), second_in 1 36523 u k.0 k.0.day.0 (omega (arith, k.0.day))),
      λ k. let valid : IsValid u = from_seconds 1 36523 u (omega arith) (omega arith) k.1 in
          (h u).1 (valid, subst (IsText u) ((bytes_eq-Decides (second_text u) text).0 k.0) (second_text_spells u valid)),
    ))

-- 2016-12-31T23:59:60Z is the text of day 6209, second 86400, and is read as that
abbrev inserted : UtcSecond
inserted = record { day = 6209; sod = 86400 }

inserted_valid : IsValid inserted
inserted_valid = record { day = (omega arith, omega arith); sod = inr (refl, month_end_6209) }

inserted_text : IsText inserted (codes "2016-12-31T23:59:60Z")
inserted_text = record { year = 2016; month = 12; day_of_month = 31; date = (((omega arith, omega arith), (omega arith, omega arith), (omega arith, omega arith)), known_dates.1); text = refl }

pub known_second_text : codes "2016-12-31T23:59:60Z" ≡ second_text inserted
known_second_text = second_text_is inserted (codes "2016-12-31T23:59:60Z") inserted_valid inserted_text
