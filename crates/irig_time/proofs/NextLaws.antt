-- The step by what was heard of a leap is the step of the timeline.
use Rattle.std.proofs.Common.{◌≡◌, ℕ, ◌+◌, ◌-◌, ◌<◌, ◌≤◌, ◌⊎◌, true, false, List, Option, Some, None, refl, ap, ◌∙◌, arith, inl, inr, pos}
use Rattle.std.proofs.lemmas.Bool.{cases_Bool, cases_lt, lt-ltb, le-ltb, eq-eqb, ne_eqb, false_from_ne_true, ltb-false}
use Rattle.jiff_core.proofs.SignedLemmas.{signed_arith}
use Rattle.jiff_core.specs.Calendar.{days_from_civil, IsCivilDate}
use Rattle.jiff_core.proofs.CalendarLemmas.{days_from_civil-day_count, day_count-next_year, day_count-last_of_year}
use Rattle.irig_time.proofs.Dates.{date_of_parts, month_end_is, year_day}
use Rattle.irig_time.proofs.MonthEnds.{month_end_test, month_end_from_test}
use Rattle.irig_time.specs.declared.second.UtcSecond.{UtcSecond}
use Rattle.irig_time.specs.declared.mark.Mark.{Mark}
use Rattle.irig_time.specs.declared.mark.Mark.TheVariants.{Unspoken}
use Rattle.irig_time.specs.declared.leap.Leap.{Leap}
use Rattle.irig_time.specs.declared.leap.Leap.TheVariants.{Insert, Delete}
use Rattle.irig_time.specs.Days.{is_month_end}
use Rattle.irig_time.specs.Seconds.{IsValid}
use Rattle.irig_time.specs.Next.{plain, next_day_after, next_at_month_end, next_of}
use Rattle.irig_time.specs.Timelines.{TimelineValue, leap_of, length_by, mark_by, day_length, seconds_in, IsSecond}
use Rattle.irig_time.specs.TimelineFaults.{first_leap_fault, start_fault, IsTimeline}
use Rattle.irig_time.proofs.TimeLaws.{length_bounds, neither, unless, no_leap, one_second, in_order, some_same, same_day, new_day}

abbrev after_last : TimelineValue → UtcSecond → Option UtcSecond
after_last t u = next_day_after (day_length t.leaps u.day - 1) u

none_here : (t : TimelineValue) (u : UtcSecond) → IsTimeline t → is_month_end u.day ≡ false → leap_of t.leaps u.day ≡ None
none_here t u sound e = no_leap _ t.leaps u.day (neither (first_leap_fault _ t.leaps) (start_fault t.leaps t.start) sound.sound).0 e

by_leap : (u : UtcSecond) (o : Option Leap) → next_at_month_end u (mark_by o) ≡ next_day_after (length_by o - 1) u
by_leap u None = refl
by_leap u (Some Insert) = refl
by_leap u (Some Delete) = refl

heard_step : (t : TimelineValue) (u : UtcSecond) → IsTimeline t → next_of u (mark_by (leap_of t.leaps u.day)) ≡ after_last t u
heard_step t u sound =
    elim (cases_Bool (is_month_end u.day)) [
      | inl e ↦ rw e (by_leap u (leap_of t.leaps u.day))
      | inr e ↦ rw (e, none_here t u sound e) refl
    ]

unspoken_step : (t : TimelineValue) (u : UtcSecond) → IsTimeline t → ¬ ((is_month_end u.day ≡ true) × ((u.sod ≡ 86398) ⊎ (u.sod ≡ 86399))) → next_of u Unspoken ≡ after_last t u
unspoken_step t u sound clear =
    let long = length_bounds (leap_of t.leaps u.day) in
    elim (cases_Bool (is_month_end u.day)) [
      | inr e ↦ rw (e, none_here t u sound e) refl
      | inl e ↦ elim (cases_lt u.sod 86398) [
        | inl lt ↦ rw (e, lt-ltb u.sod 86398 lt, lt-ltb u.sod (day_length t.leaps u.day - 1) (omega (arith, long))) refl
        | inr ge ↦
            let one : ¬ (u.sod ≡ 86398) = λ s. clear (e, inl s) in
            let two : ¬ (u.sod ≡ 86399) = λ s. clear (e, inr s) in
            let late : 86400 ≤ u.sod = omega (arith, one, two) in
            rw (e, le-ltb u.sod 86398 ge, le-ltb u.sod 86400 late, le-ltb u.sod (day_length t.leaps u.day - 1) (omega (arith, long))) refl
      ]
    ]

-- if a second follows the last one of a day, that day isn't the last
not_last : (t : TimelineValue) (n : ℕ) (u v : UtcSecond) → IsSecond t n u → IsSecond t (n + 1) v → day_length t.leaps u.day ≤ u.sod + 1 → u.day < 36523
not_last t n u v a b late =
    elim (cases_lt u.day 36523) [
      | inl lt ↦ lt
      | inr ge ↦
          let back : ¬ (v.day < u.day) = λ lt. omega (arith, in_order t (n + 1) n v u b a lt) in
          let day : v.day ≡ u.day = omega (arith, back, a.to, b.to) in
          let sums : seconds_in t.leaps t.start.day (v.day - t.start.day) ≡ seconds_in t.leaps t.start.day (u.day - t.start.day) = ap (λ (d : ℕ). seconds_in t.leaps t.start.day (d - t.start.day)) day in
          let lengths : day_length t.leaps v.day ≡ day_length t.leaps u.day = ap (λ (d : ℕ). day_length t.leaps d) day in
          absurd (omega (arith, sums, lengths, a.sum, b.sum, b.sod, late))
    ]

step_is : (t : TimelineValue) (n : ℕ) (u v : UtcSecond) → IsSecond t n u → IsSecond t (n + 1) v → after_last t u ≡ Some v
step_is t n u v a b =
    let long = length_bounds (leap_of t.leaps u.day) in
    elim (cases_lt (u.sod + 1) (day_length t.leaps u.day)) [
      | inl lt ↦ rw (lt-ltb u.sod (day_length t.leaps u.day - 1) (omega arith)) (some_same (plain u) v (one_second t (n + 1) (plain u) v (same_day t n u a lt) b))
      | inr ge ↦
          let low = not_last t n u v a b ge in
          let next : UtcSecond = record { day = u.day + 1; sod = 0 } in
          rw (le-ltb u.sod (day_length t.leaps u.day - 1) (omega arith), ne_eqb u.day 36523 (λ e. omega arith)) (some_same next v (one_second t (n + 1) next v (new_day t n u a ge low) b))
    ]

pub heard : (t : TimelineValue) (n : ℕ) (u v : UtcSecond) → IsTimeline t → IsSecond t n u → IsSecond t (n + 1) v → next_of u (mark_by (leap_of t.leaps u.day)) ≡ Some v
heard t n u v sound a b = heard_step t u sound ∙ step_is t n u v a b

pub unspoken : (t : TimelineValue) (n : ℕ) (u v : UtcSecond) → IsTimeline t → IsSecond t n u → IsSecond t (n + 1) v → ¬ ((is_month_end u.day ≡ true) × ((u.sod ≡ 86398) ⊎ (u.sod ≡ 86399))) → next_of u Unspoken ≡ Some v
unspoken t n u v sound a b clear = unspoken_step t u sound clear ∙ step_is t n u v a b

last_date : IsCivilDate (pos 2099) 12 31
last_date = ((omega (arith, signed_arith), omega (arith, signed_arith)), (omega arith, omega arith), (omega arith, omega arith))

day_of_last : days_from_civil (pos 2099) 12 31 ≡ pos (36523 + 1 + 10957)
day_of_last =
    let year = year_day 100 (omega arith) in
    let next = day_count-next_year (pos 2099) (pos 2100) (omega (arith, signed_arith)) (omega (arith, signed_arith)) in
    omega (arith, signed_arith, days_from_civil-day_count (pos 2099) 12 31, days_from_civil-day_count (pos 2100) 1 1, year, next, day_count-last_of_year (pos 2099))

-- the last day served is no month's last
pub last_day : is_month_end 36523 ≡ false
unfolding date_of_parts
last_day =
    let a = date_of_parts (pos 2099) 12 31 last_date in
    false_from_ne_true (is_month_end 36523) (λ h.
    let one : 31 ≡ 1 = (month_end_is a 36523 day_of_last).1 ((month_end_test 36523 (omega arith) a day_of_last).0 h) in
    omega (arith, one))

pub end : (t : TimelineValue) (n : ℕ) (u : UtcSecond) (mark : Mark) → IsTimeline t → IsSecond t n u → ((v : UtcSecond) → ¬ IsSecond t (n + 1) v) → next_of u mark ≡ None
end t n u mark sound a none =
    let late : ¬ (u.sod + 1 < day_length t.leaps u.day) = λ lt. none (plain u) (same_day t n u a lt) in
    let last : ¬ (u.day < 36523) = λ lt. none (record { day = u.day + 1; sod = 0 }) (new_day t n u a (omega (arith, late)) lt) in
    let day : u.day ≡ 36523 = omega (arith, last, a.to) in
    let not_end : is_month_end u.day ≡ false = ap is_month_end day ∙ last_day in
    let length_is : day_length t.leaps u.day ≡ 86400 = ap length_by (none_here t u sound not_end) in
    rw (not_end, le-ltb u.sod 86399 (omega (arith, late, length_is)), eq-eqb u.day 36523 day) refl

-- a second of a timeline is a valid one
start_served : (leaps : List (ℕ × Leap)) (u : UtcSecond) → start_fault leaps u ≡ None → 1 ≤ u.day
start_served leaps u h = ltb-false u.day 1 (unless _ _ _ h).0

pub valid_second : (t : TimelineValue) (n : ℕ) (u : UtcSecond) → IsTimeline t → IsSecond t n u → IsValid u
valid_second t n u sound a =
    let start = start_served t.leaps t.start (neither (first_leap_fault _ t.leaps) (start_fault t.leaps t.start) sound.sound).1 in
    let long = length_bounds (leap_of t.leaps u.day) in
    record {
      day = (omega (arith, start, a.from), a.to);
      sod = elim (cases_lt u.sod 86400) [
        | inl lt ↦ inl (omega arith)
        | inr ge ↦
            let length_is : day_length t.leaps u.day ≡ 86401 = omega (arith, long, a.sod) in
            let end : is_month_end u.day ≡ true = elim (cases_Bool (is_month_end u.day)) [
              | inl e ↦ e
              | inr e ↦ absurd (omega (arith, length_is, ap length_by (none_here t u sound e)))
            ] in
            inr (omega (arith, a.sod, length_is), month_end_from_test u.day end)
      ];
    }
