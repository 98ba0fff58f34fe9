-- A table passes the audit's test exactly if it is true.
use Rattle.std.proofs.Common.{◌≡◌, ℕ, ◌+◌, ◌-◌, ◌<◌, ◌≤◌, true, Option, Some, None, get_or, refl, sym, ◌∙◌, subst, inl, inr, arith}
use Rattle.std.specs.List.{range_with_len}
use Rattle.std.proofs.lemmas.Bool.{cases_Bool, cases_lt, lt-ltb, le-ltb}
use Rattle.std.proofs.lemmas.List.FromFn.{get_or-range_with_len, length-range_with_len}
use Rattle.std.proofs.lemmas.List.Sums.{AllPass-from_list_all, list_all-from_AllPass}
use Rattle.irig_time.specs.declared.leap.Leap.{Leap}
use Rattle.irig_time.specs.declared.leap.Leap.TheVariants.{Insert, Delete}
use Rattle.irig_time.specs.Days.{is_month_end}
use Rattle.irig_time.specs.Timelines.{TimelineValue, leap_of, mark_by}
use Rattle.irig_time.specs.Tables.{TableValue}
use Rattle.irig_time.proofs.MonthEnds.{month_end_served}
use Rattle.irig_hold.specs.Truth.{IsTrueTable}
use Rattle.irig_plant.specs.Audits.{agrees, agrees_on, is_true_table}

same_leap : (a b : Option Leap) → agrees (mark_by a) (mark_by b) ≡ true → a ≡ b
same_leap None None h = refl
same_leap None (Some Insert) h = absurd cc
same_leap None (Some Delete) h = absurd cc
same_leap (Some Insert) None h = absurd cc
same_leap (Some Insert) (Some Insert) h = refl
same_leap (Some Insert) (Some Delete) h = absurd cc
same_leap (Some Delete) None h = absurd cc
same_leap (Some Delete) (Some Insert) h = absurd cc
same_leap (Some Delete) (Some Delete) h = refl

agrees_itself : (a : Option Leap) → agrees (mark_by a) (mark_by a) ≡ true
agrees_itself None = refl
agrees_itself (Some Insert) = refl
agrees_itself (Some Delete) = refl

day_agrees : (t : TimelineValue) (table : TableValue) (day : ℕ) → IsTrueTable t table → t.start.day ≤ day → agrees_on t table day ≡ true
day_agrees t table day h from =
    elim (cases_Bool (is_month_end day)) [
      | inr e ↦ rw e refl
      | inl e ↦ elim (cases_lt table.until day) [
        | inl lt ↦ rw (e, lt-ltb table.until day lt) refl
        | inr ge ↦ rw (e, le-ltb table.until day ge, h.leaps day e from ge) (agrees_itself (leap_of t.leaps day))
      ]
    ]

pub true_by_test : (t : TimelineValue) (table : TableValue) → is_true_table t table ≡ true → IsTrueTable t table
unfolding is_true_table
true_by_test t table h = record {
  leaps = λ day e from to.
      let served = month_end_served day e in
      let days = range_with_len t.start.day (36524 - t.start.day) in
      let i = day - t.start.day in
      let long = length-range_with_len t.start.day (36524 - t.start.day) in
      let day_is : get_or days i 0 ≡ day = get_or-range_with_len t.start.day (36524 - t.start.day) i 0 (omega arith) ∙ omega arith in
      let here : agrees_on t table day ≡ true = subst (λ (d : ℕ). agrees_on t table d ≡ true) day_is (AllPass-from_list_all (agrees_on t table) days h i 0 (omega (arith, long))) in
      same_leap (leap_of table.leaps day) (leap_of t.leaps day) (rw (e, le-ltb table.until day to) at here);
}

pub test_by_true : (t : TimelineValue) (table : TableValue) → IsTrueTable t table → is_true_table t table ≡ true
unfolding is_true_table
test_by_true t table h =
    let days = range_with_len t.start.day (36524 - t.start.day) in
    let long = length-range_with_len t.start.day (36524 - t.start.day) in
    list_all-from_AllPass (agrees_on t table) days
    (λ i d lt. let low : i < 36524 - t.start.day = omega (arith, long) in
    subst (λ (x : ℕ). agrees_on t table x ≡ true) (sym (get_or-range_with_len t.start.day (36524 - t.start.day) i d low)) (day_agrees t table (t.start.day + i) h (omega arith)))
