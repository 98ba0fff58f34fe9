-- The function time_shown gives the coded time of a second.
use Rattle.std.proofs.Common.{◌≡◌, ℕ, ◌+◌, ◌-◌, ◌*◌, ◌/◌, ◌%◌, ◌<◌, ◌≤◌, eqb, refl, ap, ◌∙◌, arith, inl, inr, ℤ, pos, ◌+ℤ◌, ◌*ℤ◌, unsigned_abs}
use Rattle.std.proofs.lemmas.Bool.{cases_Bool, eqb-true, eqb-false}
use Rattle.std.proofs.lemmas.Int.{ints}
use Rattle.irig_time.specs.declared.second.UtcSecond.{UtcSecond}
use Rattle.irig_time.specs.Days.{day_number, year_length}
use Rattle.irig_time.specs.Seconds.{IsValid, minute_of, second_of}
use Rattle.irig_time.specs.CodedTime.{IsCodedOf, coded_minute, minute_shown, year_of_day, shown_in, time_shown}

-- the year has begun by the day, and has not ended before it
begun : (day : ℕ) → day_number (year_of_day day) 1 ≤ day
begun day = omega arith

in_year : (day : ℕ) → day + 1 - day_number (year_of_day day) 1 ≤ year_length (year_of_day day)
in_year day =
    let y = year_of_day day in
    elim (cases_Bool (eqb (y % 4) 0)) [
      | inl e ↦ let four = eqb-true (y % 4) 0 e in rw e (omega (arith, four))
      | inr e ↦ let odd = eqb-false (y % 4) 0 e in rw e (omega (arith, odd))
    ]

place_of_day : (day : ℕ) → day_number (year_of_day day) (day + 1 - day_number (year_of_day day) 1) ≡ day
place_of_day day = omega (arith, begun day)

minute_is : (m s : ℕ) → coded_minute (shown_in m s) ≡ m
minute_is m s = omega (arith, place_of_day (m / 1440))

-- the sum is not negative, since the offset is at most 930 minutes
sum_is : (z h : ℤ) (m : ℕ) → 1440 ≤ m → unsigned_abs h ≤ 31 → z ≡ pos m +ℤ pos 30 *ℤ h → (pos (unsigned_abs z) ≡ z) × (unsigned_abs z ≤ m + 930)
sum_is z h m low small e = (omega (arith, ints), omega (arith, ints))

coded : (u : UtcSecond) (h : ℤ) (m : ℕ) → m < 52596000 → pos m ≡ pos (1440 * u.day + minute_of u) +ℤ pos 30 *ℤ h → IsCodedOf u h (shown_in m (second_of u))
coded u h m low minute = record {
  time = ap (λ (n : ℕ). pos n) (minute_is m (second_of u)) ∙ minute;
  second = refl;
  day = (omega (arith, begun (m / 1440)), in_year (m / 1440));
  year = omega arith;
  hour = omega arith;
  minute = omega arith;
  sbs = omega arith;
  control = refl;
}

pub time_is_shown : (u : UtcSecond) (half_hours : ℤ) → IsValid u → unsigned_abs half_hours ≤ 31 → IsCodedOf u half_hours (time_shown u half_hours)
unfolding time_shown
time_is_shown u half_hours valid small =
    let m = minute_shown u half_hours in
    let sum = sum_is (pos (1440 * u.day + minute_of u) +ℤ pos 30 *ℤ half_hours) half_hours (1440 * u.day + minute_of u) (omega (arith, valid.day)) small refl in
    coded u half_hours m (omega (arith, sum.1, valid.day)) sum.0
