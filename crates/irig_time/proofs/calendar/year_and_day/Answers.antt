use Rattle.std.proofs.Common.{◌≡◌, ◌≤◌, ℕ, ◌+◌, pos, ℤ, ◌-ℤ◌, unsigned_abs, to_z, of_z, w16, arith}
use Rattle.std.proofs.lemmas.Int.{ints}
use Rattle.irig_time.proofs.Dates.{day_of_date}
use Rattle.irig_time.proofs.calendar.year_and_day.Goals as goal

inner_is : (z : ℤ) (yy : ℕ) → z ≡ pos (2000 + yy) → yy ≤ 99 → to_z w16 (of_z w16 (to_z w16 (of_z w16 z) -ℤ pos 2000)) ≡ pos yy
inner_is z yy e h = rw e (omega (arith, ints))

year_is : (z : ℤ) (yy : ℕ) → z ≡ pos (2000 + yy) → yy ≤ 99 → unsigned_abs (to_z w16 (of_z w16 (to_z w16 (of_z w16 z) -ℤ pos 2000))) ≡ yy
year_is z yy e h = rw e (omega (arith, ints))

pub overflow_cast-result : goal.overflow_cast-result
overflow_cast-result c =
    let d = c.date_of-date.result in
    let f = day_of_date d c.args.day c.requires c.date_of-date.ensures in
    rw (inner_is d.year f.0 f.1 f.2) (tt, omega (arith, f.2))

pub returns-clause-year : goal.returns-clause-year
returns-clause-year c =
    let d = c.date_of-date.result in
    let f = day_of_date d c.args.day c.requires c.date_of-date.ensures in
    omega (arith, year_is d.year f.0 f.1 f.2, f.2)

pub returns-clause-day : goal.returns-clause-day
returns-clause-day c =
    let d = c.date_of-date.result in
    let f = day_of_date d c.args.day c.requires c.date_of-date.ensures in
    rw (year_is d.year f.0 f.1 f.2, c.day_of_year.ensures.value) f.3

pub returns-clause-place : goal.returns-clause-place
returns-clause-place c =
    let d = c.date_of-date.result in
    let f = day_of_date d c.args.day c.requires c.date_of-date.ensures in
    rw (year_is d.year f.0 f.1 f.2, c.day_of_year.ensures.value) (f.4, f.5)
