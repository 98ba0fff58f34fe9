use Rattle.std.proofs.Common.{refl, arith}
use Rattle.std.proofs.lemmas.Int.{ints}
use Rattle.std.proofs.lemmas.Grind.{common_steps}
use Rattle.irig_time.proofs.frame.coded_of.Goals as goal

pub overflow_mul-coded_minute : goal.overflow_mul-coded_minute
overflow_mul-coded_minute c = omega (arith, ints)

pub overflow_add-coded_minute : goal.overflow_add-coded_minute
overflow_add-coded_minute c = omega (arith, ints)

pub overflow_cast-coded_minute : goal.overflow_cast-coded_minute
overflow_cast-coded_minute c = omega (arith, ints)

pub year_and_day-year-requires : goal.year_and_day-year-requires
year_and_day-year-requires c = omega (arith, ints)

pub returns-clause-time : goal.returns-clause-time
returns-clause-time c = record {
  time = omega (arith, ints);
  second = omega arith;
  day = c.year_and_day-year.ensures.place;
  year = c.year_and_day-year.ensures.year;
  hour = omega arith;
  minute = omega arith;
  sbs = omega arith;
  control = refl;
}

pub returns-clause-in_range : goal.returns-clause-in_range
returns-clause-in_range c = record {
  second = omega arith;
  minute = omega arith;
  hour = omega arith;
  day = (c.year_and_day-year.ensures.place.0, grind (arith, common_steps));
  year = c.year_and_day-year.ensures.year;
  control = omega arith;
  sbs = omega arith;
}
