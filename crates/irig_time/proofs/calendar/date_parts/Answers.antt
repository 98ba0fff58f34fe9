use Rattle.std.proofs.Common.{arith}
use Rattle.irig_time.proofs.Dates.{parts_of_date, small16}
use Rattle.irig_time.proofs.calendar.date_parts.Goals as goal

pub overflow_cast-result : goal.overflow_cast-result
overflow_cast-result c =
    let f = parts_of_date c.date_of-date.result c.args.day c.requires c.date_of-date.ensures in
    rw (small16 c.date_of-date.result.year f.0 f.1 (omega (arith, f.2))) (tt, omega (arith, f.2))

pub returns-clause-year : goal.returns-clause-year
returns-clause-year c =
    let f = parts_of_date c.date_of-date.result c.args.day c.requires c.date_of-date.ensures in
    rw (small16 c.date_of-date.result.year f.0 f.1 (omega (arith, f.2))) f.2

pub returns-clause-date : goal.returns-clause-date
returns-clause-date c =
    let f = parts_of_date c.date_of-date.result c.args.day c.requires c.date_of-date.ensures in
    rw (small16 c.date_of-date.result.year f.0 f.1 (omega (arith, f.2)), c.from.ensures, c.from-2.ensures) f.3
