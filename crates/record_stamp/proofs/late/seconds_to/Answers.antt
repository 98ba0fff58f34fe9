use Rattle.std.proofs.Common.{arith}
use Rattle.record_stamp.proofs.LateLaws.{days_after, days_before, plain_days}
use Rattle.record_stamp.proofs.late.seconds_to.Goals as goal

pub returns-in-None-clause-says : goal.returns-in-None-clause-says
returns-in-None-clause-says c = rw c.in-None.is (omega (arith, plain_days c.args.at.day, c.from.ensures, c.from-2.ensures))

pub returns-then-day-at-clause-says : goal.returns-then-day-at-clause-says
returns-then-day-at-clause-says c =
    rw c.in-Some.is (omega (arith, days_after c.in-Some.leap c.in-Some.day c.args.at.day c.if-day-at.true, c.from.ensures, c.from-2.ensures, c.with_leap.ensures))

pub returns-else-day-at-clause-says : goal.returns-else-day-at-clause-says
returns-else-day-at-clause-says c =
    rw c.in-Some.is (omega (arith, days_before c.in-Some.leap c.in-Some.day c.args.at.day c.if-day-at.false, c.from.ensures, c.from-2.ensures))
