use Rattle.std.proofs.Common.{Some, arith}
use Rattle.irig_time.proofs.TimeLaws.{length_bounds}
use Rattle.irig_time.proofs.StretchLaws.{last_placed, few_seconds, next_placed, next_joins, next_built}
use Rattle.irig_time.proofs.stretches.stretches_from.Goals as goal

pub overflow_add-here-in-Some : goal.overflow_add-here-in-Some
overflow_add-here-in-Some c =
    let few = few_seconds c.args.leaps.now c.args.first c.loop-day.here (last_placed c.args.leaps.now c.args.first c.loop-day.stretches.items c.loop-day.here c.loop-day.invariant) in
    omega (arith, few, c.from-whole_days.ensures, c.in-Some.ensures.served)

pub overflow_add-here-in-Some-2 : goal.overflow_add-here-in-Some-2
overflow_add-here-in-Some-2 c =
    let few = few_seconds c.args.leaps.now c.args.first c.loop-day.here (last_placed c.args.leaps.now c.args.first c.loop-day.stretches.items c.loop-day.here c.loop-day.invariant) in
    omega (arith, few, c.from-whole_days.ensures, c.in-Some.ensures.served, c.from.ensures, c.length_with.ensures, (length_bounds (Some c.in-Some.leap)).1)

pub loop-day-preserved : goal.loop-day-preserved
loop-day-preserved c =
    let leaps = c.args.leaps.now in
    let first = c.args.first in
    let here = c.loop-day.here in
    let front = c.loop-day.stretches.items in
    let next = c.in-Some.ensures in
    let placed = last_placed leaps first front here c.loop-day.invariant in
    rw c.in_ok-push.ensures.items
    (next_built leaps first front here _ c.loop-day.invariant (next_placed leaps first here (c.in-Some.day, c.in-Some.leap) _ placed next (omega (arith, c.from-whole_days.ensures, c.from.ensures, c.length_with.ensures)))
    (next_joins leaps here (c.in-Some.day, c.in-Some.leap) _ next))
