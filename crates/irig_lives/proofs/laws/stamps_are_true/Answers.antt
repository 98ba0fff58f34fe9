use Rattle.std.proofs.Common.{arith}
use Rattle.irig_lines.specs.Lines.{IsTrueLately}
use Rattle.irig_lines.proofs.LineLaws.{true_by_any}
use Rattle.irig_timekeeper.proofs.LearnLaws.{steps_truly}
use Rattle.irig_timekeeper.proofs.StampLaws.{stamped, near_instant}
use Rattle.irig_timekeeper.proofs.RowLaws.{in_a_row, none_lost}
use Rattle.irig_timekeeper.proofs.SinceLaws.{has_its_bound}
use Rattle.irig_lives.proofs.laws.stamps_are_true.Goals as goal

pub returns-clause-stamp : goal.returns-clause-stamp
returns-clause-stamp _ t edges made start time now calls stamp is learns order truth past young e =
    stamped made.rules made.clock made.table made.lines start made.fresh t edges 0 0 0 is (omega arith) (omega arith) (IsTrueLately made.clock.within.us made.rules t edges) (omega arith)
    (λ now half end pulses claim is_true frame soon. true_by_any made.clock made.rules t made.clock.drift_us edges half now end pulses claim is.steady is_true frame soon)
    calls time now order truth (steps_truly t edges made start calls (record { is = is; learns = learns; order = order.3; truth = truth })) past young stamp e

pub returns-clause-bound : goal.returns-clause-bound
returns-clause-bound _ made time calls stamp e = has_its_bound made time calls stamp e

pub returns-clause-together : goal.returns-clause-together
returns-clause-together _ t d e n tau time other edges others x y quartz quartz' at at' one two =
    let p = near_instant t d edges quartz n tau time at x one in
    let q = near_instant t e others quartz' n tau other at' y two in
    omega (arith, p.1, q.0)

pub returns-clause-none_lost : goal.returns-clause-none_lost
returns-clause-none_lost _ made edge next time calls beat then u v row says says_then near from upto = none_lost _ calls beat then edge next u v row says says_then time near from upto

pub returns-clause-row : goal.returns-clause-row
returns-clause-row _ t edges made start edge next calls beat then u lives row says none =
    in_a_row made.rules made.clock made.table made.lines start made.fresh (IsTrueLately made.clock.within.us made.rules t edges) t edges 0 0 lives.is (omega arith)
    (λ now half end pulses claim is_true frame soon. true_by_any made.clock made.rules t made.clock.drift_us edges half now end pulses claim lives.is.steady is_true frame soon)
    calls beat then edge next u lives.order lives.truth (steps_truly t edges made start calls lives) row says none
