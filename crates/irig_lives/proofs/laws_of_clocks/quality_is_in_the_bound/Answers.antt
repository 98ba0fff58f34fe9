use Rattle.std.proofs.Common.{◌∷◌, ◌++◌, arith}
use Rattle.irig_timekeeper.specs.Life.Call.{Tick}
use Rattle.irig_lines.specs.Clocks.{IsTrueByItsQuality}
use Rattle.irig_lines.proofs.WidthLaws.{reach_few}
use Rattle.irig_timekeeper.proofs.LearnLaws.{steps_so}
use Rattle.irig_timekeeper.proofs.LifeLaws.{device_true, device_calm, device_in_order}
use Rattle.irig_timekeeper.proofs.ClockLines.{qualities_are_even, qualities_tell_truly, right_quality}
use Rattle.irig_timekeeper.proofs.StrayLaws.{no_strays}
use Rattle.irig_timekeeper.proofs.StampLaws.{stamped}
use Rattle.irig_lives.proofs.laws_of_clocks.quality_is_in_the_bound.Goals as goal

pub returns-clause-kept : goal.returns-clause-kept
returns-clause-kept _ clock rules t half now end edges pulses claim is frame soon =
    let near = qualities_tell_truly clock rules t edges now half end pulses claim is frame soon in
    record {
      second = near.second;
      near = record { least = omega (arith, near.near.least); most = omega (arith, near.near.most) };
      truth = near.truth;
    }

pub returns-clause-life : goal.returns-clause-life
returns-clause-life _ t edges made start now calls beat u lives answer says =
    device_true made.rules made.clock made.table made.lines start made.fresh (IsTrueByItsQuality made.clock made.rules t edges) t edges 0 0 lives.is (omega arith)
    (qualities_tell_truly made.clock made.rules t edges) calls now beat u lives.order lives.truth (steps_so (IsTrueByItsQuality made.clock) t edges made start (Tick now ∷ calls) (qualities_tell_truly made.clock made.rules t edges) (qualities_are_even made.clock made.rules t edges) lives) answer says

pub returns-clause-order : goal.returns-clause-order
returns-clause-order _ t edges made start before now earlier later beat then u v lives answer says answers again =
    device_in_order made.rules made.clock made.table made.lines start made.fresh (IsTrueByItsQuality made.clock made.rules t edges) t edges 0 0 lives.is (omega arith)
    (qualities_tell_truly made.clock made.rules t edges) earlier later before now beat then u v lives.order lives.truth (steps_so (IsTrueByItsQuality made.clock) t edges made start (Tick now ∷ (later ++ (Tick before ∷ earlier))) (qualities_tell_truly made.clock made.rules t edges) (qualities_are_even made.clock made.rules t edges) lives) answer says answers again

pub returns-clause-calm : goal.returns-clause-calm
returns-clause-calm _ t edges made start now calls beat lives answer =
    device_calm made.rules made.clock made.table made.lines start made.fresh (IsTrueByItsQuality made.clock made.rules t edges) t edges 0 0 lives.is (omega arith)
    (qualities_tell_truly made.clock made.rules t edges) calls now beat lives.order lives.truth (steps_so (IsTrueByItsQuality made.clock) t edges made start (Tick now ∷ calls) (qualities_tell_truly made.clock made.rules t edges) (qualities_are_even made.clock made.rules t edges) lives) answer

pub returns-clause-stamps : goal.returns-clause-stamps
returns-clause-stamps _ t edges made start time now calls stamp is learns order truth past young e =
    stamped made.rules made.clock made.table made.lines start made.fresh t edges 0 0 0 is (omega arith) (omega arith) (IsTrueByItsQuality made.clock made.rules t edges) (omega arith)
    (qualities_tell_truly made.clock made.rules t edges) calls time now order truth (steps_so (IsTrueByItsQuality made.clock) t edges made start (calls) (qualities_tell_truly made.clock made.rules t edges) (qualities_are_even made.clock made.rules t edges) (record { is = is; learns = learns; order = order.3; truth = truth })) past young stamp e

pub returns-clause-strays : goal.returns-clause-strays
returns-clause-strays _ t edges made start calls lives =
    no_strays (IsTrueByItsQuality made.clock) t edges made start calls (qualities_tell_truly made.clock made.rules t edges) (qualities_are_even made.clock made.rules t edges) lives

pub returns-clause-small : goal.returns-clause-small
returns-clause-small _ clock d few = (let reach = reach_few clock in omega (arith, reach, few))

pub returns-clause-right : goal.returns-clause-right
returns-clause-right _ clock rules t edges now pulses steady is = right_quality clock rules t edges steady now pulses is
