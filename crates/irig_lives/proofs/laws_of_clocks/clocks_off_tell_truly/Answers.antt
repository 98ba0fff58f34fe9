use Rattle.std.proofs.Common.{◌+◌, ◌≤◌, ◌∷◌, ◌++◌, arith}
use Rattle.irig_timekeeper.specs.Life.Call.{Tick}
use Rattle.irig_lines.specs.Clocks.{IsTrueByItsClock}
use Rattle.irig_timekeeper.proofs.LearnLaws.{steps_plainly}
use Rattle.irig_timekeeper.proofs.LifeLaws.{device_true, device_calm, device_in_order}
use Rattle.irig_timekeeper.proofs.ClockLines.{clocks_are_true, clocks_tell_truly, right_clock}
use Rattle.irig_timekeeper.proofs.StampLaws.{stamped}
use Rattle.irig_lives.proofs.SetupLaws.{bound_small}
use Rattle.irig_lives.proofs.laws_of_clocks.clocks_off_tell_truly.Goals as goal

pub returns-clause-kept : goal.returns-clause-kept
returns-clause-kept _ clock rules t off half now end edges pulses claim is frame soon = clocks_are_true off clock rules t edges half now end pulses claim is frame soon

pub returns-clause-life : goal.returns-clause-life
returns-clause-life _ t edges made off start now calls beat u few plain lives answer says =
    device_true made.rules made.clock made.table made.lines start made.fresh (IsTrueByItsClock off made.clock.within.us made.clock.drift_us made.rules t edges) t edges off off lives.is (omega (arith, few))
    (clocks_tell_truly off made.clock made.rules t edges) calls now beat u lives.order lives.truth (steps_plainly t edges made start (Tick now ∷ calls) off off plain lives.is) answer says

pub returns-clause-order : goal.returns-clause-order
returns-clause-order _ t edges made off start before now earlier later beat then u v few plain lives answer says answers again =
    device_in_order made.rules made.clock made.table made.lines start made.fresh (IsTrueByItsClock off made.clock.within.us made.clock.drift_us made.rules t edges) t edges off off lives.is (omega (arith, few))
    (clocks_tell_truly off made.clock made.rules t edges) earlier later before now beat then u v lives.order lives.truth (steps_plainly t edges made start (Tick now ∷ (later ++ (Tick before ∷ earlier))) off off plain lives.is) answer says answers again

pub returns-clause-calm : goal.returns-clause-calm
returns-clause-calm _ t edges made off start now calls beat few plain lives answer =
    device_calm made.rules made.clock made.table made.lines start made.fresh (IsTrueByItsClock off made.clock.within.us made.clock.drift_us made.rules t edges) t edges off off lives.is (omega (arith, few))
    (clocks_tell_truly off made.clock made.rules t edges) calls now beat lives.order lives.truth (steps_plainly t edges made start (Tick now ∷ calls) off off plain lives.is) answer

pub returns-clause-stamps : goal.returns-clause-stamps
returns-clause-stamps _ t edges made off start time now calls stamp few plain is order truth past young e =
    stamped made.rules made.clock made.table made.lines start made.fresh t edges off off off is (omega arith) (omega arith) (IsTrueByItsClock off made.clock.within.us made.clock.drift_us made.rules t edges) (omega (arith, few))
    (clocks_tell_truly off made.clock made.rules t edges) calls time now order truth (steps_plainly t edges made start (calls) off off plain is) past young stamp e

pub returns-clause-half : goal.returns-clause-half
returns-clause-half _ made off now calls beat few slow answer = omega (arith, few, bound_small made now calls beat slow answer)

pub returns-clause-right : goal.returns-clause-right
returns-clause-right _ off d within rules t edges now pulses steady is = right_clock off within.us d rules t edges steady now pulses is
