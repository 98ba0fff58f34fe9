use Rattle.std.proofs.Common.{◌+◌, ◌≤◌, ◌∷◌, ◌++◌, arith}
use Rattle.irig_timekeeper.specs.Life.Call.{Tick}
use Rattle.irig_lines.specs.Lines.{IsTrueButForFaults, IsTrueOrFaulty}
use Rattle.irig_lines.specs.Exactness.{fault_early_us, fault_late_us}
use Rattle.irig_timekeeper.proofs.LearnLaws.{steps_plainly}
use Rattle.irig_timekeeper.proofs.LifeLaws.{device_true, device_calm, device_in_order}
use Rattle.irig_timekeeper.proofs.FaultLines.{fault_small, faults_are_true, faults_tell_truly, either_tells_truly, whole_is_true}
use Rattle.irig_gen.proofs.GenLaws.{true_frames}
use Rattle.irig_lives.proofs.SetupLaws.{bound_small}
use Rattle.irig_lives.proofs.SentLines.{sent_is_checked, checked_is_line}
use Rattle.irig_timekeeper.proofs.RowLaws.{in_a_row}
use Rattle.irig_timekeeper.proofs.StampLaws.{stamped}
use Rattle.irig_lives.proofs.laws_of_faults.lines_with_faults_tell_truly.Goals as goal

pub returns-clause-kept : goal.returns-clause-kept
returns-clause-kept _ clock rules t half now end edges pulses claim steady is frame soon = faults_are_true clock.within rules t clock.drift_us edges steady now end pulses claim is frame.late frame.on_time frame.last frame.carries frame.even soon

pub returns-clause-life : goal.returns-clause-life
returns-clause-life _ t edges made start now calls beat u plain lives answer says =
    device_true made.rules made.clock made.table made.lines start made.fresh (IsTrueButForFaults made.clock.within.us made.rules t edges) t edges (fault_early_us made.clock.within.us made.clock.drift_us) (fault_late_us made.clock.within.us made.clock.drift_us) lives.is (let most = fault_small made.clock.within made.clock.drift_us lives.is.steady.few in omega (arith, most.0, most.1)) (faults_tell_truly made.clock made.rules t edges lives.is.steady) calls now beat u lives.order lives.truth (steps_plainly t edges made start (Tick now ∷ calls) (fault_early_us made.clock.within.us made.clock.drift_us) (fault_late_us made.clock.within.us made.clock.drift_us) plain lives.is) answer says

pub returns-clause-either : goal.returns-clause-either
returns-clause-either _ t edges made start now calls beat u plain lives answer says =
    device_true made.rules made.clock made.table made.lines start made.fresh (IsTrueOrFaulty made.clock.within.us made.rules t edges) t edges (fault_early_us made.clock.within.us made.clock.drift_us) (fault_late_us made.clock.within.us made.clock.drift_us) lives.is (let most = fault_small made.clock.within made.clock.drift_us lives.is.steady.few in omega (arith, most.0, most.1)) (either_tells_truly made.clock made.rules t edges lives.is.steady) calls now beat u lives.order lives.truth (steps_plainly t edges made start (Tick now ∷ calls) (fault_early_us made.clock.within.us made.clock.drift_us) (fault_late_us made.clock.within.us made.clock.drift_us) plain lives.is) answer says

pub returns-clause-order : goal.returns-clause-order
returns-clause-order _ t edges made start before now earlier later beat then u v plain lives answer says answers again =
    device_in_order made.rules made.clock made.table made.lines start made.fresh (IsTrueButForFaults made.clock.within.us made.rules t edges) t edges (fault_early_us made.clock.within.us made.clock.drift_us) (fault_late_us made.clock.within.us made.clock.drift_us) lives.is (let most = fault_small made.clock.within made.clock.drift_us lives.is.steady.few in omega (arith, most.0, most.1)) (faults_tell_truly made.clock made.rules t edges lives.is.steady) earlier later before now beat then u v lives.order lives.truth (steps_plainly t edges made start (Tick now ∷ (later ++ (Tick before ∷ earlier))) (fault_early_us made.clock.within.us made.clock.drift_us) (fault_late_us made.clock.within.us made.clock.drift_us) plain lives.is) answer says answers again

pub returns-clause-calm : goal.returns-clause-calm
returns-clause-calm _ t edges made start now calls beat plain lives answer =
    device_calm made.rules made.clock made.table made.lines start made.fresh (IsTrueButForFaults made.clock.within.us made.rules t edges) t edges (fault_early_us made.clock.within.us made.clock.drift_us) (fault_late_us made.clock.within.us made.clock.drift_us) lives.is (let most = fault_small made.clock.within made.clock.drift_us lives.is.steady.few in omega (arith, most.0, most.1)) (faults_tell_truly made.clock made.rules t edges lives.is.steady) calls now beat lives.order lives.truth (steps_plainly t edges made start (Tick now ∷ calls) (fault_early_us made.clock.within.us made.clock.drift_us) (fault_late_us made.clock.within.us made.clock.drift_us) plain lives.is) answer

pub returns-clause-stamps : goal.returns-clause-stamps
returns-clause-stamps _ t edges made start time now calls stamp plain is order truth past young e =
    stamped made.rules made.clock made.table made.lines start made.fresh t edges (fault_early_us made.clock.within.us made.clock.drift_us) (fault_late_us made.clock.within.us made.clock.drift_us) (fault_early_us made.clock.within.us made.clock.drift_us) is (omega arith) (let most = fault_small made.clock.within made.clock.drift_us is.steady.few in omega (arith, most.2)) (IsTrueOrFaulty made.clock.within.us made.rules t edges) (let most = fault_small made.clock.within made.clock.drift_us is.steady.few in omega (arith, most.0, most.1))
    (either_tells_truly made.clock made.rules t edges is.steady) calls time now order truth (steps_plainly t edges made start (calls) (fault_early_us made.clock.within.us made.clock.drift_us) (fault_late_us made.clock.within.us made.clock.drift_us) plain is) past young stamp e

pub returns-clause-row : goal.returns-clause-row
returns-clause-row _ t edges made start edge next calls beat then u plain lives row says none =
    in_a_row made.rules made.clock made.table made.lines start made.fresh (IsTrueOrFaulty made.clock.within.us made.rules t edges) t edges (fault_early_us made.clock.within.us made.clock.drift_us) (fault_late_us made.clock.within.us made.clock.drift_us) lives.is (let most = fault_small made.clock.within made.clock.drift_us lives.is.steady.few in omega (arith, most.0, most.1))
    (either_tells_truly made.clock made.rules t edges lives.is.steady) calls beat then edge next u lives.order lives.truth (steps_plainly t edges made start (calls) (fault_early_us made.clock.within.us made.clock.drift_us) (fault_late_us made.clock.within.us made.clock.drift_us) plain lives.is) row says none

pub returns-clause-most : goal.returns-clause-most
returns-clause-most _ within d few = fault_small within d few

pub returns-clause-half : goal.returns-clause-half
returns-clause-half _ made now calls beat few answer = omega (arith, (fault_small made.clock.within made.clock.drift_us few).0, bound_small made now calls beat few answer)

pub returns-clause-lines : goal.returns-clause-lines
returns-clause-lines _ = sent_is_checked

pub returns-clause-clocks : goal.returns-clause-clocks
returns-clause-clocks _ g t n frames is sound are = sent_is_checked g.rules t n frames (λ f low. true_frames g t f (frames f) is sound (are f low))

pub returns-clause-lossy : goal.returns-clause-lossy
returns-clause-lossy _ = checked_is_line

pub returns-clause-whole : goal.returns-clause-whole
returns-clause-whole _ within rules t line edges now k pulses checked are = whole_is_true within line edges rules t now k pulses checked are
