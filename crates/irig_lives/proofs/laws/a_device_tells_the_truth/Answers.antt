use Rattle.std.proofs.Common.{ℕ, ◌+◌, ◌%◌, ◌^◌, ◌≤◌, ◌∷◌, ◌++◌, arith}
use Rattle.irig_timekeeper.specs.Life.Call.{Tick}
use Rattle.irig_time.specs.declared.rules.Rules.{Rules}
use Rattle.irig_time.specs.Timelines.{TimelineValue}
use Rattle.irig_lines.specs.declared.setup.ClockRules.{ClockRules}
use Rattle.irig_lines.specs.Edges.{IsQuartz}
use Rattle.irig_lines.specs.Lines.{IsTrueLately}
use Rattle.irig_lines.proofs.LineLaws.{true_by_any}
use Rattle.irig_timekeeper.proofs.LearnLaws.{plain_keeps, plain_settled, steps_truly}
use Rattle.irig_timekeeper.proofs.TrackLaws.{tick_true}
use Rattle.irig_timekeeper.proofs.LifeLaws.{TellAlwaysTruly, device_true, device_calm, device_in_order}
use Rattle.irig_lives.proofs.SetupLaws.{bound_small, setup_is}
use Rattle.irig_timekeeper.proofs.SinceLaws.{lasts_since}
use Rattle.irig_lives.proofs.laws.a_device_tells_the_truth.Goals as goal

truly : (c : ClockRules) (rules : Rules) (t : TimelineValue) (edges : ℕ → ℕ) → IsQuartz c.drift_us edges → TellAlwaysTruly (IsTrueLately c.within.us rules t edges) c rules t edges 0 0
truly c rules t edges steady now half end pulses claim is frame soon = true_by_any c rules t c.drift_us edges half now end pulses claim steady is frame soon

pub returns-clause-life : goal.returns-clause-life
returns-clause-life _ t edges made start now calls beat u lives answer says =
    device_true made.rules made.clock made.table made.lines start made.fresh (IsTrueLately made.clock.within.us made.rules t edges) t edges 0 0 lives.is (omega arith) (truly made.clock made.rules t edges lives.is.steady) calls now beat u lives.order lives.truth (steps_truly t edges made start (Tick now ∷ calls) lives) answer says

pub returns-clause-order : goal.returns-clause-order
returns-clause-order _ t edges made start before now earlier later beat then u v lives answer says answers again =
    device_in_order made.rules made.clock made.table made.lines start made.fresh (IsTrueLately made.clock.within.us made.rules t edges) t edges 0 0 lives.is (omega arith) (truly made.clock made.rules t edges lives.is.steady) earlier later before now beat then u v lives.order lives.truth (steps_truly t edges made start (Tick now ∷ (later ++ (Tick before ∷ earlier))) lives) answer says answers again

pub returns-clause-held : goal.returns-clause-held
returns-clause-held _ made now calls beat u answer says = lasts_since made calls now beat u answer says

pub returns-clause-calm : goal.returns-clause-calm
returns-clause-calm _ t edges made start now calls beat lives answer =
    device_calm made.rules made.clock made.table made.lines start made.fresh (IsTrueLately made.clock.within.us made.rules t edges) t edges 0 0 lives.is (omega arith) (truly made.clock made.rules t edges lives.is.steady) calls now beat lives.order lives.truth (steps_truly t edges made start (Tick now ∷ calls) lives) answer

pub returns-clause-setup : goal.returns-clause-setup
returns-clause-setup _ rules d wander e = setup_is rules d wander e

pub returns-clause-half : goal.returns-clause-half
returns-clause-half _ made now calls beat few answer = bound_small made now calls beat few answer

pub returns-clause-tick : goal.returns-clause-tick
returns-clause-tick _ t edges k last tick now pulses none is order soon on heard = (tick_true (IsTrueLately k.clock.within.us k.rules t edges now) t edges 0 0 k last tick now pulses (omega arith) (truly k.clock k.rules t edges is.steady now) is order soon on heard (λ alone e edge is_edge at. rw (plain_settled k none (now % 2 ^ 32)) (plain_keeps edges 0 0 k.clock.drift_us is.steady edge k.state.bound_us _ _))).track
