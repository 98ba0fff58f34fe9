use Rattle.std.proofs.Common.{◌∷◌}
use Rattle.irig_timekeeper.specs.Life.Call.{Tick}
use Rattle.irig_lines.specs.Lines.{IsTrueLately}
use Rattle.irig_lines.proofs.LineLaws.{true_by_any}
use Rattle.irig_timekeeper.proofs.LearnLaws.{steps_truly}
use Rattle.irig_timekeeper.proofs.StateLaws.{true_line, true_at_tick, said_rightly}
use Rattle.irig_lives.proofs.laws_of_lines.what_is_said_of_lines_is_so.Goals as goal

pub returns-clause-tick : goal.returns-clause-tick
returns-clause-tick _ t edges made start now line calls lives low true_one =
    true_at_tick (IsTrueLately made.clock.within.us) t edges made start now calls lives (λ now half end pulses claim is frame soon. true_by_any made.clock made.rules t made.clock.drift_us edges half now end pulses claim lives.is.steady is frame soon) (steps_truly t edges made start (Tick now ∷ calls) lives) line low true_one

pub returns-clause-life : goal.returns-clause-life
returns-clause-life _ t edges made start now line calls lives order low true_one =
    true_line (IsTrueLately made.clock.within.us) t edges made start now calls lives (λ now half end pulses claim is frame soon. true_by_any made.clock made.rules t made.clock.drift_us edges half now end pulses claim lives.is.steady is frame soon) (steps_truly t edges made start calls lives) order line low true_one

pub returns-clause-said : goal.returns-clause-said
returns-clause-said _ t edges made start now line calls lives order low =
    said_rightly (IsTrueLately made.clock.within.us) t edges made start now calls lives (λ now half end pulses claim is frame soon. true_by_any made.clock made.rules t made.clock.drift_us edges half now end pulses claim lives.is.steady is frame soon) (steps_truly t edges made start calls lives) order line low
