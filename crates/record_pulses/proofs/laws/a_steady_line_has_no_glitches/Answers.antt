use Rattle.record_pulses.proofs.GlitchLaws.{in_turn, steady}
use Rattle.record_pulses.proofs.laws.a_steady_line_has_no_glitches.Goals as goal

pub returns-clause-steady : goal.returns-clause-steady
returns-clause-steady _ = steady

pub returns-clause-in_turn : goal.returns-clause-in_turn
returns-clause-in_turn _ = in_turn
