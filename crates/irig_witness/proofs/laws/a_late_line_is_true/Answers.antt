use Rattle.irig_witness.proofs.LateLaws.{late_kept, late_true}
use Rattle.irig_witness.proofs.laws.a_late_line_is_true.Goals as goal

pub returns-clause-line : goal.returns-clause-line
returns-clause-line _ d first rate within now line pulses keeps late = late_true d first rate keeps within line now pulses late

pub returns-clause-kept : goal.returns-clause-kept
returns-clause-kept _ d first rate start symbol clock calls untrue keeps order few late = late_kept d first rate keeps start symbol clock untrue few calls order late
