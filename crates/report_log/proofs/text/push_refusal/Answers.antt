use Rattle.report_log.specs.Text.{refusal_text}
use Rattle.report_log.proofs.text.push_refusal.Goals as goal

pub returns : goal.returns
unfolding refusal_text
returns c = rw (← c.number-number.ensures.number, ← c.name-name.ensures) c.write.ensures.bytes
