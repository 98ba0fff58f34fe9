use Rattle.record_lines.proofs.SeeLaws.{HasTold}
use Rattle.record_lines.proofs.recording.Recording.levels.Given as goal

abbrev pub invariant-loop-line : goal.invariant-loop-line
invariant-loop-line g l = HasTold l.fn.self l.self l.levels l.line l.line-end
