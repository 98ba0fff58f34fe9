use Rattle.record_lines.proofs.SeeLaws.{HasEnded}
use Rattle.record_lines.proofs.recording.Recording.end.Given as goal

abbrev pub invariant-loop-line : goal.invariant-loop-line
invariant-loop-line g l = HasEnded l.fn.self l.self l.line l.line-end
