use Rattle.std.proofs.Common.{refl}
use Rattle.record_lines.proofs.SeeLaws.{ended_none, ended_one, recording_ended}
use Rattle.record_lines.proofs.recording.Recording.end.Goals as goal

pub loop-line-init : goal.loop-line-init
loop-line-init g c = ended_none c.args.self.now c.args.self.now.lines c.args.self.now.few

pub loop-line-preserved : goal.loop-line-preserved
loop-line-preserved g c =
    ended_one c.args.self.now c.loop-line.self c.hold.new.self c.let_out-last.new.self c.loop-line.line c.args.self.now.lines c.let_out-last.result c.loop-line.invariant c.loop-line-test.true c.let_out-last.ensures
    c.hold.ensures.channels c.hold.ensures.receiver c.hold.ensures.holds c.hold.ensures.lines

pub returns-clause-ended : goal.returns-clause-ended
returns-clause-ended g c = recording_ended c.args.self.now c.loop-line.self _ c.loop-line.line c.args.self.now.lines _ c.loop-line.invariant refl refl refl refl refl
