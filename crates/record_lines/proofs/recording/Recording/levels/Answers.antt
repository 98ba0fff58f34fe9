use Rattle.std.proofs.Common.{refl}
use Rattle.record_lines.proofs.SeeLaws.{recording_told, told_none, told_one}
use Rattle.record_lines.proofs.recording.Recording.levels.Goals as goal

pub loop-line-init : goal.loop-line-init
loop-line-init g c = told_none c.args.self.now _ c.args.levels c.args.self.now.lines refl c.args.self.now.few refl refl refl refl refl refl

pub loop-line-preserved : goal.loop-line-preserved
loop-line-preserved g c =
    told_one c.args.self.now c.loop-line.self c.change.new.self c.args.levels c.loop-line.line c.args.self.now.lines c.level_in.result c.loop-line.invariant c.loop-line-test.true
    c.level_in.ensures c.change.ensures.told c.change.ensures.room c.change.ensures.lines c.change.ensures.time c.change.ensures.end

pub returns-clause-told : goal.returns-clause-told
returns-clause-told g c = recording_told c.args.self.now c.loop-line.self c.args.levels c.loop-line.line c.args.self.now.lines c.loop-line.invariant c.loop-line-test.false
