use Rattle.std.proofs.Common.{refl}
use Rattle.report_judge.proofs.HearingLaws.{hears_end}
use Rattle.report_judge.proofs.hearing.Hearing.end.Goals as goal

pub returns-clause-ends : goal.returns-clause-ends
returns-clause-ends c = hears_end c.args.self.now _ c.take_seconds.new.self _ c.end.ensures.ended c.end.ensures.end refl c.take_seconds.ensures.takes
