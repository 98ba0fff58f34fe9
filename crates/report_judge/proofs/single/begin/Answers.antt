use Rattle.std.proofs.Common.{refl, subst, sym}
use Rattle.record_comtrade.specs.Reads.{value_of}
use Rattle.report_judge.specs.Singles.{HasOpened}
use Rattle.report_judge.proofs.SingleLaws.{opens}
use Rattle.report_judge.proofs.single.begin.Goals as goal

pub returns-in-Ok-clause-reads : goal.returns-in-Ok-clause-reads
returns-in-Ok-clause-reads c = λ file opened.
    subst (HasOpened c.args.asked.now file) (sym c.in-Ok.ensures.ok)
    (opens c.args.asked.now file c.args.head c.args.count (value_of c.in_ok-config.config) _ opened c.in_ok-config.ensures.says c.in_ok-record.ensures.reads refl)
