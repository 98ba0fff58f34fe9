use Rattle.std.proofs.Common.{[], length, refl, rules, subst}
use Rattle.record_comtrade.specs.Reads.{value_of}
use Rattle.report_judge.specs.Hearings.{HasHeard}
use Rattle.report_judge.proofs.RecordLaws.{begins-samples, channels-by-name}
use Rattle.report_judge.proofs.record.Record.new.Goals as goal

pub returns-clause-reads : goal.returns-clause-reads
returns-clause-reads c =
    begins-samples c.args.asked.now (value_of c.args.config) _ c.as_slice-4.result.now c.in_ok-samples.ensures.reads.0 refl
    (channels-by-name c.args.asked.now (value_of c.args.config) c.in_ok-all.all.items _ c.in_ok-all.ensures (search rules))
    c.in_ok-samples.ensures.reads.1 c.in_ok-samples.ensures.reads.2
    (subst (λ n. HasHeard c.args.asked.now n [] c.in_ok-hearing.hearing) {x = c.len.result} {y = length c.as_slice-4.result.now} (search rules) c.in_ok-hearing.ensures)
