use Rattle.std.proofs.Common.{rules, ◌++◌, List, ℕ, ap, subst, sym}
use Rattle.std.proofs.lemmas.Result.{err_from_is_err_and}
use Rattle.record_single.specs.Singles.{limited}
use Rattle.report_judge.specs.Records.{HasReadSamples, SamplesRefusedFrom}
use Rattle.report_judge.proofs.SingleLaws.{goes-below, refused-below}
use Rattle.report_judge.proofs.single.Below.read.Goals as goal

pub returns-in_err-read-clause-refuses : goal.returns-in_err-read-clause-refuses
returns-in_err-read-clause-refuses c =
    let p = err_from_is_err_and c.from_residual.result c.from_residual.ensures.1 in
    rw (p.1, p.2) (λ asked file h. refused-below asked file c.args.bytes.now c.args.self.now c.in_err-read.field-0.0 h
    (subst (λ b. SamplesRefusedFrom asked h.config (limited h.count h.front ++ b) c.in_err-read.field-0.0) c.limited.ensures
    (c.in_err-read.ensures.refuses asked h.config (limited h.count h.front) h.reads)))

pub returns-clause-reads : goal.returns-clause-reads
returns-clause-reads c = λ asked file h.
    goes-below asked file c.args.bytes.now c.args.self.now _ h
    (subst (λ b. HasReadSamples asked h.config (limited h.count h.front ++ b) c.read.new.self) c.limited.ensures
    (c.in_ok-read.ensures.reads asked h.config (limited h.count h.front) h.reads))
    (search rules)
