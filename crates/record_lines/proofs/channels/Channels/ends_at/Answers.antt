use Rattle.std.proofs.Common.{rules, ◌<◌, length, None, subst, sym}
use Rattle.std.proofs.lemmas.Option.{slice_get-get_or}
use Rattle.record_lines.specs.RecordedLines.{IsRecordedLine}
use Rattle.record_lines.proofs.ChannelLaws.{as_steady, stays}
use Rattle.record_lines.proofs.channels.Channels.ends_at.Goals as goal

pub returns-clause-new : goal.returns-clause-new
returns-clause-new c seen played are =
    let line = c.args.line in
    let small : line < length c.args.self.now.all = search rules in
    stays c.args.self.now line _ seen played small are
    (subst (λ x. IsRecordedLine x None (seen line) (played line)) (sym c.ends_at.ensures.line) (are line _ (slice_get-get_or c.args.self.now.all line _ small)))

pub returns-clause-steady : goal.returns-clause-steady
returns-clause-steady c =
    let line = c.args.line in
    let small : line < length c.args.self.now.all = search rules in
    as_steady c.args.self.now line _ _ small (slice_get-get_or c.args.self.now.all line _ small) c.ends_at.ensures.steady
