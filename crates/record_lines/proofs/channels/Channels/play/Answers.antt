use Rattle.std.proofs.Common.{rules, ◌<◌, length}
use Rattle.std.proofs.lemmas.Option.{slice_get-get_or}
use Rattle.record_lines.proofs.ChannelLaws.{as_steady, plays}
use Rattle.record_lines.proofs.channels.Channels.play.Goals as goal

pub returns-clause-new : goal.returns-clause-new
returns-clause-new c seen played are =
    let line = c.args.line in
    let small : line < length c.args.self.now.all = search rules in
    plays c.args.self.now line _ seen played c.args.edge small are (c.play.ensures.new (seen line) (played line) (are line _ (slice_get-get_or c.args.self.now.all line _ small)))

pub returns-clause-steady : goal.returns-clause-steady
returns-clause-steady c =
    let line = c.args.line in
    let small : line < length c.args.self.now.all = search rules in
    as_steady c.args.self.now line _ _ small (slice_get-get_or c.args.self.now.all line _ small) c.play.ensures.steady
