use Rattle.std.proofs.Common.{rules, ◌<◌, length}
use Rattle.std.proofs.lemmas.Option.{slice_get-get_or}
use Rattle.record_lines.proofs.ChannelLaws.{ripens_on}
use Rattle.record_lines.proofs.channels.Channels.ripen.Goals as goal

pub returns : goal.returns
returns c glitch now told seen played are later =
    let line = c.args.line in
    let small : line < length c.args.self.now.all = search rules in
    ripens_on c.args.self.now line _ _ glitch now told seen played are small (slice_get-get_or c.args.self.now.all line _ small) c.args.now_ns c.ripen.result later c.ripen.ensures
