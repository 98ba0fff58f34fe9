use Rattle.std.proofs.Common.{rules, ◌<◌, length}
use Rattle.std.proofs.lemmas.Option.{slice_get-get_or}
use Rattle.record_lines.proofs.ChannelLaws.{told_on}
use Rattle.record_lines.proofs.channels.Channels.change.Goals as goal

pub returns : goal.returns
returns c glitch now told seen played are later =
    let line = c.args.line in
    let small : line < length c.args.self.now.all = search rules in
    told_on c.args.self.now line _ _ glitch now told seen played are small (slice_get-get_or c.args.self.now.all line _ small) c.args.level c.change.result later c.change.ensures
