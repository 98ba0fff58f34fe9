use Rattle.std.proofs.Common.{rules, ◌<◌, length}
use Rattle.std.proofs.lemmas.Option.{slice_get-get_or}
use Rattle.record_lines.proofs.ChannelLaws.{ends_on}
use Rattle.record_lines.proofs.channels.Channels.let_out.Goals as goal

pub returns : goal.returns
returns c glitch told seen played are =
    let line = c.args.line in
    let small : line < length c.args.self.now.all = search rules in
    ends_on c.args.self.now line _ _ glitch told seen played are small (slice_get-get_or c.args.self.now.all line _ small) c.let_out.result c.let_out.ensures
