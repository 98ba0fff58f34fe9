use Rattle.record_lines.proofs.HeardLaws.{channel_told}
use Rattle.record_lines.proofs.channel.Channel.change.Goals as goal

pub returns : goal.returns
returns c = channel_told c.args.self.now c.change-edge.new.self c.see.new.self c.args.level c.change-edge.result c.change-edge.ensures c.see.ensures.steady c.see.ensures.line
