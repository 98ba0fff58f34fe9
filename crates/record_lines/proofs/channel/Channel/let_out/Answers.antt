use Rattle.record_lines.proofs.HeardLaws.{channel_end}
use Rattle.record_lines.proofs.channel.Channel.let_out.Goals as goal

pub returns : goal.returns
returns c = channel_end c.args.self.now c.let_out-edge.new.self c.see.new.self c.let_out-edge.result c.let_out-edge.ensures.end c.see.ensures.steady c.see.ensures.line
