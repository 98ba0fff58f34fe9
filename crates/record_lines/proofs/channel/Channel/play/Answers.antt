use Rattle.std.proofs.Common.{None}
use Rattle.record_lines.proofs.channel.Channel.play.Goals as goal

pub returns-clause-new : goal.returns-clause-new
returns-clause-new c seen played is = c.play.ensures.new None seen played is
