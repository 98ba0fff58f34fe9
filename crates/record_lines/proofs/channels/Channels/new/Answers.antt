use Rattle.std.proofs.Common.{[], Some}
use Rattle.record_lines.specs.Heard.{IsChannelTo}
use Rattle.record_lines.proofs.ChannelLaws.{five_of}
use Rattle.record_lines.proofs.channels.Channels.new.Goals as goal

pub returns : goal.returns
returns c =
    five_of (λ channel. IsChannelTo channel c.args.glitch_ns (Some 0) [] [] []) c.new.result c.new-2.result c.new-3.result c.new-4.result c.new-5.result
    c.new.ensures c.new-2.ensures c.new-3.ensures c.new-4.ensures c.new-5.ensures
