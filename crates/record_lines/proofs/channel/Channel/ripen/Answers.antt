use Rattle.std.proofs.Common.{◌≡◌, ◌∙◌, true, sym, ap}
use Rattle.std.specs.Prelude.{is_some}
use Rattle.record_pulses.specs.Glitches.{ripe_at}
use Rattle.record_lines.proofs.HeardLaws.{channel_ripens, channel_waits, is_ripe_some}
use Rattle.record_lines.proofs.channel.Channel.ripen.Goals as goal

pub returns-then-is_none : goal.returns-then-is_none
returns-then-is_none c = channel_waits c.args.self.now c.args.now_ns

pub returns : goal.returns
returns c =
    let some : is_some (ripe_at c.args.now_ns c.args.self.now.steady) ≡ true = ap is_some (sym c.ripe.ensures) ∙ c.if-is_none.ensures in
    let ripe = is_ripe_some c.args.self.now.steady c.args.now_ns some in
    channel_ripens c.args.self.now c.let_out-edge.new.self c.see.new.self c.args.now_ns c.let_out-edge.result (λ rest from. c.let_out-edge.ensures.ripe c.args.now_ns rest ripe from) c.see.ensures.steady c.see.ensures.line
