use Rattle.std.proofs.Common.{sym, arith}
use Rattle.record_vcd.proofs.HeadLaws.{leads-on}
use Rattle.record_vcd.proofs.head.Head.read.Goals as goal

pub loop-count-preserved-in-Continue-1 : goal.loop-count-preserved-in-Continue-1
loop-count-preserved-in-Continue-1 c = (
  omega (arith, c.next-next.ensures.within, c.split_at.ensures.back_len),
  leads-on c.args.self.now c.loop-count.self c.hear.new.self c.next-next.new.self c.args.bytes.now c.split_at.result.1.now c.loop-count.count c.next-next.result.count c.next-next.result.ended
      (sym c.if-is_some.ensures) c.loop-count.invariant.1 c.split_at.ensures.back c.next-next.ensures.words c.in_ok-hear.ensures,
)
