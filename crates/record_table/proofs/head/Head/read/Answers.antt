use Rattle.std.proofs.Common.{arith}
use Rattle.record_table.proofs.HeadLaws.{leads-on}
use Rattle.record_table.proofs.head.Head.read.Goals as goal

pub loop-count-preserved-in-Continue-1 : goal.loop-count-preserved-in-Continue-1
loop-count-preserved-in-Continue-1 c = (
  omega (arith, c.next-next.ensures.within, c.split_at.ensures.back_len),
  leads-on c.args.self.now c.loop-count.self c.hear.new.self c.next-next.new.self c.args.bytes.now c.split_at.result.1.now c.loop-count.count c.next-next.result.count c.next-next.result.ended
      c.in-Some.number c.in-Some.is c.loop-count.invariant.1 c.split_at.ensures.back c.next-next.ensures.lines c.in_ok-hear.ensures,
)
