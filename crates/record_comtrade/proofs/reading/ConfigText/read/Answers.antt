use Rattle.std.proofs.Common.{arith}
use Rattle.record_comtrade.proofs.ReadLaws.{reads_on}
use Rattle.record_comtrade.proofs.reading.ConfigText.read.Goals as goal

pub loop-count-preserved-in-Continue-1 : goal.loop-count-preserved-in-Continue-1
loop-count-preserved-in-Continue-1 c = (
  omega (arith, c.next-next.ensures.within, c.split_at.ensures.back_len),
  reads_on c.args.self.now c.loop-count.self c.keep.new.self c.next-next.new.self c.args.bytes.now c.split_at.result.1.now c.loop-count.count c.next-next.result.count c.next-next.result.ended
      c.in-Some.number c.in-Some.is c.loop-count.invariant.1 c.split_at.ensures.back c.next-next.ensures.lines c.in_ok-keep.ensures.lines,
)
