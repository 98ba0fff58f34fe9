use Rattle.std.proofs.Common.{◌≡◌, None, Some, sym, arith, rules}
use Rattle.record_single.proofs.HeadLaws.{finds_behind, goes_further}
use Rattle.record_single.proofs.parts.Head.read.Goals as goal

pub returns-in-Some-clause-finds : goal.returns-in-Some-clause-finds
returns-in-Some-clause-finds c =
    let some : c.in_ok-taken.found ≡ Some c.in-Some.bytes = search rules in
    finds_behind c.args.self.now c.loop-count.self c.next.new.self c.args.bytes.now c.split_at.result.1.now c.loop-count.count c.in_ok-taken.taken
    c.in_ok-taken.found c.in-Some.bytes c.loop-count.invariant.2 c.split_at.ensures.back some c.in_ok-taken.ensures.leads

pub loop-count-preserved : goal.loop-count-preserved
loop-count-preserved c =
    let none : c.in_ok-taken.found ≡ None = search rules in (
      omega (arith, c.in_ok-taken.ensures.within, c.split_at.ensures.back_len),
      omega (arith, c.in_ok-taken.ensures.line, c.loop-count.invariant.1),
      goes_further c.args.self.now c.loop-count.self c.next.new.self c.args.bytes.now c.split_at.result.1.now c.loop-count.count c.in_ok-taken.taken
          c.in_ok-taken.found c.loop-count.invariant.2 c.split_at.ensures.back none c.in_ok-taken.ensures.leads,
    )
